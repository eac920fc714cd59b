use Rattle.std.proofs.Common.{◌≡◌, ℕ, [], Some, ap, ◌∙◌}
use Rattle.rc_base.specs.Tree.{Tree, list, Trees, cons}
use Rattle.rc_sheet_spec.specs.Sheet.{SheetItems, Best, IntExpr}
use Rattle.rc_check.specs.Faults.{faults}
use Rattle.rc_check.specs.declared.grammar.Symbol.TheVariants as symbol
use Rattle.rc_check.specs.SecondFaults.{second_faults}
use Rattle.rc_resolve.specs.Naming.{naming_of}
use Rattle.rc_sheet.specs.ReadSetup.{Setup}
use Rattle.rc_sheet.specs.ReadSheet.{setup_form_at, sheet_with}
use Rattle.rc_sheet.proofs.Means.{means_so}
use Rattle.rc_sheet.proofs.Fine.Common.{given_of}
use Rattle.rc_sheet.proofs.Fine.Names.{Gives}
use Rattle.rc_sheet.proofs.Fine.Lines.{setup_in}
use Rattle.rc_sheet.proofs.Given.Setup.{is_set_up}
use Rattle.rc_sheet.proofs.laws.setup.setup_is_given.Goals as goal

-- what a sheet with the setup of a form gives
gives : (tree head setup : Tree) (rest : Trees) (from to : ℕ) (s : Setup) (body : SheetItems × (Best × IntExpr))
    → tree ≡ list (cons head (cons setup rest)) from to → faults symbol.Sheet tree ≡ [] → second_faults tree ≡ []
    → setup_form_at (naming_of tree) setup ≡ Some s → Gives (sheet_with (naming_of tree) s body) (given_of tree)
gives tree head setup rest from to s body same shaped sound is =
    means_so (setup_form_at (naming_of tree) (setup_in tree)) s (is_set_up tree shaped sound)
    (ap (setup_form_at (naming_of tree)) (ap setup_in same) ∙ is) body

pub returns-clause-attrs : goal.returns-clause-attrs
returns-clause-attrs c = λ tree head setup rest from to n s body bytes same shaped sound is.
    (gives tree head setup rest from to s body same shaped sound is).attrs bytes n

pub returns-clause-values : goal.returns-clause-values
returns-clause-values c = λ tree head setup rest from to n s body bytes same shaped sound is.
    (gives tree head setup rest from to s body same shaped sound is).values bytes n

pub returns-clause-maps : goal.returns-clause-maps
returns-clause-maps c = λ tree head setup rest from to n s body bytes same shaped sound is.
    (gives tree head setup rest from to s body same shaped sound is).maps bytes n
