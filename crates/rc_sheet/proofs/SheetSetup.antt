-- What a sheet says before its items is what the setup of its form says.
use Rattle.std.proofs.Common.{◌≡◌, ℕ, Some, refl, sym, subst}
use Rattle.rc_base.specs.Tree.{Tree, word, list, Trees, cons}
use Rattle.rc_sheet_spec.specs.Sheet.{SheetItems, Best, IntExpr, Sheet}
use Rattle.rc_sheet_spec.specs.Naming.{Naming}
use Rattle.rc_check.specs.declared.grammar.Symbol.TheVariants as symbol
use Rattle.rc_check.specs.declared.grammar.Rule.{Rule}
use Rattle.rc_check.specs.declared.grammar.Rule.TheVariants as rule
use Rattle.rc_sheet.specs.ReadNames.{rule_at}
use Rattle.rc_sheet.specs.ReadItems.{body_at}
use Rattle.rc_sheet.specs.ReadSetup.{Setup}
use Rattle.rc_sheet.specs.ReadSheet.{setup_form_at, game_parts, game_rule, sheet_at, sheet_with}
use Rattle.rc_sheet.proofs.Means.{Means, nothing, something, means_if, means_so, behind, anything}
use Rattle.rc_sheet.proofs.Fine.Lines.{setup_in}

-- a sheet that the setup of the form makes, with some items and some score
record HasSetup (naming : Naming) (tree : Tree) (sheet : Sheet) : Type 0 where
  setup : Setup
  body : SheetItems × (Best × IntExpr)
  read : setup_form_at naming (setup_in tree) ≡ Some setup
  is : sheet ≡ sheet_with naming setup body

-- by its rule
game_has_setup : (naming : Naming) (rule : Rule) (parts : Trees) (from to : ℕ)
    → Means (game_rule naming rule parts) (HasSetup naming (list parts from to))
unfolding game_parts
game_has_setup naming rule.Game (cons head (cons setup rest)) from to =
    behind (setup_form_at naming setup) _ (means_if (setup_form_at naming setup) (λ said read. read))
    (λ said read. behind (body_at naming rest) _ (anything (body_at naming rest))
    (λ body u. something (sheet_with naming said body) (record { setup = said; body = body; read = read; is = refl })))
game_has_setup naming rule parts from to = nothing

-- a whole form
has_setup : (naming : Naming) (tree : Tree) → Means (sheet_at naming tree) (HasSetup naming tree)
unfolding sheet_at
has_setup naming (word bytes from to) = nothing
has_setup naming (list parts from to) =
    behind (rule_at symbol.Sheet parts) (λ rule. game_rule naming rule parts) (anything (rule_at symbol.Sheet parts))
    (λ rule u. game_has_setup naming rule parts from to)

-- what holds of each sheet with the setup that is read holds of the one that is read
pub by_setup : (P : Sheet → Type 0) (naming : Naming) (tree : Tree) (sheet : Sheet) → sheet_at naming tree ≡ Some sheet
    → Means (setup_form_at naming (setup_in tree)) (λ s. (body : SheetItems × (Best × IntExpr)) → P (sheet_with naming s body))
    → P sheet
by_setup P naming tree sheet is means =
    let has = means_so (sheet_at naming tree) sheet (has_setup naming tree) is in
    subst P (sym has.is) (means_so (setup_form_at naming (setup_in tree)) has.setup means has.read has.body)
