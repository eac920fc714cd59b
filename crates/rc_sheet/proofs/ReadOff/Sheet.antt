-- What is read stands for its form: a whole sheet.
use Rattle.std.proofs.Common.{◌≡◌, refl}
use Rattle.rc_base.specs.Tree.{Tree, word, list, Trees, cons}
use Rattle.rc_sheet_spec.specs.Sheet.{Sheet}
use Rattle.rc_sheet_spec.specs.Rows.{◌▸◌, Row, Atom}
use Rattle.rc_sheet_spec.specs.Rows.{Some as Full}
use Rattle.rc_sheet_spec.specs.Naming.{Naming}
use Rattle.rc_sheet_spec.specs.StandsSetup.{StandsSetup}
use Rattle.rc_sheet_spec.specs.Stands.{Stands}
use Rattle.rc_sheet.specs.ReadNames.{rule_at}
use Rattle.rc_sheet.specs.ReadSetup.{setup_at, setup_in}
use Rattle.rc_sheet.specs.ReadItems.{body_at}
use Rattle.rc_sheet.specs.ReadSheet.{setup_rule, setup_form_at, game_parts, game_rule, sheet_at, sheet_with}
use Rattle.rc_sheet.proofs.Means.{Means, nothing, something, weaker, behind}
use Rattle.rc_sheet.proofs.ReadOff.Names.{Told, told_at}
use Rattle.rc_sheet.proofs.ReadOff.Items.{body_means}
use Rattle.rc_sheet.proofs.ReadOff.Setup.{setup_means}
use Rattle.rc_check.specs.declared.grammar.Symbol.TheVariants as symbol
use Rattle.rc_check.specs.declared.grammar.Rule.{Rule}
use Rattle.rc_check.specs.declared.grammar.Rule.TheVariants as rule

-- `(setup LINE+)`, by its rule
setup_rule_means : (naming : Naming) (from to : _) (rule : Rule) (parts : Trees) → Told rule parts
    → Means (setup_rule naming rule parts)
    (λ said. (sheet : Sheet) → setup_in sheet ≡ said → Row (Atom "setup" ▸ Full (StandsSetup naming sheet)) (list parts from to))
setup_rule_means naming from to rule.Setup (cons head lines) told =
    weaker (setup_at naming lines) (setup_means naming lines) (λ said stands sheet same. (told.0, stands sheet same))
setup_rule_means naming from to rule parts told = nothing

-- `(setup LINE+)`
pub setup_form_means : (naming : Naming) (tree : Tree)
    → Means (setup_form_at naming tree)
    (λ said. (sheet : Sheet) → setup_in sheet ≡ said → Row (Atom "setup" ▸ Full (StandsSetup naming sheet)) tree)
unfolding setup_form_at
setup_form_means naming (word bytes from to) = nothing
setup_form_means naming (list parts from to) =
    behind (rule_at symbol.Setup parts) (λ rule. setup_rule naming rule parts) (told_at symbol.Setup parts)
    (λ rule told. setup_rule_means naming from to rule parts told)

-- `(game SETUP ITEM+ SCORING)`, by its rule
game_rule_means : (naming : Naming) (from to : _) (rule : Rule) (parts : Trees) → Told rule parts
    → Means (game_rule naming rule parts) (λ sheet. Stands sheet (list parts from to))
unfolding game_parts
game_rule_means naming from to rule.Game (cons head (cons setup parts)) told =
    behind (setup_form_at naming setup) _ (setup_form_means naming setup)
    (λ said stands. behind (body_at naming parts) _ (body_means naming parts)
    (λ body stand. something (sheet_with naming said body) (told.0, (stands (sheet_with naming said body) refl, stand))))
game_rule_means naming from to rule parts told = nothing

-- the whole form
pub sheet_means : (naming : Naming) (tree : Tree) → Means (sheet_at naming tree) (λ sheet. Stands sheet tree)
unfolding sheet_at
sheet_means naming (word bytes from to) = nothing
sheet_means naming (list parts from to) =
    behind (rule_at symbol.Sheet parts) (λ rule. game_rule naming rule parts) (told_at symbol.Sheet parts)
    (λ rule told. game_rule_means naming from to rule parts told)
