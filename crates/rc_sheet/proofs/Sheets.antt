-- A sheet is read where its setup and its body are.
use Rattle.std.proofs.Common.{◌≡◌, ◌≤◌, List, [], ◌∷◌, length, drop, get_or, Option, Some, ap, sym, ◌∙◌}
use native.Mathlib.Omega.{arith}
use Rattle.rc_base.specs.Tree.{Tree, Trees, packed}
use Rattle.rc_form.specs.Form.{tree_of, trees_of}
use Rattle.rc_form.specs.declared.form.Form.{Form}
use Rattle.rc_check.specs.declared.grammar.Rule.TheVariants as rule
use Rattle.rc_sheet_spec.specs.Sheet.{SheetItems, Best, IntExpr, Sheet}
use Rattle.rc_sheet_spec.specs.Naming.{Naming}
use Rattle.rc_sheet.specs.ReadNames.{◌>>=◌}
use Rattle.rc_sheet.specs.ReadSetup.{Setup}
use Rattle.rc_sheet.specs.ReadItems.{body_at}
use Rattle.rc_sheet.specs.ReadSheet.{setup_form_at, game_parts, game_rule, sheet_with}

-- what a setup and a body make
abbrev made : Naming → Option Setup → Option (SheetItems × (Best × IntExpr)) → Option Sheet
made naming setup body = setup >>= λ setup. body >>= λ body. Some (sheet_with naming setup body)

pub game_read : (naming : Naming) (setup : Tree) (parts : Trees) (said : Setup) (body : SheetItems × (Best × IntExpr))
    → setup_form_at naming setup ≡ Some said → body_at naming parts ≡ Some body
    → game_parts naming setup parts ≡ Some (sheet_with naming said body)
unfolding game_parts
game_read naming setup parts said body first second =
    ap (λ found. made naming found (body_at naming parts)) first ∙ ap (made naming (Some said)) second

-- a game's form is its head, its setup, and its items with the scoring
pub parts_of_game : (naming : Naming) (forms : List Form) (setup : Form) → 2 ≤ length forms → setup ≡ get_or forms 1 setup
    → game_rule naming rule.Game (packed (trees_of forms)) ≡ game_parts naming (tree_of setup) (packed (trees_of (drop 2 forms)))
parts_of_game naming [] setup few is = absurd (omega (arith, few))
parts_of_game naming (head ∷ []) setup few is = absurd (omega (arith, few))
parts_of_game naming (head ∷ first ∷ rest) setup few is =
    ap (λ form. game_parts naming (tree_of form) (packed (trees_of rest))) (sym is)
