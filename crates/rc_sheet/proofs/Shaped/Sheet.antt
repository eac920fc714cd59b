-- A form that stands for a well formed sheet has no fault of shape.
use Rattle.std.proofs.Common.{◌≡◌, ℕ, ◌+◌, ◌≤◌, ◌==◌, Bool, true, false, [], refl, ap, ap₂, arith, eq-eqb, ne_eqb, leb-true, lt-ltb}
use Rattle.std.specs.Prelude.{codes}
use Rattle.std.proofs.lemmas.Option.{slice_get_past}
use Rattle.rc_base.specs.Tree.{Tree, word, Trees, nil, cons, count}
use Rattle.rc_sheet_spec.specs.Sheet.{SheetItems, no_item, item, Sheet}
use Rattle.rc_sheet_spec.specs.Rows.{◌▸◌, End, AtLeast, Row, Atom}
use Rattle.rc_sheet_spec.specs.Rows.{Some as Full}
use Rattle.rc_sheet_spec.specs.Naming.{sheet_naming}
use Rattle.rc_sheet_spec.specs.StandsSetup.{StandsSetup}
use Rattle.rc_sheet_spec.specs.StandsItems.{StandItems}
use Rattle.rc_sheet_spec.specs.Stands.{StandsScoring, Stands}
use Rattle.rc_sheet_spec.specs.WellFormed.{AreItems, IsWellFormed}
use Rattle.rc_check.specs.Grammar.{front_of}
use Rattle.rc_check.specs.Faults.{faults, faults_in, behind_front, or_behind, place_at}
use Rattle.rc_sheet.proofs.One.Rows.{row_part}
use Rattle.rc_sheet.proofs.One.Items.{within_stages}
use Rattle.rc_sheet.proofs.Shaped.Common.{by_form, part_in}
use Rattle.rc_sheet.proofs.Shaped.Items.{shaped_item, shaped_score}
use Rattle.rc_sheet.proofs.Shaped.Setup.{setup_shaped}
use Rattle.rc_check.specs.declared.keyword.Keyword.TheVariants as keyword
use Rattle.rc_check.specs.declared.grammar.Symbol.TheVariants as symbol
use Rattle.rc_check.specs.declared.grammar.Rule.TheVariants as rule

-- behind the setup stand items, and the scoring last
body_place : (n index : ℕ) (last : Bool) → 2 ≤ index → (index + 1 == n) ≡ last
    → place_at rule.Game n index ≡ behind_front rule.Game last
body_place n index last behind is =
    ap₂ or_behind (slice_get_past (front_of rule.Game) index behind) (ap (behind_front rule.Game) is)

module _ (sheet : Sheet) where
  none_left : (all : SheetItems) → StandItems (sheet_naming sheet) all (StandsScoring sheet ▸ End) nil → ⊥
  none_left no_item stands = stands
  none_left (item i all) stands = stands

  body_shaped : (n index : ℕ) (all : SheetItems) (trees : Trees) → 2 ≤ index → n ≡ index + count trees
      → StandItems (sheet_naming sheet) all (StandsScoring sheet ▸ End) trees → AreItems sheet (within_stages false false) all
      → ((score : Tree) → StandsScoring sheet score → faults symbol.Scoring score ≡ [])
      → faults_in rule.Game n index trees ≡ []
  body_shaped n index no_item nil behind many stands are score = absurd stands
  body_shaped n index no_item (cons tree (cons next trees)) behind many stands are score = absurd stands.1
  body_shaped n index no_item (cons tree nil) behind many stands are score =
      part_in rule.Game n index symbol.Scoring tree nil
      (body_place n index true behind (eq-eqb (index + 1) n (omega (arith, many)))) (score tree stands.0) refl
  body_shaped n index (item i all) nil behind many stands are score = absurd stands
  body_shaped n index (item i all) (cons tree nil) behind many stands are score = absurd (none_left all stands.1)
  body_shaped n index (item i all) (cons tree (cons next trees)) behind many stands are score =
      part_in rule.Game n index symbol.Item tree (cons next trees)
      (body_place n index false behind (ne_eqb (index + 1) n (omega (arith, many))))
      (shaped_item sheet false false i tree stands.0 are.0)
      (body_shaped n (index + 1) all (cons next trees) (omega (arith, behind)) (omega (arith, many)) stands.1 are.1 score)

  -- a form that stands for a well formed sheet
  pub sheet_shaped : (tree : Tree) → Stands sheet tree → IsWellFormed sheet → faults symbol.Sheet tree ≡ []
  sheet_shaped tree stands well =
      row_part "game" (Row (Atom "setup" ▸ Full (StandsSetup (sheet_naming sheet) sheet)))
      (AtLeast 2 (StandItems (sheet_naming sheet) sheet.items (StandsScoring sheet ▸ End))) (λ tree. faults symbol.Sheet tree ≡ [])
      tree stands
      (λ f t from to setup body here there.
      let parts = cons (word (codes "game") f t) (cons setup body) in
      let enough = leb-true 2 (count body) there.0 in
      let fit = lt-ltb 3 (count parts) (omega (arith, enough)) in
      by_form symbol.Sheet rule.Game parts from to refl fit refl
      (part_in rule.Game (count parts) 0 (symbol.Word keyword.Game) (word (codes "game") f t) (cons setup body) refl refl
      (part_in rule.Game (count parts) 1 symbol.Setup setup body refl (setup_shaped sheet setup here well)
      (body_shaped (count parts) 2 sheet.items body (omega arith) (omega arith) there.1 well.items
      (λ tree stands. shaped_score sheet tree stands well.score)))))
