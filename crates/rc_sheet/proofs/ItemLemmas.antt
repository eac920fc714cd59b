-- What an item with items in it says, by its parts, and what the body of a sheet says.
use Rattle.std.proofs.Common.{◌≡◌, ◌∙◌, ◌<◌, List, [], ◌∷◌, ◌++◌, length, get_or, IsTrue, Bool, true, nat_le, Option, Some, None, refl, sym, ap, arith, le-leb}
use Rattle.std.specs.Prelude.{option_map}
use Rattle.std.proofs.lemmas.List.{length-append}
use Rattle.rc_base.specs.Tree.{cons}
use Rattle.rc_form.specs.Form.{tree_of, trees_of, packed}
use Rattle.rc_form.specs.declared.form.Form.{Form}
use Rattle.rc_form.proofs.FormLemmas.{count_packed}
use Rattle.rc_sheet_spec.specs.Sheet.{player_class, team_class, SheetItems, Best, IntExpr}
use Rattle.rc_sheet_spec.specs.Naming.{Naming}
use Rattle.rc_check.specs.Faults.{fits, count}
use Rattle.rc_check.specs.declared.grammar.Symbol.TheVariants as symbol
use Rattle.rc_check.specs.declared.grammar.Rule.{Rule}
use Rattle.rc_check.specs.declared.grammar.Rule.TheVariants as rules
use Rattle.rc_sheet.specs.ReadNames.{◌>>=◌, both, ensure, rule_at}
use Rattle.rc_sheet.specs.ReadItems.{Begun, none_begun, with_stage, stage_of, end_at, item_rule, item_of_list, items_at, score_at, but_last, last_of, body_at}
use Rattle.rc_sheet.proofs.Parts.{rest, behind_third}
use Rattle.rc_sheet.proofs.Readings.{of_rule, fits_known}

pub player_stage_read : (naming : Naming) (begun : Begun) (parts : List Form) (rule : Rule) (end : Form)
    → rule_at symbol.Item (packed (trees_of parts)) ≡ Some rule → IsTrue (fits (length parts) rule) → rule ≡ rules.PlayerStage
    → end ≡ get_or parts 2 end
    → stage_of begun player_class (end_at naming (tree_of end)) (items_at naming (with_stage begun) (rest 3 parts))
    ≡ item_of_list naming begun (packed (trees_of parts))
player_stage_read naming begun parts rule end given sized is at =
    let fit = fits_known (length parts) rule rules.PlayerStage sized is in
    let few : 2 < length parts = grind arith in
    sym (of_rule symbol.Item (packed (trees_of parts))
    (λ rule. item_rule naming begun rule (packed (trees_of parts))) rule rules.PlayerStage given is
    ∙ ap (item_rule naming begun rules.PlayerStage) (behind_third parts end few at))

pub team_stage_read : (naming : Naming) (begun : Begun) (parts : List Form) (rule : Rule) (end : Form)
    → rule_at symbol.Item (packed (trees_of parts)) ≡ Some rule → IsTrue (fits (length parts) rule) → rule ≡ rules.TeamStage
    → end ≡ get_or parts 2 end
    → stage_of begun team_class (end_at naming (tree_of end)) (items_at naming (with_stage begun) (rest 3 parts))
    ≡ item_of_list naming begun (packed (trees_of parts))
team_stage_read naming begun parts rule end given sized is at =
    let fit = fits_known (length parts) rule rules.TeamStage sized is in
    let few : 2 < length parts = grind arith in
    sym (of_rule symbol.Item (packed (trees_of parts))
    (λ rule. item_rule naming begun rule (packed (trees_of parts))) rule rules.TeamStage given is
    ∙ ap (item_rule naming begun rules.TeamStage) (behind_third parts end few at))

-- the items before the scoring, and the scoring
but_last-push : (forms : List Form) (last : Form) → but_last (packed (trees_of (forms ++ last ∷ []))) ≡ packed (trees_of forms)
but_last-push [] last = refl
but_last-push (form ∷ []) last = refl
but_last-push (form ∷ next ∷ forms) last = ap (cons (tree_of form)) (but_last-push (next ∷ forms) last)

last_of-push : (forms : List Form) (last : Form) → last_of (packed (trees_of (forms ++ last ∷ []))) ≡ Some (tree_of last)
last_of-push [] last = refl
last_of-push (form ∷ []) last = refl
last_of-push (form ∷ next ∷ forms) last = last_of-push (next ∷ forms) last

-- with an item there are two parts
two_parts : (items : List Form) (last : Form) → (length items ≡ 0 → ⊥)
    → nat_le 2 (count (packed (trees_of (items ++ last ∷ [])))) ≡ true
two_parts [] last some = absurd (some refl)
two_parts (form ∷ forms) last some =
    let same = count_packed (forms ++ last ∷ []) in
    let long = length-append forms (last ∷ []) in
    le-leb 2 _ (omega (arith, same, long))

pub body_read : (naming : Naming) (parts items : List Form) (scoring : Form) → parts ≡ items ++ scoring ∷ []
    → (length items ≡ 0 → ⊥)
    → both (option_map (λ p. p.0) (items_at naming none_begun (packed (trees_of items)))) (score_at naming (tree_of scoring))
    ≡ body_at naming (packed (trees_of parts))
body_read naming parts items scoring is some =
    let read : Option (SheetItems × (Best × IntExpr)) = both
    (option_map (λ p. p.0) (items_at naming none_begun (but_last (packed (trees_of (items ++ scoring ∷ []))))))
    (last_of (packed (trees_of (items ++ scoring ∷ []))) >>= score_at naming) in
    ap (λ front. both (option_map (λ p. p.0) (items_at naming none_begun front)) (score_at naming (tree_of scoring)))
    (sym (but_last-push items scoring))
    ∙ ap (λ last. both (option_map (λ p. p.0) (items_at naming none_begun (but_last (packed (trees_of (items ++ scoring ∷ []))))))
    (last >>= score_at naming)) (sym (last_of-push items scoring))
    ∙ ap (λ (b : Bool). ensure b >>= λ two. read) (sym (two_parts items scoring some))
    ∙ ap (λ parts. body_at naming (packed (trees_of parts))) (sym is)

-- a scoring alone is no body
pub body_alone : (naming : Naming) (parts items : List Form) (scoring : Form) → parts ≡ items ++ scoring ∷ [] → length items ≡ 0
    → body_at naming (packed (trees_of parts)) ≡ None
body_alone naming parts [] scoring is none = ap (λ parts. body_at naming (packed (trees_of parts))) is
body_alone naming parts (item ∷ items) scoring is none = absurd (omega arith)
