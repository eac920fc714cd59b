-- What is read once for all cards that a variable runs over.
use Rattle.std.proofs.Common.{◌≡◌, ℕ, zero, suc, ◌<◌, List, [], ◌∷◌, ◌++◌, length, map, slice_get, arith, refl, sym, ap}
use Rattle.std.proofs.Common.{ap₂, ◌∙◌}
use Rattle.std.proofs.Common.{Option, Some, None, option_map}
use Rattle.std.specs.Prelude.{IfSome}
use Rattle.rc_sheet_spec.specs.Sheet.{Who, team_of_var, who_var, Loc, LocName, CardExpr, card_var, top_card}
use Rattle.rc_sheet_spec.specs.Sheet.{CollExpr, group_var, cards_in, Test, eq_attr, eq_card}
use Rattle.rc_sheet_spec.specs.Naming.{class_of}
use Rattle.rc_play_spec.specs.Ends.{last_of}
use Rattle.rc_play_spec.specs.Owners.{place_among}
use Rattle.rc_play_spec.specs.Scene.{CardValue}
use Rattle.rc_play_spec.specs.Shape.{team_at, face_eq}
use Rattle.rc_play_spec.specs.Value.{Scene as PureScene, Bind as PureBind, card_bound, card_of, player_of, group_of}
use Rattle.rc_play_spec.specs.Value.{cut}
use Rattle.rc_play_spec.specs.Value.{both, nat_same, attr_of_any, cards_there, loc_place}
use Rattle.rc_play_spec.specs.Value.{card_value, coll_value, who_value, test_value}
use Rattle.rc_value.specs.Cards.{value_seen}
use Rattle.rc_value.specs.Once.{IsCardOnce, IsTopOnce, IsOuterOwner, alike, valued}
use Rattle.rc_value.specs.Sought.{IsSought}
use Rattle.rc_value.specs.declared.cards.Card.{Card}
use Rattle.rc_value.proofs.WantedLemmas.{both_turned, faces_turned, variable_is}

outer_var : {B : Type 0} (vars : List B) (m : B) (var : ℕ) → var < length vars →
    slice_get (vars ++ m ∷ []) var ≡ slice_get vars var
outer_var [] m var lt = absurd (omega (arith, lt))
outer_var (b ∷ vars) m zero lt = refl
outer_var (b ∷ vars) m (suc var) lt = outer_var vars m var (omega (arith, lt))

pub outer_player : (who : Who) (var count : ℕ) → who ≡ who_var var → var < count → IsOuterOwner count who
outer_player who var count is lt = λ known vars m long.
    ap (who_value known (vars ++ m ∷ [])) is ∙ ap player_of (outer_var vars m var (omega (arith, lt, long)))
    ∙ sym (ap (who_value known vars) is)

pub outer_team : (who : Who) (var count : ℕ) → who ≡ team_of_var var → var < count → IsOuterOwner count who
outer_team who var count is lt = λ known vars m long.
    ap (who_value known (vars ++ m ∷ [])) is
    ∙ ap (λ b. team_at known.shape (player_of b)) (outer_var vars m var (omega (arith, lt, long)))
    ∙ sym (ap (who_value known vars) is)

module _ (s : PureScene CardValue) (vars : List (PureBind CardValue)) where
  pub var_once : (e : CardExpr) (var : ℕ) (card : Option Card) → e ≡ card_var var → var < length vars →
      option_map value_seen card ≡ card_of (slice_get vars var) → IsCardOnce s vars e card
  var_once e var card is lt here = λ m.
      here ∙ ap card_of (sym (outer_var vars m var lt)) ∙ sym (ap (card_value s (vars ++ m ∷ [])) is)

  pub group_once : (e : CollExpr) (var : ℕ) (card : Option Card) → e ≡ group_var var → var < length vars →
      option_map value_seen card ≡ last_of (cut (group_of (slice_get vars var))) → IsTopOnce s vars e card
  group_once e var card is lt here = λ m.
      here ∙ ap (λ b. last_of (cut (group_of b))) (sym (outer_var vars m var lt))
      ∙ sym (ap (λ e. last_of (coll_value s (vars ++ m ∷ []) e)) is)

  pub loc_once : (e : CollExpr) (loc : Loc) (card : Option Card) → e ≡ cards_in loc →
      IsOuterOwner (length vars) loc.who →
      option_map value_seen card ≡ last_of (cut (cards_there s (loc_place s.known vars loc))) → IsTopOnce s vars e card
  loc_once e loc card is outer here = λ m.
      let classes = map (λ (l : LocName). l.class) s.known.sheet.locs in
      here
      ∙ ap (λ n. last_of (cut (cards_there s (place_among s.known.sheet (class_of loc.who) classes loc.name n))))
      (sym (outer s.known vars m refl))
      ∙ sym (ap (λ e. last_of (coll_value s (vars ++ m ∷ []) e)) is)

  pub top_is : (e : CardExpr) (cards : CollExpr) (card : Option (Option Card)) → e ≡ top_card cards →
      IfSome card (IsTopOnce s vars cards) → IfSome card (IsCardOnce s vars e)
  top_is e cards None is here = here
  top_is e cards (Some card) is here = λ m. here m ∙ sym (ap (card_value s (vars ++ m ∷ [])) is)

  -- a test against such a card
  pub value_once : (t : Test) (a b : CardExpr) (name other : ℕ) (card : Option (Option Card)) →
      t ≡ eq_attr a name b other →
      a ≡ card_var (length vars) → IfSome card (IsCardOnce s vars b) →
      IfSome (option_map (valued s name other) card) (IsSought s vars t)
  value_once t a b name other None is variable once = once
  value_once t a b name other (Some card) is variable once = λ c.
      ap (test_value s (vars ++ card_bound c ∷ [])) is
      ∙ ap₂ (λ x y. both nat_same (attr_of_any s name x) (attr_of_any s other y))
      (variable_is s vars c a variable) (sym (once (card_bound c)))

  pub value_turned : (t : Test) (a b : CardExpr) (name other : ℕ) (card : Option (Option Card)) →
      t ≡ eq_attr a name b other →
      b ≡ card_var (length vars) → IfSome card (IsCardOnce s vars a) →
      IfSome (option_map (valued s other name) card) (IsSought s vars t)
  value_turned t a b name other None is variable once = once
  value_turned t a b name other (Some card) is variable once = λ c.
      ap (test_value s (vars ++ card_bound c ∷ [])) is
      ∙ ap₂ (λ x y. both nat_same (attr_of_any s name x) (attr_of_any s other y))
      (sym (once (card_bound c))) (variable_is s vars c b variable)
      ∙ both_turned (attr_of_any s name (option_map value_seen card)) (attr_of_any s other (Some c))

  pub face_once : (t : Test) (a b : CardExpr) (card : Option (Option Card)) → t ≡ eq_card a b →
      a ≡ card_var (length vars) → IfSome card (IsCardOnce s vars b) →
      IfSome (option_map alike card) (IsSought s vars t)
  face_once t a b None is variable once = once
  face_once t a b (Some card) is variable once = λ c.
      ap (test_value s (vars ++ card_bound c ∷ [])) is
      ∙ ap₂ (λ x y. both face_eq (option_map s.face x) (option_map s.face y))
      (variable_is s vars c a variable) (sym (once (card_bound c)))

  pub face_turned : (t : Test) (a b : CardExpr) (card : Option (Option Card)) → t ≡ eq_card a b →
      b ≡ card_var (length vars) → IfSome card (IsCardOnce s vars a) →
      IfSome (option_map alike card) (IsSought s vars t)
  face_turned t a b None is variable once = once
  face_turned t a b (Some card) is variable once = λ c.
      ap (test_value s (vars ++ card_bound c ∷ [])) is
      ∙ ap₂ (λ x y. both face_eq (option_map s.face x) (option_map s.face y))
      (sym (once (card_bound c))) (variable_is s vars c b variable)
      ∙ faces_turned (option_map s.face (option_map value_seen card)) (Some (s.face c))
