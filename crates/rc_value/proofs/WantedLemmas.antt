-- Tests of a card's value, which cards are to have.
use Rattle.std.proofs.Common.{◌≡◌, ℕ, ◌&&◌, Bool, ◌==◌, true, false, List, [], ◌∷◌, ◌++◌, length, map, filter, slice_get, Option, Some, None, option_map, arith, refl, sym, ap, ap₂, subst, ◌∙◌}
use Rattle.std.specs.Prelude.{IfSome}
use mathlib.Core.Path.{fun_ext}
use Rattle.std.proofs.lemmas.Bool.Decides.{nat_tests}
use Rattle.rc_sheet_spec.specs.Sheet.{Loc, LocName, CardExpr, card_var, top_card, CollExpr, cards_in, Test, eq_attr, eq_card, has_value}
use Rattle.rc_sheet_spec.specs.Naming.{class_of}
use Rattle.rc_play_spec.specs.Owners.{place_among}
use Rattle.rc_play_spec.specs.Scene.{CardValue}
use Rattle.rc_play_spec.specs.Value.{Scene as PureScene, Bind as PureBind, card_bound, player_bound, both, nat_same, card_of, attr_of_any, cards_there, cut, last_of, card_value, coll_value, test_value}
use Rattle.rc_flow.specs.Reads.{reads_card}
use Rattle.rc_flow.proofs.Unread.{unread_card}
use Rattle.rc_value.specs.declared.wanted.SoughtValue.{SoughtValue}
use Rattle.rc_value.specs.Over.{over}
use Rattle.rc_value.specs.Wanted.{wanted_value, IsFixed, IsFixedCollection, IsFixedOwner, IsWanted, IsWantedAt}
use Rattle.rc_value.specs.Sought.{has_face}
use Rattle.rc_play_spec.specs.Shape.{face_eq}
use Rattle.rc_value.proofs.OverLemmas.{over_alike}

pub at_end : {B : Type 0} (vars : List B) (m : B) → slice_get (vars ++ m ∷ []) (length vars) ≡ Some m
at_end [] m = refl
at_end (b ∷ vars) m = at_end vars m

nat_turned : (a b : ℕ) → (a == b) ≡ (b == a)
nat_turned a b = grind (arith, nat_tests)

pub both_turned : (a b : Option ℕ) → both nat_same a b ≡ both nat_same b a
both_turned None None = refl
both_turned None (Some b) = refl
both_turned (Some a) None = refl
both_turned (Some a) (Some b) = nat_turned a b

-- what is the same whatever variables stand for
pub fixed_cards : (loc : Loc) (cards : CollExpr) → cards ≡ cards_in loc → IsFixedOwner loc.who → IsFixedCollection cards
fixed_cards loc cards is fixed = λ s vars vars'.
    ap (coll_value s vars) is
    ∙ ap (λ n. cut (cards_there s (place_among s.known.sheet (class_of loc.who) (map (λ (l : LocName). l.class) s.known.sheet.locs) loc.name n))) (fixed s.known vars vars')
    ∙ sym (ap (coll_value s vars') is)

pub fixed_top : (cards : CollExpr) (card : CardExpr) → card ≡ top_card cards → IsFixedCollection cards → IsFixed card
fixed_top cards card is fixed = λ s vars vars'. ap (card_value s vars) is ∙ ap last_of (fixed s vars vars') ∙ sym (ap (card_value s vars') is)

-- which of two faces comes first is the same
face_of_turned : (x y : List (ℕ × ℕ)) → face_eq x y ≡ face_eq y x
face_of_turned [] [] = refl
face_of_turned [] (q ∷ y) = refl
face_of_turned (p ∷ x) [] = refl
face_of_turned (p ∷ x) (q ∷ y) = ap₂ ◌&&◌ (nat_turned p.0 q.0) (ap₂ ◌&&◌ (nat_turned p.1 q.1) (face_of_turned x y))

pub faces_turned : (a b : Option (List (ℕ × ℕ))) → both face_eq a b ≡ both face_eq b a
faces_turned None None = refl
faces_turned None (Some b) = refl
faces_turned (Some a) None = refl
faces_turned (Some a) (Some b) = face_of_turned a b

module _ (s : PureScene CardValue) (vars : List (PureBind CardValue)) where
  pub variable_is : (c : CardValue) (e : CardExpr) → e ≡ card_var (length vars) →
      card_value s (vars ++ card_bound c ∷ []) e ≡ Some c
  variable_is c e is = ap (card_value s (vars ++ card_bound c ∷ [])) is ∙ ap card_of (at_end vars (card_bound c))

  once_is : (c : CardValue) (e : CardExpr) (other : ℕ) (value : Option ℕ) → reads_card (length vars) e ≡ false →
      value ≡ attr_of_any s other (card_value s (vars ++ player_bound 0 ∷ []) e) →
      attr_of_any s other (card_value s (vars ++ card_bound c ∷ []) e) ≡ value
  once_is c e other value unread is = ap (attr_of_any s other) (unread_card s vars (card_bound c) (player_bound 0) [] e unread) ∙ sym is

  pub against_is : (t : Test) (a b : CardExpr) (name other : ℕ) (value : Option ℕ) → t ≡ eq_attr a name b other → a ≡ card_var (length vars) →
      reads_card (length vars) b ≡ false → value ≡ attr_of_any s other (card_value s (vars ++ player_bound 0 ∷ []) b) →
      IsWanted s vars t (record { name = name; value = value; equal = true })
  against_is t a b name other value is variable unread once = λ c.
      ap (test_value s (vars ++ card_bound c ∷ [])) is
      ∙ ap₂ (λ x y. both nat_same (attr_of_any s name x) y) (variable_is c a variable) (once_is c b other value unread once)

  pub against_turned : (t : Test) (a b : CardExpr) (name other : ℕ) (value : Option ℕ) → t ≡ eq_attr a name b other → b ≡ card_var (length vars) →
      reads_card (length vars) a ≡ false → value ≡ attr_of_any s name (card_value s (vars ++ player_bound 0 ∷ []) a) →
      IsWanted s vars t (record { name = other; value = value; equal = true })
  against_turned t a b name other value is variable unread once = λ c.
      ap (test_value s (vars ++ card_bound c ∷ [])) is
      ∙ ap₂ (λ x y. both nat_same x (attr_of_any s other y)) (once_is c a name value unread once) (variable_is c b variable)
      ∙ both_turned value (attr_of_any s other (Some c))

  pub value_is : (t : Test) (a : CardExpr) (name value : ℕ) → t ≡ has_value a name value → a ≡ card_var (length vars) →
      IsWanted s vars t (record { name = name; value = Some value; equal = true })
  value_is t a name value is variable = λ c.
      ap (test_value s (vars ++ card_bound c ∷ [])) is
      ∙ ap (λ x. both nat_same (attr_of_any s name x) (Some value)) (variable_is c a variable)

  -- what is the same of each card is the same of all, of one of them, and of those that are kept
  pub over_told : (any : Bool) (t : Test) (P : CardValue → Bool) (cards : List CardValue) → ((c : CardValue) → test_value s (vars ++ card_bound c ∷ []) t ≡ P c) →
      over any P cards ≡ over any (λ m. test_value s (vars ++ m ∷ []) t) (map (λ c. card_bound c) cards)
  over_told any t P cards h = over_alike any P (λ m. test_value s (vars ++ m ∷ []) t) (λ c. card_bound c) cards h

  pub kept_told : (t : Test) (P : CardValue → Bool) (cards : List CardValue) → ((c : CardValue) → test_value s (vars ++ card_bound c ∷ []) t ≡ P c) →
      filter P cards ≡ filter (λ c. test_value s (vars ++ card_bound c ∷ []) t) cards
  kept_told t P cards h = ap (λ f. filter f cards) (fun_ext (λ c. sym (h c)))

  pub face_is : (t : Test) (a b : CardExpr) (other : Option CardValue) → t ≡ eq_card a b → a ≡ card_var (length vars) →
      reads_card (length vars) b ≡ false → other ≡ card_value s (vars ++ player_bound 0 ∷ []) b →
      (c : CardValue) → test_value s (vars ++ card_bound c ∷ []) t ≡ has_face s other c
  face_is t a b other is variable unread once = λ c.
      ap (test_value s (vars ++ card_bound c ∷ [])) is
      ∙ ap₂ (λ x y. both face_eq (option_map s.face x) (option_map s.face y)) (variable_is c a variable)
      (unread_card s vars (card_bound c) (player_bound 0) [] b unread ∙ sym once)

  pub face_turned : (t : Test) (a b : CardExpr) (other : Option CardValue) → t ≡ eq_card a b → b ≡ card_var (length vars) →
      reads_card (length vars) a ≡ false → other ≡ card_value s (vars ++ player_bound 0 ∷ []) a →
      (c : CardValue) → test_value s (vars ++ card_bound c ∷ []) t ≡ has_face s other c
  face_turned t a b other is variable unread once = λ c.
      ap (test_value s (vars ++ card_bound c ∷ [])) is
      ∙ ap₂ (λ x y. both face_eq (option_map s.face x) (option_map s.face y))
      (unread_card s vars (card_bound c) (player_bound 0) [] a unread ∙ sym once) (variable_is c b variable)
      ∙ faces_turned (option_map s.face other) (Some (s.face c))

-- the same in all scopes of so many variables
module _ (s : PureScene CardValue) (place : ℕ) where
  abbrev some_or : SoughtValue → Option SoughtValue → SoughtValue
  some_or d None = d
  some_or d (Some x) = x

  -- by a card that is the same whatever variables stand for
  pub wanted_fixed : (here : List (PureBind CardValue)) (t : Test) (a b : CardExpr) (name other : ℕ) (value : Option (Option ℕ)) (w : Option SoughtValue) → t ≡ eq_attr a name b other →
      a ≡ card_var place → IsFixed b → IfSome value (λ v. v ≡ attr_of_any s other (card_value s here b)) →
      w ≡ option_map (λ v. record { name = name; value = v; equal = true }) value → IfSome w (IsWantedAt s place t)
  wanted_fixed here t a b name other None None is variable fixed h e = h
  wanted_fixed here t a b name other None (Some w) is variable fixed h e = absurd (cc)
  wanted_fixed here t a b name other (Some v) None is variable fixed h e = absurd (cc)
  wanted_fixed here t a b name other (Some v) (Some w) is variable fixed h e = λ vars count c.
      ap (test_value s (vars ++ card_bound c ∷ [])) is
      ∙ ap₂ (λ x y. both nat_same (attr_of_any s name x) y) (variable_is s vars c a (variable ∙ ap card_var (sym count)))
      (ap (attr_of_any s other) (fixed s (vars ++ card_bound c ∷ []) here) ∙ sym h)
      ∙ ap (λ o. wanted_value s (some_or w o) c) (sym e)

  -- by a value that the sheet names
  pub wanted_named : (t : Test) (a : CardExpr) (name value : ℕ) (w : Option SoughtValue) → t ≡ has_value a name value → a ≡ card_var place →
      w ≡ Some (record { name = name; value = Some value; equal = true }) → IfSome w (IsWantedAt s place t)
  wanted_named t a name value w is variable e =
      subst (λ w. IfSome w (IsWantedAt s place t)) (sym e) (λ vars count. value_is s vars t a name value is (variable ∙ ap card_var (sym count)))
