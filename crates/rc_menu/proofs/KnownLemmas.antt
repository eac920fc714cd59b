-- Tests that are the same in all scopes of some length.
use Rattle.std.proofs.Common.{◌≡◌, ℕ, ℤ, pos, Bool, cond, true, false, not, List, [], ◌∷◌, ◌++◌, length, map, Option, Some, None, refl, sym, ap, ap₂, ◌∙◌}
use Rattle.std.specs.Prelude.{IfSome}
use Rattle.rc_sheet_spec.specs.Sheet.{Loc, Num, NumName, CollExpr, cards_in, IntExpr, literal, number, size_of, Test, Domain, each_card, all_of, any_of}
use Rattle.rc_sheet_spec.specs.Naming.{class_of}
use Rattle.rc_play_spec.specs.Owners.{place_among}
use Rattle.rc_play_spec.specs.Scene.{CardValue}
use Rattle.rc_play_spec.specs.Value.{Scene as PureScene, Bind as PureBind, attr_of, both, card_bound, members, nat_same, number_there, coll_value, int_value, test_value}
use Rattle.rc_code.specs.declared.atoms.Comparator.{Comparator}
use Rattle.rc_menu.specs.declared.known.AtHand.{AtHand}
use Rattle.rc_menu.specs.declared.known.AtHand.TheVariants.{OfCard, Holds, Unclear}
use Rattle.rc_value.specs.declared.wanted.SoughtValue.{SoughtValue}
use Rattle.rc_menu.specs.Known.{hand_turned, turned, wanted_turned, IsAtHand, IsFixedNumber, IsKnownAt, IsKnownOver, IsKnownPair, IsTurned}
use Rattle.rc_value.specs.Comparing.{compare}
use Rattle.rc_value.specs.Over.{over}
use Rattle.rc_value.specs.Wanted.{compares, wanted_value, IsFixedCollection, IsFixedOwner, IsWantedAt}
use Rattle.rc_value.proofs.WantedLemmas.{fixed_cards, over_told}

-- numbers that no variable owns
pub fixed_literal : (value : ℤ) (e : IntExpr) → e ≡ literal value → IsFixedNumber e
fixed_literal value e is = λ s vars vars'. ap (int_value s vars) is ∙ sym (ap (int_value s vars') is)

pub fixed_num : (num : Num) (e : IntExpr) → e ≡ number num → IsFixedOwner num.who → IsFixedNumber e
fixed_num num e is fixed = λ s vars vars'.
    ap (int_value s vars) is
    ∙ ap (λ n. number_there s.known.numbers (place_among s.known.sheet (class_of num.who) (map (λ (name : NumName). name.class) s.known.sheet.nums) num.name n)) (fixed s.known vars vars')
    ∙ sym (ap (int_value s vars') is)

pub fixed_size : (cards : CollExpr) (e : IntExpr) → e ≡ size_of cards → IsFixedCollection cards → IsFixedNumber e
fixed_size cards e is fixed = λ s vars vars'.
    ap (int_value s vars) is ∙ ap (λ cs. pos (length cs)) (fixed s vars vars') ∙ sym (ap (int_value s vars') is)

not_not : (b : Bool) → not (not b) ≡ b
not_not true = refl
not_not false = refl

-- the opposite of a test of a card
turned_meets : (opposite equal : Bool) (value has : Option ℕ) → turned opposite (compares equal value has) ≡ compares (turned opposite equal) value has
turned_meets true true value has = refl
turned_meets true false value has = not_not (both nat_same has value)
turned_meets false equal value has = refl

module _ (s : PureScene CardValue) where
  -- such numbers compare in all scopes as they do in one
  pub known_pair : (vars : List (PureBind CardValue)) (how : Comparator) (a b : IntExpr) (is : Option Bool) → IsFixedNumber a → IsFixedNumber b →
      IfSome is (λ is. is ≡ compare how (int_value s vars a) (int_value s vars b)) → IfSome is (IsKnownPair s how a b)
  known_pair vars how a b None fixed fixed' h = h
  known_pair vars how a b (Some is) fixed fixed' h = λ vars'. ap₂ (compare how) (fixed s vars' vars) (fixed' s vars' vars) ∙ sym h

  -- tests of them
  pub pair_at : (count : ℕ) (how : Comparator) (a b : IntExpr) (t : Test) (is : Option Bool) →
      ((vars : List (PureBind CardValue)) → test_value s vars t ≡ compare how (int_value s vars a) (int_value s vars b)) →
      IfSome is (IsKnownPair s how a b) → IfSome is (IsKnownAt s count t)
  pair_at count how a b t None same h = h
  pair_at count how a b t (Some is) same h = λ vars few. same vars ∙ h vars

  -- how a value is wanted for an opposite
  pub wanted_opposite : (count : ℕ) (opposite : Bool) (t t' : Test) (w w' : SoughtValue) → IsTurned opposite t t' → w' ≡ wanted_turned opposite w →
      IsWantedAt s count t w → IsWantedAt s count t' w'
  wanted_opposite count opposite t t' w w' how is h = λ vars few c.
      how s (vars ++ card_bound c ∷ []) ∙ ap (turned opposite) (h vars few c) ∙ turned_meets opposite w.equal w.value (attr_of s w.name c)
      ∙ ap (λ x. wanted_value s x c) (sym is)

  -- what is at hand of an opposite
  pub turned_hand : (vars : List (PureBind CardValue)) (opposite : Bool) (t t' : Test) (hand : AtHand) → IsTurned opposite t t' →
      IsAtHand s vars t hand → IsAtHand s vars t' (hand_turned opposite hand)
  turned_hand vars opposite t t' (OfCard w) how h = λ c.
      how s (vars ++ card_bound c ∷ []) ∙ ap (turned opposite) (h c) ∙ turned_meets opposite w.equal w.value (attr_of s w.name c)
  turned_hand vars opposite t t' (Holds holds) how h = λ vars' few. how s vars' ∙ ap (turned opposite) (h vars' few)
  turned_hand vars opposite t t' Unclear how h = h

  -- tests of the cards of a location
  pub over_at : (count bound : ℕ) (any : Bool) (domain : Domain) (inner t : Test) (is : Option Bool) →
      t ≡ cond any (any_of domain bound inner) (all_of domain bound inner) →
      IfSome is (IsKnownOver s count any domain inner) → IfSome is (IsKnownAt s count t)
  over_at count bound any domain inner t None e h = h
  over_at count bound any domain inner t (Some is) e h = λ vars few. ap (test_value s vars) e ∙ h bound vars few

  over_domain : (any : Bool) (bound : ℕ) (domain : Domain) (inner : Test) (vars : List (PureBind CardValue)) →
      test_value s vars (cond any (any_of domain bound inner) (all_of domain bound inner))
      ≡ over any (λ m. test_value s (vars ++ m ∷ []) inner) (members s vars domain)
  over_domain true bound domain inner vars = refl
  over_domain false bound domain inner vars = refl

  pub known_there : (scope : List (PureBind CardValue)) (count : ℕ) (any : Bool) (domain : Domain) (inner : Test) (loc : Loc) (w : SoughtValue) (is : Bool) →
      domain ≡ each_card (cards_in loc) → IsFixedOwner loc.who → IsWantedAt s count inner w →
      is ≡ over any (wanted_value s w) (coll_value s scope (cards_in loc)) → IsKnownOver s count any domain inner is
  known_there scope count any domain inner loc w is cards fixed wanted e = λ bound vars few.
      over_domain any bound domain inner vars
      ∙ ap (λ d. over any (λ m. test_value s (vars ++ m ∷ []) inner) (members s vars d)) cards
      ∙ ap (λ cs. over any (λ m. test_value s (vars ++ m ∷ []) inner) (map (λ c. card_bound c) cs)) (fixed_cards loc (cards_in loc) refl fixed s vars scope)
      ∙ sym (over_told s vars any inner (wanted_value s w) (coll_value s scope (cards_in loc)) (wanted vars few)) ∙ sym e
