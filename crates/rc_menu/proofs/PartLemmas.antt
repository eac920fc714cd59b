-- Guards that are known in parts.
use Rattle.std.proofs.Common.{◌≡◌, ℕ, ◌+◌, ◌<◌, ◌≤◌, ◌&&◌, Bool, true, false, cond, List, [], ◌∷◌, ◌++◌, length, map, drop, get_or, pos, refl, sym, ap, ap₂, ◌∙◌, append-nil}
use Rattle.std.specs.List.{list_any, list_all}
use Rattle.std.proofs.lemmas.List.{drop_all}
use Rattle.rc_sheet_spec.specs.Sheet.{Who, game, current_player, current_team, team_of_current, team_of_var, who_var, Loc as PureLoc, cards_in, top_card}
use Rattle.rc_sheet_spec.specs.Lists.{tests_from}
use Rattle.rc_play_spec.specs.Scene.{CardValue}
use Rattle.rc_play_spec.specs.Value.{Scene as PureScene, Bind as PureBind, card_bound, nat_same, both, attr_of_any, worth_of_any, test_value, tests_value}
use Rattle.rc_ast.specs.Names.{loc_seen, num_seen}
use Rattle.rc_code.specs.declared.amounts.Amount.{Amount}
use Rattle.rc_code.specs.declared.amounts.Amount.TheVariants.{Literal, Number, Size, Worth}
use Rattle.rc_code.specs.declared.atoms.Comparison.{Comparison}
use Rattle.rc_code.specs.declared.atoms.Comparison.TheVariants.{Compare, Same}
use Rattle.rc_code.specs.declared.atoms.Comparator.TheVariants.{Equal}
use Rattle.rc_code.specs.declared.guards.Sense.TheVariants.{Plain}
use Rattle.rc_code.specs.declared.guards.GuardTest.TheVariants.{Known}
use Rattle.rc_code.specs.declared.guards.GuardPart.{GuardPart}
use Rattle.rc_code.specs.declared.guards.Joint.{Joint}
use Rattle.rc_code.specs.declared.guards.Joint.TheVariants.{Sole, All as AllOfThem, Any}
use Rattle.rc_code.specs.declared.guards.Guard.{Guard}
use Rattle.rc_code.specs.FlatMeaning.{amount_meant, comparison_meant}
use Rattle.rc_code.specs.Guards.{guard_meant, joined_tests, part_meant, IsFixedAmount, IsFixedComparison, IsFixedLoc, IsFixedWho}
use Rattle.rc_rules.proofs.Elements.{drop_here}
use Rattle.rc_value.specs.Comparing.{compare}
use Rattle.rc_value.specs.Wanted.{IsFixed, IsFixedCollection, IsFixedOwner}
use Rattle.rc_value.proofs.AtomLemmas.{compared_is}
use Rattle.rc_value.proofs.WantedLemmas.{fixed_cards, fixed_top}
use Rattle.rc_menu.specs.declared.asks.SoughtCard.{SoughtCard}
use Rattle.rc_menu.specs.declared.asks.SoughtCard.TheVariants.{Worth, Whole, Value, CardTest}
use Rattle.rc_menu.specs.Asks.{ask_value, asks_value, joined, one_suffices, parts_told, told_of, IsJoined}
use Rattle.rc_menu.specs.Known.{IsFixedNumber, IsKnownAt}
use Rattle.rc_menu.proofs.AskLemmas.{joined_one}
use Rattle.rc_menu.proofs.KnownLemmas.{fixed_literal, fixed_num, fixed_size}

-- what no variable owns is the same whatever variables stand for
pub fixed_who : (who : Who) → IsFixedWho who → IsFixedOwner who
fixed_who game fixed = λ known vars vars'. refl
fixed_who current_player fixed = λ known vars vars'. refl
fixed_who current_team fixed = λ known vars vars'. refl
fixed_who team_of_current fixed = λ known vars vars'. refl
fixed_who (team_of_var var) fixed = absurd fixed
fixed_who (who_var var) fixed = absurd fixed

pub fixed_here : (loc : PureLoc) → IsFixedLoc loc → IsFixedCollection (cards_in loc)
fixed_here loc fixed = fixed_cards loc (cards_in loc) refl (fixed_who loc.who fixed)

pub fixed_above : (loc : PureLoc) → IsFixedLoc loc → IsFixed (top_card (cards_in loc))
fixed_above loc fixed = fixed_top (cards_in loc) (top_card (cards_in loc)) refl (fixed_here loc fixed)

fixed_amount : (amount : Amount) → IsFixedAmount amount → IsFixedNumber (amount_meant amount)
fixed_amount (Literal value) fixed = fixed_literal value (amount_meant (Literal value)) refl
fixed_amount (Number num) fixed = fixed_num (num_seen num) (amount_meant (Number num)) refl (fixed_who (num_seen num).who fixed)
fixed_amount (Size loc) fixed = fixed_size (cards_in (loc_seen loc)) (amount_meant (Size loc)) refl (fixed_here (loc_seen loc) fixed)
fixed_amount (Worth loc points) fixed = λ s vars vars'. ap (worth_of_any s points) (fixed_above (loc_seen loc) fixed s vars vars')

fixed_comparison : (comparison : Comparison) → IsFixedComparison comparison →
    (s : PureScene CardValue) (vars vars' : List (PureBind CardValue)) →
    test_value s vars (comparison_meant comparison) ≡ test_value s vars' (comparison_meant comparison)
fixed_comparison (Compare how one other) fixed s vars vars' =
    sym (compared_is s vars how (amount_meant one) (amount_meant other))
    ∙ ap₂ (compare how) (fixed_amount one fixed.0 s vars vars') (fixed_amount other fixed.1 s vars vars')
    ∙ compared_is s vars' how (amount_meant one) (amount_meant other)
fixed_comparison (Same one name other other_name) fixed s vars vars' =
    ap₂ (λ x y. both nat_same (attr_of_any s name x) (attr_of_any s other_name y))
    (fixed_above (loc_seen one) fixed.0 s vars vars') (fixed_above (loc_seen other) fixed.1 s vars vars')

-- a comparison of what no variable owns is known
pub comparison_known : (s : PureScene CardValue) (vars : List (PureBind CardValue)) (count : ℕ) (comparison : Comparison) (holds : Bool) → IsFixedComparison comparison →
    holds ≡ test_value s vars (comparison_meant comparison) → IsKnownAt s count (comparison_meant comparison) holds
comparison_known s vars count comparison holds fixed is =
    λ vars' few. fixed_comparison comparison fixed s vars' vars ∙ sym is

-- what is read of a list of parts at a place that it hasn't
abbrev pub no_part : GuardPart
no_part = record { sense = Plain; guard_test = Known (Compare Equal (Literal (pos 0)) (Literal (pos 0))) }

-- where values are all that is asked, and one more is
pub sought_more : (asks : List SoughtCard) (ask : SoughtCard) → list_all asks_value asks ≡ true →
    asks_value ask ≡ true → list_all asks_value (asks ++ ask ∷ []) ≡ true
sought_more [] ask sought by_row = ap (λ b. b && true) by_row
sought_more (Value value row ∷ asks) ask sought by_row = sought_more asks ask sought by_row
sought_more (CardTest equal value row ∷ asks) ask sought by_row = sought_more asks ask sought by_row
sought_more (Worth w ∷ asks) ask sought by_row = absurd (cc)
sought_more (Whole t ∷ asks) ask sought by_row = absurd (cc)

module _ (s : PureScene CardValue) (vars : List (PureBind CardValue)) where
  -- parts one by one
  module _ (parts : List GuardPart) (any : Bool) where
    abbrev pub left_told : List SoughtCard → ℕ → CardValue → Bool
    left_told asks i c = joined any (map (ask_value s vars c) asks ++ parts_told s vars (drop i parts) c)

    abbrev pub whole_told : CardValue → Bool
    whole_told c = joined any (parts_told s vars parts c)

    part_here : (i : ℕ) (part : GuardPart) (settled : Bool) (old new : List SoughtCard) → i < length parts →
        part ≡ get_or parts i part →
        IsJoined s vars (part_meant part) any settled old new → ((c : CardValue) → left_told old i c ≡ whole_told c) →
        (c : CardValue) → cond settled any (left_told new (i + 1) c) ≡ whole_told c
    part_here i part settled old new lt is h told = λ c.
        sym (h c (parts_told s vars (drop (i + 1) parts) c))
        ∙ ap (λ ps. joined any (map (ask_value s vars c) old ++ parts_told s vars ps c)) (sym (drop_here parts i part lt is)) ∙ told c

    pub part_on : (i : ℕ) (part : GuardPart) (settled : Bool) (old new : List SoughtCard) → i < length parts →
        part ≡ get_or parts i part →
        IsJoined s vars (part_meant part) any settled old new → ((c : CardValue) → left_told old i c ≡ whole_told c) → settled ≡ false →
        (c : CardValue) → left_told new (i + 1) c ≡ whole_told c
    part_on i part settled old new lt is h told not' = λ c.
        ap (λ b. cond b any (left_told new (i + 1) c)) (sym not') ∙ part_here i part settled old new lt is h told c

    pub part_stop : (i : ℕ) (part : GuardPart) (settled : Bool) (old new : List SoughtCard) → i < length parts →
        part ≡ get_or parts i part →
        IsJoined s vars (part_meant part) any settled old new → ((c : CardValue) → left_told old i c ≡ whole_told c) → settled ≡ true →
        (c : CardValue) → whole_told c ≡ any
    part_stop i part settled old new lt is h told yes' = λ c.
        sym (ap (λ b. cond b any (left_told new (i + 1) c)) (sym yes') ∙ part_here i part settled old new lt is h told c)

    pub part_end : (i : ℕ) (asks : List SoughtCard) → length parts ≤ i → ((c : CardValue) →
        left_told asks i c ≡ whole_told c) →
        (c : CardValue) → whole_told c ≡ joined any (map (ask_value s vars c) asks)
    part_end i asks le told = λ c.
        sym (told c)
        ∙ ap (λ ps. joined any (map (ask_value s vars c) asks ++ parts_told s vars ps c)) (drop_all i parts le)
        ∙ ap (joined any) (append-nil (map (ask_value s vars c) asks))

  -- what a guard says, by its parts
  parts_from : (c : CardValue) (parts : List GuardPart) → tests_value s (vars ++ card_bound c ∷ []) (tests_from (map part_meant parts)) ≡ parts_told s vars parts c
  parts_from c [] = refl
  parts_from c (part ∷ parts) = ap (λ bs. told_of s vars (part_meant part) c ∷ bs) (parts_from c parts)

  told_by : (joint : Joint) (c : CardValue) (parts : List GuardPart) →
      told_of s vars (joined_tests joint (map part_meant parts)) c ≡ joined (one_suffices joint) (parts_told s vars parts c)
  told_by Any c parts = ap (list_any (λ b. b)) (parts_from c parts)
  told_by AllOfThem c parts = ap (list_all (λ b. b)) (parts_from c parts)
  told_by Sole c [] = refl
  told_by Sole c (part ∷ []) = sym (joined_one false (told_of s vars (part_meant part) c))
  told_by Sole c (part ∷ next ∷ parts) = ap (list_all (λ b. b)) (parts_from c (part ∷ next ∷ parts))

  pub guard_told : (guard : Guard) (c : CardValue) → told_of s vars (guard_meant guard) c ≡ joined (one_suffices guard.joint) (parts_told s vars guard.parts.items c)
  guard_told guard c = told_by guard.joint c guard.parts.items
