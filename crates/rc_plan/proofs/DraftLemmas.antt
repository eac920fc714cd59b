-- What a draft says of the form from which it is read.
use Rattle.std.proofs.Common.{◌≡◌, ℕ, ◌+◌, ◌-◌, ◌*◌, ◌≤◌, true, ◌&&◌, ◌==◌, List, [], ◌∷◌, ◌++◌, length, map, All, refl, sym, ap, subst, ◌∙◌, inl, inr, add-zero, arith}
use Rattle.std.specs.Prelude.{nat_le}
use Rattle.std.proofs.lemmas.Bool.{and_parts, eqb-true, leb-true}
use Rattle.std.proofs.lemmas.List.{length-map, append-nil}
use Rattle.std.proofs.lemmas.List.FromFn.{length-map-range_with_len}
use Rattle.rc_base.specs.Tree.{Tree, word, list, Trees, nil, cons, count, start_of}
use Rattle.rc_sheet_spec.specs.Rows.{◌▸◌, End, Row, Atom}
use Rattle.rc_play_spec.specs.Plan.{Strategy, Deal}
use Rattle.rc_base.specs.Limits.{largest_seed, most_matches, most_turns, most_turns_in_all}
use Rattle.rc_play_spec.specs.Limits.{IsBetween, IsWithinLimits, IsStrategyWithin, IsDealWithin}
use Rattle.rc_play_spec.specs.PlanStands.{Number, InTurn, StandsStrategy, StandsDeal, later, StandsSeats, StandsMatches, StandsTurns, PlanStands}
use Rattle.rc_play_spec.specs.Faults.{fault_unless, is_between, number_in, seat_faults, is_countable, from_faults, each, match_faults, turn_faults, matches_said, all_matches_said, match_parts, turn_limit, is_small, second_round}
use Rattle.rc_play_spec.specs.declared.plan_fault.PlanKind.TheVariants.{Seats, Matches, Turns, TooLarge}
use Rattle.rc_play_spec.proofs.NoFaults.{number_is, count_in_turn}
use Rattle.rc_play_spec.proofs.SomePlan.{holds_if, neither, counted_within}
use Rattle.rc_rules.specs.Plan.{strategy_seen, deal_seen}
use Rattle.rc_plan.specs.Reads.{IsStrategy, AreSeats, IsDeal, IsFrom}
use Rattle.rc_plan.specs.Matches.{AreMatches}
use Rattle.rc_plan.specs.Draft.{IsLimit, IsDraft, deals_said, count_faults, are_few, draft_faults, plan_drafted}
use Rattle.rc_plan.specs.declared.draft.Draft.{Draft}
use Rattle.rc_plan.specs.declared.matches.Matches.{Matches as Said}
use Rattle.rc_plan.specs.declared.matches.Matches.TheVariants.{Listed, From}
use Rattle.rc_plan.proofs.Both.{both_in_turn}

-- SEATS

seats_as : (strategies : List Strategy) (form : Tree) → AreSeats strategies form
    → StandsSeats strategies form × All IsStrategyWithin strategies
    × ((players : ℕ) → seat_faults players form ≡ fault_unless (length strategies == players) Seats (start_of form))
seats_as strategies (word bytes from to) are = absurd are
seats_as strategies (list nil from to) are = absurd are
seats_as strategies (list (cons head parts) from to) are =
    let both = both_in_turn IsStrategy StandsStrategy IsStrategyWithin (λ strategy tree stands. stands) strategies parts are.1.1 in (
      (are.0, (are.1.0, both.0)),
      both.1,
      λ players. ap (λ n. fault_unless (n == players) Seats from) (count_in_turn IsStrategy strategies parts are.1.1),
    )

-- MATCHES

deal_as : (deal : Deal) (form : Tree) → IsDeal deal form → StandsDeal deal form × IsDealWithin deal
deal_as deal (word bytes from to) is = absurd is
deal_as deal (list nil from to) is = absurd is
deal_as deal (list (cons a nil) from to) is = absurd is.1
deal_as deal (list (cons a (cons b nil)) from to) is = ((is.0.0, (is.1.0.0, tt)), (is.0.1.1, is.1.0.1.1))
deal_as deal (list (cons a (cons b (cons c parts))) from to) is = absurd is.1.1

one_match : (deal : Deal) (form : Tree) → IsDeal deal form → (from_faults form ≡ []) × (matches_said form ≡ 1)
one_match deal (word bytes from to) is = absurd is
one_match deal (list nil from to) is = absurd is
one_match deal (list (cons a nil) from to) is = absurd is.1
one_match deal (list (cons a (cons b nil)) from to) is = (refl, refl)
one_match deal (list (cons a (cons b (cons c parts))) from to) is = absurd is.1.1

many_matches : (deals : List Deal) (parts : Trees) → InTurn IsDeal deals parts
    → (each from_faults parts ≡ []) × (all_matches_said parts ≡ length deals)
many_matches [] nil are = (refl, refl)
many_matches [] (cons tree parts) are = absurd are
many_matches (deal ∷ deals) nil are = absurd are
many_matches (deal ∷ deals) (cons tree parts) are =
    let here = one_match deal tree are.0 in
    let rest = many_matches deals parts are.1 in
    (ap (λ faults. faults ++ each from_faults parts) here.0 ∙ rest.0, let said = here.1 in let others = rest.1 in omega (arith, said, others))

from_as : (first : Deal) (count : ℕ) (form : Tree) → IsFrom first count form
    → Row (Atom "from" ▸ Number first.deal ▸ Number first.seats ▸ Number count ▸ End) form
    × (from_faults form ≡ fault_unless (is_countable first.deal first.seats count) Matches (start_of form))
    × (matches_said form ≡ count)
from_as first count (word bytes from to) is = absurd is
from_as first count (list nil from to) is = absurd is
from_as first count (list (cons a nil) from to) is = absurd is.1
from_as first count (list (cons a (cons b nil)) from to) is = absurd is.1.1
from_as first count (list (cons a (cons b (cons c nil))) from to) is = absurd is.1.1.1
from_as first count (list (cons a (cons b (cons c (cons d nil)))) from to) is =
    let deal = number_is first.deal b is.1.0.0 in
    let seats = number_is first.seats c is.1.1.0.0 in
    let counted = number_is count d is.1.1.1.0.0 in (
      (is.0, (is.1.0.0, (is.1.1.0.0, (is.1.1.1.0.0, tt)))),
      ap (λ n. fault_unless (is_countable n (number_in c) (number_in d)) Matches from) deal
          ∙ ap (λ n. fault_unless (is_countable first.deal n (number_in d)) Matches from) seats
          ∙ ap (λ n. fault_unless (is_countable first.deal first.seats n) Matches from) counted,
      counted,
    )
from_as first count (list (cons a (cons b (cons c (cons d (cons e parts))))) from to) is = absurd is.1.1.1.1

matches_as : (said : Said) (form : Tree) → AreMatches said form
    → StandsMatches (deals_said said) form × (match_faults form ≡ count_faults said)
    × ((turns : ℕ) → is_small (match_parts form) turns ≡ are_few said turns)
matches_as said (word bytes from to) are = absurd are
matches_as said (list nil from to) are = absurd are
matches_as (Listed deals) (list (cons head parts) from to) are =
    let both = both_in_turn IsDeal StandsDeal IsDealWithin deal_as (map deal_seen deals.items) parts are.1.1 in
    let many = many_matches (map deal_seen deals.items) parts are.1.1 in
    let long = length-map deals.items deal_seen in (
      (are.0, (are.1.0, inl both.0)),
      many.0,
      λ turns. ap (λ n. nat_le n most_matches && nat_le (all_matches_said parts * turns) most_turns_in_all) (count_in_turn IsDeal (map deal_seen deals.items) parts are.1.1 ∙ long)
          ∙ ap (λ n. nat_le (length deals.items) most_matches && nat_le (n * turns) most_turns_in_all) (many.1 ∙ long),
    )
matches_as (From first count at) (list (cons head nil) from to) are = absurd are.1.1
matches_as (From first count at) (list (cons head (cons form nil)) from to) are =
    let here = from_as (deal_seen first) count form are.1.1.0.0 in (
      (are.0, (are.1.0, inr ((deal_seen first, count, here.0, refl), tt))),
      append-nil (from_faults form) ∙ here.1 ∙ ap (λ at. fault_unless (is_countable first.deal first.seats count) Matches at) are.1.1.0.1,
      λ turns. ap (λ n. nat_le (n * turns) most_turns_in_all) (add-zero (matches_said form) ∙ here.2),
    )
matches_as (From first count at) (list (cons head (cons form (cons other parts))) from to) are = absurd are.1.1.1

-- the matches that are said are within the limits
pub record IsWithin (deals : List Deal) (turns : ℕ) : Type 0 where
  pub count : IsBetween 1 most_matches (length deals)
  pub each_deal : All IsDealWithin deals
  pub size : length deals * turns ≤ most_turns_in_all

matches_within : (said : Said) (form : Tree) (turns : ℕ) → AreMatches said form → count_faults said ≡ [] → are_few said turns ≡ true
    → IsWithin (deals_said said) turns
matches_within said (word bytes from to) turns are none few = absurd are
matches_within said (list nil from to) turns are none few = absurd are
matches_within (Listed deals) (list (cons head parts) from to) turns are none few =
    let both = both_in_turn IsDeal StandsDeal IsDealWithin deal_as (map deal_seen deals.items) parts are.1.1 in
    let long = length-map deals.items deal_seen in
    let parts_are = count_in_turn IsDeal (map deal_seen deals.items) parts are.1.1 in
    let some = leb-true 1 (count parts) are.1.0 in
    let tests = and_parts _ _ few in
    let listed = leb-true (length deals.items) most_matches tests.0 in
    let small = leb-true (length deals.items * turns) most_turns_in_all tests.1 in
    record {
      count = (omega (arith, some, parts_are), omega (arith, long, listed));
      each_deal = both.1;
      size = subst (λ n. n * turns ≤ most_turns_in_all) (sym long) small;
    }
matches_within (From first count at) (list (cons head parts) from to) turns are none few =
    let tests = and_parts _ _ (holds_if (is_countable first.deal first.seats count) Matches at none) in
    let first_tests = and_parts _ _ tests.0 in
    let between = and_parts _ _ first_tests.0 in
    let some = leb-true 1 count between.0 in
    let most = leb-true count most_matches between.1 in
    let deals = leb-true (first.deal + count - 1) largest_seed first_tests.1 in
    let seats = leb-true (first.seats + count - 1) largest_seed tests.1 in
    let long = length-map-range_with_len (later (deal_seen first)) 0 count in
    record {
      count = (omega (arith, long, some), omega (arith, long, most));
      each_deal = counted_within (deal_seen first) count some deals seats;
      size = subst (λ n. n * turns ≤ most_turns_in_all) (sym long) (leb-true (count * turns) most_turns_in_all few);
    }

-- TURNS

limit_as : (turns at : ℕ) (form : Tree) → IsLimit turns at form
    → StandsTurns turns form × (turn_faults form ≡ fault_unless (is_between 1 most_turns turns) Turns at) × (turn_limit form ≡ turns)
limit_as turns at (word bytes from to) is = absurd is
limit_as turns at (list nil from to) is = absurd is
limit_as turns at (list (cons head nil) from to) is = absurd is.1
limit_as turns at (list (cons head (cons limit nil)) from to) is =
    let number = number_is turns limit is.1.0.0.0 in (
      (is.0, (is.1.0.0.0, tt)),
      ap (λ n. fault_unless (is_between 1 most_turns n) Turns (start_of limit)) number ∙ ap (λ at. fault_unless (is_between 1 most_turns turns) Turns at) is.1.0.1,
      number,
    )
limit_as turns at (list (cons head (cons limit (cons other parts))) from to) is = absurd is.1.1

-- THE WHOLE

record IsOf (draft : Draft) (form : Tree) : Type 0 where
  stands : PlanStands (plan_drafted draft) form
  strategies : All IsStrategyWithin (map strategy_seen draft.strategies.items)
  faults : (players : ℕ) → second_round players form ≡ draft_faults players draft
  matches : (turns : ℕ) → count_faults draft.matches ≡ [] → are_few draft.matches turns ≡ true → IsWithin (deals_said draft.matches) turns

draft_of : (draft : Draft) (form : Tree) → IsDraft draft form → IsOf draft form
draft_of draft (word bytes from to) is = absurd is.0
draft_of draft (list nil from to) is = absurd is.0
draft_of draft (list (cons head nil) from to) is = absurd is.0.1
draft_of draft (list (cons head (cons a nil)) from to) is = absurd is.0.1.1
draft_of draft (list (cons head (cons a (cons b nil))) from to) is = absurd is.0.1.1.1
draft_of draft (list (cons head (cons a (cons b (cons c (cons d parts))))) from to) is = absurd is.0.1.1.1.1
draft_of draft (list (cons head (cons a (cons b (cons c nil)))) from to) is =
    let strategies = map strategy_seen draft.strategies.items in
    let seats = seats_as strategies a is.0.1.0.0 in
    let matches = matches_as draft.matches b is.0.1.1.0 in
    let limit = limit_as draft.turns draft.turns_at c is.0.1.1.1.0 in
    record {
      stands = (is.0.0, (seats.0, (matches.0, (limit.0, tt))));
      strategies = seats.1;
      faults = λ players.
          let first : seat_faults players a ≡ fault_unless (length draft.strategies.items == players) Seats draft.seats_at =
          seats.2 players
          ∙ ap (λ n. fault_unless (n == players) Seats (start_of a)) (length-map draft.strategies.items strategy_seen)
          ∙ ap (λ at. fault_unless (length draft.strategies.items == players) Seats at) is.0.1.0.1 in
          let few : is_small (match_parts b) (turn_limit c) ≡ are_few draft.matches draft.turns =
          ap (λ turns. is_small (match_parts b) turns) limit.2 ∙ matches.2 draft.turns in
          ap (λ faults. faults ++ match_faults b ++ turn_faults c ++ fault_unless (is_small (match_parts b) (turn_limit c)) TooLarge from) first
          ∙ ap (λ faults. fault_unless (length draft.strategies.items == players) Seats draft.seats_at ++ faults ++ turn_faults c ++ fault_unless (is_small (match_parts b) (turn_limit c)) TooLarge from) matches.1
          ∙ ap (λ faults. fault_unless (length draft.strategies.items == players) Seats draft.seats_at ++ count_faults draft.matches ++ faults ++ fault_unless (is_small (match_parts b) (turn_limit c)) TooLarge from) limit.1
          ∙ ap (λ small. fault_unless (length draft.strategies.items == players) Seats draft.seats_at ++ count_faults draft.matches ++ fault_unless (is_between 1 most_turns draft.turns) Turns draft.turns_at ++ fault_unless small TooLarge from) few
          ∙ ap (λ at. fault_unless (length draft.strategies.items == players) Seats draft.seats_at ++ count_faults draft.matches ++ fault_unless (is_between 1 most_turns draft.turns) Turns draft.turns_at ++ fault_unless (are_few draft.matches draft.turns) TooLarge at) is.1;
      matches = λ turns none few. matches_within draft.matches b turns is.0.1.1.0 none few;
    }

pub draft_stands : (draft : Draft) (form : Tree) → IsDraft draft form → PlanStands (plan_drafted draft) form
draft_stands draft form is = (draft_of draft form is).stands

pub draft_says : (draft : Draft) (form : Tree) (players : ℕ) → IsDraft draft form → second_round players form ≡ draft_faults players draft
draft_says draft form players is = (draft_of draft form is).faults players

-- what no fault of a draft says
pub record IsSound (players : ℕ) (draft : Draft) : Type 0 where
  pub seats : length draft.strategies.items ≡ players
  pub counted : count_faults draft.matches ≡ []
  pub turn_limit : IsBetween 1 most_turns draft.turns
  pub few : are_few draft.matches draft.turns ≡ true

pub sound_draft : (draft : Draft) (players : ℕ) → draft_faults players draft ≡ [] → IsSound players draft
sound_draft draft players none =
    let all = neither _ _ none in
    let three = neither _ _ all.0 in
    let two = neither _ _ three.0 in
    let between = and_parts _ _ (holds_if _ Turns draft.turns_at three.1) in
    record {
      seats = eqb-true _ _ (holds_if (length draft.strategies.items == players) Seats draft.seats_at two.0);
      counted = two.1;
      turn_limit = (leb-true 1 draft.turns between.0, leb-true draft.turns most_turns between.1);
      few = holds_if (are_few draft.matches draft.turns) TooLarge draft.at all.1;
    }

pub draft_within : (draft : Draft) (form : Tree) (players : ℕ) → IsDraft draft form → IsSound players draft → 1 ≤ players → players ≤ 8
    → IsWithinLimits (plan_drafted draft)
draft_within draft form players is sound some few =
    let all = draft_of draft form is in
    let matches = all.matches draft.turns sound.counted sound.few in
    let long = length-map draft.strategies.items strategy_seen in
    let seats = sound.seats in
    record {
      seats = (omega (arith, long, seats, some), omega (arith, long, seats, few));
      strategies = all.strategies;
      count = matches.count;
      deals = matches.each_deal;
      turn_limit = sound.turn_limit;
      size = matches.size;
    }
