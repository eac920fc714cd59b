-- A form without a fault stands for a plan that is within the limits.
use Rattle.std.proofs.Common.{◌≡◌, ℕ, suc, ◌+◌, ◌-◌, ◌*◌, ◌<◌, ◌≤◌, ◌⊎◌, Bool, true, false, cond, ◌==◌, List, [], ◌∷◌, ◌++◌, length, inl, inr, refl, sym, ap, subst, ◌∙◌, add-zero, arith, Option, Some, None}
use Rattle.std.specs.Prelude.{codes, nat_le}
use Rattle.std.specs.List.{All}
use Rattle.std.proofs.lemmas.Bool.{and_parts, eqb-true, leb-true, le-leb}
use Rattle.std.proofs.lemmas.List.Elements.{All-nil, All-cons}
use Rattle.std.proofs.lemmas.List.FromFn.{length-map-range_with_len, get_or-map-range_with_len}
use Rattle.std.proofs.lemmas.Slice.Eq.{bytes_eq-Decides}
use Rattle.rc_base.specs.Literal.{natural}
use Rattle.rc_base.specs.Tree.{Tree, word, list, Trees, nil, cons, count}
use Rattle.rc_sheet_spec.specs.Rows.{◌▸◌, End, Row, Word, Atom}
use Rattle.rc_play_spec.specs.Plan.{Strategy, scripted, random, rollout, Deal, Plan}
use Rattle.rc_base.specs.Limits.{largest_seed, most_rounds, most_matches, most_turns, most_turns_in_all}
use Rattle.rc_play_spec.specs.Limits.{largest_script_number, IsBetween, IsStrategyWithin, IsDealWithin, IsWithinLimits}
use Rattle.rc_play_spec.specs.PlanStands.{Number, InTurn, StandsStrategy, StandsDeal, later, counted_from, StandMatches, StandsSeats, StandsMatches, StandsTurns, PlanStands}
use Rattle.rc_play_spec.specs.Faults.{Place, fault, fault_unless, is_between, is_word, is_number_between, number_between, any_number, script_number, rounds, in_turn, row, each, some, headed, strategy, match, match_list, lists_among, seats, matches, turns, first_round, number_in, seat_faults, is_countable, from_faults, match_faults, turn_faults, matches_said, all_matches_said, match_parts, turn_limit, is_small, plan_faults}
use Rattle.rc_play_spec.specs.declared.plan_fault.PlanKind.{PlanKind}
use Rattle.rc_play_spec.specs.declared.plan_fault.PlanKind.TheVariants.{Shape, Number as NumberKind, Seats, Matches, Turns, TooLarge}
use Rattle.rc_play_spec.specs.declared.plan_fault.PlanFault.{PlanFault}
use Rattle.rc_play_spec.proofs.NoFaults.{number_is, count_in_turn, deals_count_once}

-- WHERE NOTHING IS AT FAULT

pub holds_if : (b : Bool) (kind : PlanKind) (at : ℕ) → fault_unless b kind at ≡ [] → b ≡ true
holds_if true kind at none = refl
holds_if false kind at none = absurd cc

pub neither : (xs ys : List PlanFault) → xs ++ ys ≡ [] → (xs ≡ []) × (ys ≡ [])
neither [] ys none = (refl, none)
neither (x ∷ xs) ys none = absurd cc

head_word : (text : List ℕ) (head : Tree) → is_word text head ≡ true → Word (λ bytes. bytes ≡ text) head
head_word text (word bytes from to) is = (bytes_eq-Decides bytes text).0 is
head_word text (list parts from to) is = absurd cc

headed_none : (text : List ℕ) (behind : ℕ → Trees → List PlanFault) (head : Tree) (parts : Trees) (from to : ℕ)
    → headed text behind (list (cons head parts) from to) ≡ [] → (is_word text head ≡ true) × (behind from parts ≡ [])
headed_none text behind head parts from to none = by_test (is_word text head) refl none where
  by_test : (b : Bool) → is_word text head ≡ b → cond b (behind from parts) (fault Shape from) ≡ []
      → (is_word text head ≡ true) × (behind from parts ≡ [])
  by_test true is none = (is, none)
  by_test false is none = absurd cc

row_counts : (places : List Place) (from : ℕ) (parts : Trees) → row places from parts ≡ [] → count parts ≡ length places
row_counts places from parts none = by_test (count parts == length places) refl none where
  by_test : (b : Bool) → (count parts == length places) ≡ b → cond b (in_turn places parts) (fault Shape from) ≡ [] → count parts ≡ length places
  by_test true is none = eqb-true _ _ is
  by_test false is none = absurd cc

some_parts : (part : Tree) (parts : Trees) → nat_le 1 (count (cons part parts)) ≡ true
some_parts part parts = let least : 1 ≤ suc (count parts) = omega arith in le-leb 1 (suc (count parts)) least

not_one : (n : ℕ) → suc (suc n) ≡ 1 → ⊥
not_one n is = omega (arith, is)

not_two : (n : ℕ) → suc (suc (suc n)) ≡ 2 → ⊥
not_two n is = omega (arith, is)

not_three : (n : ℕ) → suc (suc (suc (suc n))) ≡ 3 → ⊥
not_three n is = omega (arith, is)

-- NUMBERS

between_if : (least most n : ℕ) → is_between least most n ≡ true → IsBetween least most n
between_if least most n is = let both = and_parts _ _ is in (leb-true least n both.0, leb-true n most both.1)

spelled_between : (least most : ℕ) (spelled : Option ℕ) → is_number_between least most spelled ≡ true
    → (n : ℕ) × (spelled ≡ Some n) × IsBetween least most n
spelled_between least most None is = absurd cc
spelled_between least most (Some n) is = (n, refl, between_if least most n is)

number_stands : (least most : ℕ) (form : Tree) → number_between least most form ≡ [] → (n : ℕ) × Number n form × IsBetween least most n
number_stands least most (word bytes from to) none = spelled_between least most (natural bytes) (holds_if _ NumberKind from none)
number_stands least most (list parts from to) none = absurd cc

any_stands : (form : Tree) → any_number form ≡ [] → (n : ℕ) × Number n form × (n ≤ largest_seed)
any_stands form none = let is = number_stands 0 largest_seed form none in (is.0, is.1, is.2.1)

script_stands : (parts : Trees) → each script_number parts ≡ []
    → (numbers : List ℕ) × InTurn Number numbers parts × All (λ n. n ≤ largest_script_number) numbers
script_stands nil none = ([], tt, All-nil (λ n. n ≤ largest_script_number))
script_stands (cons part parts) none =
    let both = neither (script_number part) (each script_number parts) none in
    let here = number_stands 0 largest_script_number part both.0 in
    let rest = script_stands parts both.1 in
    (here.0 ∷ rest.0, (here.1, rest.1), All-cons (λ n. n ≤ largest_script_number) here.0 rest.0 here.2.1 rest.2)

-- ROWS OF NUMBERS

key_stands : (from : ℕ) (parts : Trees) → row (any_number ∷ []) from parts ≡ [] → (key : ℕ) × (Number key ▸ End) parts × (key ≤ largest_seed)
key_stands from nil none = absurd cc
key_stands from (cons a nil) none =
    let is = any_stands a (neither (any_number a) [] none).0 in
    (is.0, (is.1, tt), is.2)
key_stands from (cons a (cons b parts)) none =
    absurd (not_one (count parts) (row_counts (any_number ∷ []) from (cons a (cons b parts)) none))

rollout_stands : (from : ℕ) (parts : Trees) → row (rounds ∷ any_number ∷ []) from parts ≡ []
    → (r : ℕ) × (key : ℕ) × (Number r ▸ Number key ▸ End) parts × IsStrategyWithin (rollout r key)
rollout_stands from nil none = absurd cc
rollout_stands from (cons a nil) none = absurd cc
rollout_stands from (cons a (cons b nil)) none =
    let both = neither (rounds a) (any_number b ++ []) none in
    let r = number_stands 1 most_rounds a both.0 in
    let key = any_stands b (neither (any_number b) [] both.1).0 in
    (r.0, key.0, (r.1, (key.1, tt)), (r.2, key.2))
rollout_stands from (cons a (cons b (cons c parts))) none =
    absurd (not_two (count parts) (row_counts (rounds ∷ any_number ∷ []) from (cons a (cons b (cons c parts))) none))

pair_stands : (from : ℕ) (parts : Trees) → row (any_number ∷ any_number ∷ []) from parts ≡ []
    → (deal : Deal) × (Number deal.deal ▸ Number deal.seats ▸ End) parts × IsDealWithin deal
pair_stands from nil none = absurd cc
pair_stands from (cons a nil) none = absurd cc
pair_stands from (cons a (cons b nil)) none =
    let both = neither (any_number a) (any_number b ++ []) none in
    let deal = any_stands a both.0 in
    let seat = any_stands b (neither (any_number b) [] both.1).0 in
    (record { deal = deal.0; seats = seat.0 }, (deal.1, (seat.1, tt)), (deal.2, seat.2))
pair_stands from (cons a (cons b (cons c parts))) none =
    absurd (not_two (count parts) (row_counts (any_number ∷ any_number ∷ []) from (cons a (cons b (cons c parts))) none))

count_stands : (from : ℕ) (parts : Trees) → row (any_number ∷ any_number ∷ any_number ∷ []) from parts ≡ []
    → (first : Deal) × (many : ℕ) × (Number first.deal ▸ Number first.seats ▸ Number many ▸ End) parts
count_stands from nil none = absurd cc
count_stands from (cons a nil) none = absurd cc
count_stands from (cons a (cons b nil)) none = absurd cc
count_stands from (cons a (cons b (cons c nil))) none =
    let both = neither (any_number a) (any_number b ++ (any_number c ++ [])) none in
    let others = neither (any_number b) (any_number c ++ []) both.1 in
    let deal = any_stands a both.0 in
    let seat = any_stands b others.0 in
    let many = any_stands c (neither (any_number c) [] others.1).0 in
    (record { deal = deal.0; seats = seat.0 }, many.0, (deal.1, (seat.1, (many.1, tt))))
count_stands from (cons a (cons b (cons c (cons d parts)))) none =
    absurd (not_three (count parts) (row_counts (any_number ∷ any_number ∷ any_number ∷ []) from (cons a (cons b (cons c (cons d parts)))) none))

-- SEATS

strategy_stands : (form : Tree) → strategy form ≡ [] → (said : Strategy) × StandsStrategy said form × IsStrategyWithin said
strategy_stands (word bytes from to) none = absurd cc
strategy_stands (list nil from to) none = absurd cc
strategy_stands (list (cons head parts) from to) none =
    by_tests (is_word (codes "script") head) (is_word (codes "random") head) (is_word (codes "rollout") head) refl refl refl none where
      by_tests : (a b c : Bool) → is_word (codes "script") head ≡ a → is_word (codes "random") head ≡ b → is_word (codes "rollout") head ≡ c
          → cond a (each script_number parts) (cond b (row (any_number ∷ []) from parts) (cond c (row (rounds ∷ any_number ∷ []) from parts) (fault Shape from))) ≡ []
          → (said : Strategy) × StandsStrategy said (list (cons head parts) from to) × IsStrategyWithin said
      by_tests true b c is-a is-b is-c none =
          let is = script_stands parts none in
          (scripted is.0, (head_word (codes "script") head is-a, is.1), is.2)
      by_tests false true c is-a is-b is-c none =
          let is = key_stands from parts none in
          (random is.0, (head_word (codes "random") head is-b, is.1), is.2)
      by_tests false false true is-a is-b is-c none =
          let is = rollout_stands from parts none in
          (rollout is.0 is.1, (head_word (codes "rollout") head is-c, is.2), is.3)
      by_tests false false false is-a is-b is-c none = absurd cc

strategies_stand : (parts : Trees) → each strategy parts ≡ []
    → (said : List Strategy) × InTurn StandsStrategy said parts × All IsStrategyWithin said
strategies_stand nil none = ([], tt, All-nil IsStrategyWithin)
strategies_stand (cons part parts) none =
    let both = neither (strategy part) (each strategy parts) none in
    let here = strategy_stands part both.0 in
    let rest = strategies_stand parts both.1 in
    (here.0 ∷ rest.0, (here.1, rest.1), All-cons IsStrategyWithin here.0 rest.0 here.2 rest.2)

record SeatsOf (players : ℕ) (form : Tree) : Type 0 where
  said : List Strategy
  stands : StandsSeats said form
  many : length said ≡ players
  within : All IsStrategyWithin said

seats_stand : (players : ℕ) (form : Tree) → seats form ≡ [] → seat_faults players form ≡ [] → SeatsOf players form
seats_stand players (word bytes from to) none counted = absurd cc
seats_stand players (list nil from to) none counted = absurd cc
seats_stand players (list (cons head nil) from to) none counted =
    let behind = (headed_none (codes "seats") (some strategy) head nil from to none).1 in absurd cc
seats_stand players (list (cons head (cons part parts)) from to) none counted =
    let at = headed_none (codes "seats") (some strategy) head (cons part parts) from to none in
    let is = strategies_stand (cons part parts) at.1 in
    let many = eqb-true (count (cons part parts)) players (holds_if _ Seats from counted) in
    record {
      said = is.0;
      stands = (head_word (codes "seats") head at.0, (some_parts part parts, is.1));
      many = sym (count_in_turn StandsStrategy is.0 (cons part parts) is.1) ∙ many;
      within = is.2;
    }

-- MATCHES

-- what a list among the matches stands for
record FromOf (alone : Bool) (form : Tree) : Type 0 where
  stands_alone : alone ≡ true
  first : Deal
  many : ℕ
  stands : Row (Atom "from" ▸ Number first.deal ▸ Number first.seats ▸ Number many ▸ End) form

record DealOf (form : Tree) : Type 0 where
  deal : Deal
  stands : StandsDeal deal form
  within : IsDealWithin deal

match_stands : (alone : Bool) (form : Tree) → match alone form ≡ [] → DealOf form ⊎ FromOf alone form
match_stands alone (word bytes from to) none = absurd cc
match_stands alone (list nil from to) none = absurd cc
match_stands alone (list (cons head parts) from to) none = by_tests (is_word (codes "from") head) alone refl none where
  by_tests : (b alone : Bool) → is_word (codes "from") head ≡ b
      → cond b (cond alone (row (any_number ∷ any_number ∷ any_number ∷ []) from parts) (fault Shape from)) (row (any_number ∷ any_number ∷ []) from (cons head parts)) ≡ []
      → DealOf (list (cons head parts) from to) ⊎ FromOf alone (list (cons head parts) from to)
  by_tests true true is none =
      let found = count_stands from parts none in
      inr (record {
        stands_alone = refl;
        first = found.0;
        many = found.1;
        stands = (head_word (codes "from") head is, found.2);
      })
  by_tests true false is none = absurd cc
  by_tests false alone is none =
      let found = pair_stands from (cons head parts) none in
      inl (record {
        deal = found.0;
        stands = found.1;
        within = found.2;
      })

deals_stand : (parts : Trees) → each (match false) parts ≡ [] → (deals : List Deal) × InTurn StandsDeal deals parts × All IsDealWithin deals
deals_stand nil none = ([], tt, All-nil IsDealWithin)
deals_stand (cons part parts) none =
    let both = neither (match false part) (each (match false) parts) none in
    joined (match_stands false part both.0) (deals_stand parts both.1) where
      joined : DealOf part ⊎ FromOf false part → ((deals : List Deal) × InTurn StandsDeal deals parts × All IsDealWithin deals)
          → (deals : List Deal) × InTurn StandsDeal deals (cons part parts) × All IsDealWithin deals
      joined (inl here) rest = (here.deal ∷ rest.0, (here.stands, rest.1), All-cons IsDealWithin here.deal rest.0 here.within rest.2)
      joined (inr here) rest = let bad = here.stands_alone in absurd cc

pub all_lists : (alone : Bool) (parts : Trees) → each (match alone) parts ≡ [] → lists_among parts ≡ count parts
all_lists alone nil none = refl
all_lists alone (cons (word bytes from to) parts) none = absurd cc
all_lists alone (cons (list inner from to) parts) none =
    let rest = all_lists alone parts (neither (match alone (list inner from to)) (each (match alone) parts) none).1 in
    omega (arith, rest)

-- the matches that stand behind the word
record MatchesOf (parts : Trees) (turns : ℕ) : Type 0 where
  deals : List Deal
  stand : StandMatches deals parts
  many : IsBetween 1 most_matches (length deals)
  within : All IsDealWithin deals
  size : length deals * turns ≤ most_turns_in_all

listed : (deals : List Deal) (part : Tree) (parts : Trees) (turns : ℕ) → InTurn StandsDeal deals (cons part parts) → All IsDealWithin deals
    → is_small (cons part parts) turns ≡ true → MatchesOf (cons part parts) turns
listed deals part parts turns stand within small =
    let tests = and_parts (nat_le (count (cons part parts)) most_matches) (nat_le (all_matches_said (cons part parts) * turns) most_turns_in_all) small in
    let many = count_in_turn StandsDeal deals (cons part parts) stand in
    let least : 1 ≤ suc (count parts) = omega arith in
    let most = leb-true (count (cons part parts)) most_matches tests.0 in
    let said = (deals_count_once deals (cons part parts) stand).1 in
    record {
      deals = deals;
      stand = inl stand;
      many = (subst (λ n. 1 ≤ n) many least, subst (λ n. n ≤ most_matches) many most);
      within = within;
      size = subst (λ n. n * turns ≤ most_turns_in_all) said (leb-true (all_matches_said (cons part parts) * turns) most_turns_in_all tests.1);
    }

counts_if : (first : Deal) (many : ℕ) (form : Tree) → Row (Atom "from" ▸ Number first.deal ▸ Number first.seats ▸ Number many ▸ End) form
    → from_faults form ≡ [] → (is_countable first.deal first.seats many ≡ true) × (matches_said form ≡ many)
counts_if first many (word bytes from to) stands none = absurd stands
counts_if first many (list nil from to) stands none = absurd stands
counts_if first many (list (cons head nil) from to) stands none = absurd stands.1
counts_if first many (list (cons head (cons a nil)) from to) stands none = absurd stands.1.1
counts_if first many (list (cons head (cons a (cons b nil))) from to) stands none = absurd stands.1.1.1
counts_if first many (list (cons head (cons a (cons b (cons c nil)))) from to) stands none =
    let deal = number_is first.deal a stands.1.0 in
    let seat = number_is first.seats b stands.1.1.0 in
    let counted = number_is many c stands.1.1.1.0 in
    let holds = holds_if (is_countable (number_in a) (number_in b) (number_in c)) Matches from none in (
      sym (ap (λ n. is_countable n (number_in b) (number_in c)) deal
          ∙ ap (λ n. is_countable first.deal n (number_in c)) seat
          ∙ ap (λ n. is_countable first.deal first.seats n) counted) ∙ holds,
      counted,
    )
counts_if first many (list (cons head (cons a (cons b (cons c (cons d parts))))) from to) stands none = absurd stands.1.1.1.1

pub counted_within : (first : Deal) (many : ℕ) → 1 ≤ many → first.deal + many - 1 ≤ largest_seed → first.seats + many - 1 ≤ largest_seed
    → All IsDealWithin (counted_from first many)
counted_within first many least deals seats k d lt =
    let long = length-map-range_with_len (later first) 0 many in
    let below : k < many = omega (arith, lt, long) in
    let is = get_or-map-range_with_len (later first) 0 many k k d below (omega arith) in
    subst IsDealWithin (sym is) (omega (arith, below, deals), omega (arith, below, seats))

counted : (alone : Bool) (form : Tree) (turns : ℕ) → FromOf alone form → from_faults form ≡ [] → is_small (cons form nil) turns ≡ true
    → MatchesOf (cons form nil) turns
counted alone form turns is none small =
    let first = is.first in
    let many = is.many in
    let says = counts_if first many form is.stands none in
    let tests = and_parts _ _ says.0 in
    let others = and_parts _ _ tests.0 in
    let between = between_if 1 most_matches many others.0 in
    let deals = leb-true (first.deal + many - 1) largest_seed others.1 in
    let seats = leb-true (first.seats + many - 1) largest_seed tests.1 in
    let long = length-map-range_with_len (later first) 0 many in
    let size = leb-true (all_matches_said (cons form nil) * turns) most_turns_in_all (and_parts (nat_le (count (cons form nil)) most_matches) _ small).1 in
    record {
      deals = counted_from first many;
      stand = inr ((first, many, is.stands, refl), tt);
      many = subst (IsBetween 1 most_matches) (sym long) between;
      within = counted_within first many between.0 deals seats;
      size = subst (λ n. n * turns ≤ most_turns_in_all) (add-zero (matches_said form) ∙ says.1 ∙ sym long) size;
    }

match_parts_stand : (from : ℕ) (parts : Trees) (turns : ℕ) → match_list from parts ≡ [] → each from_faults parts ≡ [] → is_small parts turns ≡ true
    → MatchesOf parts turns
match_parts_stand from nil turns none fine small = absurd cc
match_parts_stand from (cons form nil) turns none fine small =
    by_match (match_stands alone form (neither (match alone form) [] none).0) where
      alone : Bool
      alone = nat_le (lists_among (cons form nil)) 1

      by_match : DealOf form ⊎ FromOf alone form → MatchesOf (cons form nil) turns
      by_match (inl is) = listed (is.deal ∷ []) form nil turns (is.stands, tt) (All-cons IsDealWithin is.deal [] is.within (All-nil IsDealWithin)) small
      by_match (inr is) = counted alone form turns is (neither (from_faults form) [] fine).0 small
match_parts_stand from (cons form (cons other parts)) turns none fine small =
    by_test (nat_le (lists_among (cons form (cons other parts))) 1) refl none where
      by_test : (alone : Bool) → nat_le (lists_among (cons form (cons other parts))) 1 ≡ alone
          → each (match alone) (cons form (cons other parts)) ≡ [] → MatchesOf (cons form (cons other parts)) turns
      by_test true is none =
          let few = leb-true _ _ is in
          let all : lists_among (cons form (cons other parts)) ≡ suc (suc (count parts)) = all_lists true (cons form (cons other parts)) none in
          absurd (omega (arith, few, all))
      by_test false is none =
          let deals = deals_stand (cons form (cons other parts)) none in
          listed deals.0 form (cons other parts) turns deals.1 deals.2 small

stand_matches : (form : Tree) (turns : ℕ) → matches form ≡ [] → match_faults form ≡ [] → is_small (match_parts form) turns ≡ true
    → (all : MatchesOf (match_parts form) turns) × StandsMatches all.deals form
stand_matches (word bytes from to) turns none fine small = absurd cc
stand_matches (list nil from to) turns none fine small = absurd cc
stand_matches (list (cons head nil) from to) turns none fine small =
    let behind = (headed_none (codes "matches") match_list head nil from to none).1 in absurd cc
stand_matches (list (cons head (cons part parts)) from to) turns none fine small =
    let at = headed_none (codes "matches") match_list head (cons part parts) from to none in
    let all = match_parts_stand from (cons part parts) turns at.1 fine small in
    (all, (head_word (codes "matches") head at.0, (some_parts part parts, all.stand)))

-- TURNS

record TurnsOf (form : Tree) : Type 0 where
  limit : ℕ
  stands : StandsTurns limit form
  is : turn_limit form ≡ limit
  within : IsBetween 1 most_turns limit

turns_stand : (form : Tree) → turns form ≡ [] → turn_faults form ≡ [] → TurnsOf form
turns_stand (word bytes from to) none fine = absurd cc
turns_stand (list nil from to) none fine = absurd cc
turns_stand (list (cons head nil) from to) none fine =
    let behind = (headed_none (codes "turns") (row (any_number ∷ [])) head nil from to none).1 in absurd cc
turns_stand (list (cons head (cons a nil)) from to) none fine =
    let at = headed_none (codes "turns") (row (any_number ∷ [])) head (cons a nil) from to none in
    let limit = any_stands a (neither (any_number a) [] at.1).0 in
    let is = number_is limit.0 a limit.1 in
    record {
      limit = limit.0;
      stands = (head_word (codes "turns") head at.0, (limit.1, tt));
      is = is;
      within = subst (IsBetween 1 most_turns) is (between_if 1 most_turns (number_in a) (holds_if _ Turns _ fine));
    }
turns_stand (list (cons head (cons a (cons b parts))) from to) none fine =
    let at = headed_none (codes "turns") (row (any_number ∷ [])) head (cons a (cons b parts)) from to none in
    absurd (not_one (count parts) (row_counts (any_number ∷ []) from (cons a (cons b parts)) at.1))

-- THE WHOLE

-- where the first round finds nothing, these are the three parts
parts_of : (parts : Trees) → count parts ≡ 3 → (a : Tree) × (b : Tree) × (c : Tree) × (parts ≡ cons a (cons b (cons c nil)))
parts_of nil is = absurd cc
parts_of (cons a nil) is = absurd cc
parts_of (cons a (cons b nil)) is = absurd cc
parts_of (cons a (cons b (cons c nil))) is = (a, b, c, refl)
parts_of (cons a (cons b (cons c (cons d parts)))) is = absurd (not_three (count parts) is)

three_stand : (players : ℕ) (head a b c : Tree) (from to : ℕ) → 1 ≤ players → players ≤ 8
    → plan_faults players (list (cons head (cons a (cons b (cons c nil)))) from to) ≡ []
    → (plan : Plan) × PlanStands plan (list (cons head (cons a (cons b (cons c nil)))) from to) × IsWithinLimits plan × (length plan.strategies ≡ players)
three_stand players head a b c from to least most none =
    let rounds = neither (first_round (list (cons head (cons a (cons b (cons c nil)))) from to)) _ none in
    let at = headed_none (codes "plan") (row (seats ∷ matches ∷ turns ∷ [])) head (cons a (cons b (cons c nil))) from to rounds.0 in
    let first = neither (seats a) (matches b ++ (turns c ++ [])) at.1 in
    let second = neither (matches b) (turns c ++ []) first.1 in
    let third = (neither (turns c) [] second.1).0 in
    let all = neither _ _ rounds.1 in
    let parts = neither _ _ all.0 in
    let counts = neither _ _ parts.0 in
    let seat = seats_stand players a first.0 counts.0 in
    let limit = turns_stand c third parts.1 in
    let small = holds_if (is_small (match_parts b) (turn_limit c)) TooLarge from all.1 in
    let listed = stand_matches b (turn_limit c) second.0 counts.1 small in
    let deals = listed.0 in
    let many = seat.many in (
      record {
        strategies = seat.said;
        matches = deals.deals;
        turns = limit.limit;
      },
      (head_word (codes "plan") head at.0, (seat.stands, (listed.1, (limit.stands, tt)))),
      record {
        seats = (omega (arith, many, least), omega (arith, many, most));
        strategies = seat.within;
        count = deals.many;
        deals = deals.within;
        turn_limit = limit.within;
        size = subst (λ n. length deals.deals * n ≤ most_turns_in_all) limit.is deals.size;
      },
      many,
    )

pub some_plan : (form : Tree) (players : ℕ) → 1 ≤ players → players ≤ 8 → plan_faults players form ≡ []
    → (plan : Plan) × PlanStands plan form × IsWithinLimits plan × (length plan.strategies ≡ players)
some_plan (word bytes from to) players least most none = absurd cc
some_plan (list nil from to) players least most none = absurd cc
some_plan (list (cons head parts) from to) players least most none =
    let rounds = neither (first_round (list (cons head parts) from to)) _ none in
    let at = headed_none (codes "plan") (row (seats ∷ matches ∷ turns ∷ [])) head parts from to rounds.0 in
    let is = parts_of parts (row_counts (seats ∷ matches ∷ turns ∷ []) from parts at.1) in
    subst (λ ps. (plan : Plan) × PlanStands plan (list (cons head ps) from to) × IsWithinLimits plan × (length plan.strategies ≡ players))
    (sym is.3)
    (three_stand players head is.0 is.1 is.2 from to least most
    (subst (λ ps. plan_faults players (list (cons head ps) from to) ≡ []) is.3 none))
