-- A form with a plan that is within the limits has no fault but for another number of players.
use Rattle.std.proofs.Common.{◌≡◌, ℕ, suc, ◌+◌, ◌-◌, ◌*◌, ◌<◌, ◌≤◌, Bool, true, false, cond, ◌&&◌, ◌==◌, List, [], ◌∷◌, ◌++◌, length, inl, inr, refl, sym, ap, subst, ◌∙◌, add-zero, arith}
use Rattle.std.specs.Prelude.{codes, nat_le}
use Rattle.std.specs.Str.{bytes_eq}
use Rattle.std.specs.List.{All}
use Rattle.std.proofs.lemmas.Bool.{le-leb, eq-eqb, and_from}
use Rattle.std.proofs.lemmas.List.{append-nil}
use Rattle.std.proofs.lemmas.List.Elements.{All-nil, All-cons, All-head, All-tail}
use Rattle.std.proofs.lemmas.List.FromFn.{length-map-range_with_len, get_or-map-range_with_len}
use Rattle.std.proofs.lemmas.Slice.Eq.{bytes_eq-Decides}
use Rattle.rc_base.specs.Tree.{Tree, word, list, Trees, nil, cons, count, start_of}
use Rattle.rc_sheet_spec.specs.Rows.{Word}
use Rattle.rc_play_spec.specs.Plan.{Strategy, scripted, random, rollout, Deal, Plan}
use Rattle.rc_base.specs.Limits.{largest_seed, most_matches, most_turns, most_turns_in_all}
use Rattle.rc_play_spec.specs.Limits.{IsBetween, IsStrategyWithin, IsDealWithin, IsWithinLimits}
use Rattle.rc_play_spec.specs.PlanStands.{Number, InTurn, StandsStrategy, StandsDeal, later, counted_from, StandsFrom, StandMatches, StandsSeats, StandsMatches, StandsTurns, PlanStands}
use Rattle.rc_play_spec.specs.Faults.{Place, fault, fault_unless, is_between, is_word, is_number_between, number_between, any_number, script_number, rounds, row, each, some, headed, strategy, match, match_list, lists_among, seats, matches, turns, first_round, spelled, number_in, seat_faults, is_countable, from_faults, match_faults, turn_faults, matches_said, all_matches_said, match_parts, turn_limit, is_small, plan_faults}
use Rattle.rc_play_spec.specs.declared.plan_fault.PlanKind.{PlanKind}
use Rattle.rc_play_spec.specs.declared.plan_fault.PlanKind.TheVariants.{Shape, Number as NumberKind, Seats, Matches, Turns, TooLarge}
use Rattle.rc_play_spec.specs.declared.plan_fault.PlanFault.{PlanFault}
use Rattle.rc_play_spec.proofs.OnePlan.{no_number}

-- TESTS THAT HOLD

between_holds : (least most n : ℕ) → IsBetween least most n → is_between least most n ≡ true
between_holds least most n is = ap (λ b. b && nat_le n most) (le-leb _ _ is.0) ∙ le-leb _ _ is.1

no_fault : (b : Bool) (kind : PlanKind) (at : ℕ) → b ≡ true → fault_unless b kind at ≡ []
no_fault b kind at holds = ap (λ b. fault_unless b kind at) holds

no_faults : (xs ys : List PlanFault) → xs ≡ [] → ys ≡ [] → xs ++ ys ≡ []
no_faults xs ys first second = ap (λ xs. xs ++ ys) first ∙ second

pub number_is : (n : ℕ) (form : Tree) → Number n form → number_in form ≡ n
number_is n (word bytes from to) spells = ap spelled spells
number_is n (list parts from to) spells = absurd spells

-- THE FIRST ROUND

number_fine : (least most n : ℕ) (form : Tree) → Number n form → IsBetween least most n → number_between least most form ≡ []
number_fine least most n (word bytes from to) spells is =
    no_fault _ NumberKind from (ap (is_number_between least most) spells ∙ between_holds least most n is)
number_fine least most n (list parts from to) spells is = absurd spells

any_fine : (n : ℕ) (form : Tree) → Number n form → n ≤ largest_seed → any_number form ≡ []
any_fine n form spells most = number_fine 0 largest_seed n form spells (omega arith, most)

script_fine : (numbers : List ℕ) (parts : Trees) → InTurn Number numbers parts → All (λ n. n ≤ 65535) numbers → each script_number parts ≡ []
script_fine [] nil stand all = refl
script_fine [] (cons tree parts) stand all = absurd stand
script_fine (n ∷ numbers) nil stand all = absurd stand
script_fine (n ∷ numbers) (cons tree parts) stand all =
    no_faults (script_number tree) (each script_number parts)
    (number_fine 0 65535 n tree stand.0 (omega arith, All-head (λ n. n ≤ 65535) n numbers all))
    (script_fine numbers parts stand.1 (All-tail (λ n. n ≤ 65535) n numbers all))

one_fine : (place : Place) (from : ℕ) (a : Tree) → place a ≡ [] → row (place ∷ []) from (cons a nil) ≡ []
one_fine place from a fine = append-nil (place a) ∙ fine

two_fine : (p q : Place) (from : ℕ) (a b : Tree) → p a ≡ [] → q b ≡ [] → row (p ∷ q ∷ []) from (cons a (cons b nil)) ≡ []
two_fine p q from a b first second = no_faults (p a) (q b ++ []) first (append-nil (q b) ∙ second)

three_fine : (p q r : Place) (from : ℕ) (a b c : Tree) → p a ≡ [] → q b ≡ [] → r c ≡ [] → row (p ∷ q ∷ r ∷ []) from (cons a (cons b (cons c nil))) ≡ []
three_fine p q r from a b c first second third =
    no_faults (p a) (q b ++ (r c ++ [])) first (no_faults (q b) (r c ++ []) second (append-nil (r c) ∙ third))

-- the word at a head
head_is : (text : List ℕ) (head : Tree) → Word (λ bytes. bytes ≡ text) head → (from : ℕ) × (to : ℕ) × (head ≡ word text from to)
head_is text (word bytes from to) is = (from, to, ap (λ b. word b from to) is)
head_is text (list parts from to) is = absurd is

strategy_fine : (said : Strategy) (form : Tree) → StandsStrategy said form → IsStrategyWithin said → strategy form ≡ []
strategy_fine (scripted numbers) (word bytes from to) stands within = absurd stands
strategy_fine (scripted numbers) (list nil from to) stands within = absurd stands
strategy_fine (scripted numbers) (list (cons head parts) from to) stands within =
    let at = head_is (codes "script") head stands.0 in
    ap (λ h. strategy (list (cons h parts) from to)) at.2 ∙ script_fine numbers parts stands.1 within
strategy_fine (random key) (word bytes from to) stands within = absurd stands
strategy_fine (random key) (list nil from to) stands within = absurd stands
strategy_fine (random key) (list (cons head nil) from to) stands within = absurd stands.1
strategy_fine (random key) (list (cons head (cons a nil)) from to) stands within =
    let at = head_is (codes "random") head stands.0 in
    ap (λ h. strategy (list (cons h (cons a nil)) from to)) at.2 ∙ one_fine any_number from a (any_fine key a stands.1.0 within)
strategy_fine (random key) (list (cons head (cons a (cons b parts))) from to) stands within = absurd stands.1.1
strategy_fine (rollout r key) (word bytes from to) stands within = absurd stands
strategy_fine (rollout r key) (list nil from to) stands within = absurd stands
strategy_fine (rollout r key) (list (cons head nil) from to) stands within = absurd stands.1
strategy_fine (rollout r key) (list (cons head (cons a nil)) from to) stands within = absurd stands.1.1
strategy_fine (rollout r key) (list (cons head (cons a (cons b nil))) from to) stands within =
    let at = head_is (codes "rollout") head stands.0 in
    ap (λ h. strategy (list (cons h (cons a (cons b nil))) from to)) at.2
    ∙ two_fine rounds any_number from a b (number_fine 1 1000 r a stands.1.0 within.0) (any_fine key b stands.1.1.0 within.1)
strategy_fine (rollout r key) (list (cons head (cons a (cons b (cons c parts)))) from to) stands within = absurd stands.1.1.1

strategies_fine : (said : List Strategy) (parts : Trees) → InTurn StandsStrategy said parts → All IsStrategyWithin said → each strategy parts ≡ []
strategies_fine [] nil stand all = refl
strategies_fine [] (cons tree parts) stand all = absurd stand
strategies_fine (s ∷ said) nil stand all = absurd stand
strategies_fine (s ∷ said) (cons tree parts) stand all =
    no_faults (strategy tree) (each strategy parts) (strategy_fine s tree stand.0 (All-head IsStrategyWithin s said all))
    (strategies_fine said parts stand.1 (All-tail IsStrategyWithin s said all))

-- where there is a part, `some` is `each`
some_each : (place : Place) (from : ℕ) (parts : Trees) → nat_le 1 (count parts) ≡ true → some place from parts ≡ each place parts
some_each place from nil some = absurd cc
some_each place from (cons part parts) some = refl

not_from : (n : ℕ) (head : Tree) → Number n head → is_word (codes "from") head ≡ false
not_from n (word bytes from to) number = by_test (bytes_eq bytes (codes "from")) refl where
  by_test : (b : Bool) → bytes_eq bytes (codes "from") ≡ b → bytes_eq bytes (codes "from") ≡ false
  by_test true is = absurd (no_number n (word bytes from to) ((bytes_eq-Decides bytes (codes "from")).0 is) number)
  by_test false is = is
not_from n (list parts from to) number = refl

match_fine : (alone : Bool) (deal : Deal) (form : Tree) → StandsDeal deal form → IsDealWithin deal → match alone form ≡ []
match_fine alone deal (word bytes from to) stands within = absurd stands
match_fine alone deal (list nil from to) stands within = absurd stands
match_fine alone deal (list (cons a nil) from to) stands within = absurd stands.1
match_fine alone deal (list (cons a (cons b nil)) from to) stands within =
    ap (λ test. cond test (cond alone (row (any_number ∷ any_number ∷ any_number ∷ []) from (cons b nil)) (fault Shape from))
    (row (any_number ∷ any_number ∷ []) from (cons a (cons b nil)))) (not_from deal.deal a stands.0)
    ∙ two_fine any_number any_number from a b (any_fine deal.deal a stands.0 within.0) (any_fine deal.seats b stands.1.0 within.1)
match_fine alone deal (list (cons a (cons b (cons c parts))) from to) stands within = absurd stands.1.1

listed_fine : (alone : Bool) (deals : List Deal) (parts : Trees) → InTurn StandsDeal deals parts → All IsDealWithin deals → each (match alone) parts ≡ []
listed_fine alone [] nil stand all = refl
listed_fine alone [] (cons tree parts) stand all = absurd stand
listed_fine alone (deal ∷ deals) nil stand all = absurd stand
listed_fine alone (deal ∷ deals) (cons tree parts) stand all =
    no_faults (match alone tree) (each (match alone) parts) (match_fine alone deal tree stand.0 (All-head IsDealWithin deal deals all))
    (listed_fine alone deals parts stand.1 (All-tail IsDealWithin deal deals all))

-- what is counted stays within the numbers where its last match does
pub record CountsWithin (first : Deal) (count : ℕ) : Type 0 where
  pub some : 1 ≤ count
  pub most : count ≤ most_matches
  pub deal : first.deal + count - 1 ≤ largest_seed
  pub seats : first.seats + count - 1 ≤ largest_seed

counts_within : (first : Deal) (count : ℕ) → IsBetween 1 most_matches (length (counted_from first count)) → All IsDealWithin (counted_from first count)
    → CountsWithin first count
counts_within first count between all =
    let long = length-map-range_with_len (later first) 0 count in
    let some = between.0 in
    let most = between.1 in
    let one : 1 ≤ count = omega (arith, long, some) in
    let last : count - 1 < count = omega (arith, one) in
    let is = get_or-map-range_with_len (later first) 0 count (count - 1) (count - 1) first last (omega arith) in
    let within = subst IsDealWithin is (all (count - 1) first (omega (arith, long, last))) in
    let deal = within.0 in
    let seats = within.1 in
    record {
      some = one;
      most = omega (arith, long, most);
      deal = omega (arith, one, deal);
      seats = omega (arith, one, seats);
    }

from_fine : (deals : List Deal) (form : Tree) → StandsFrom deals form → IsBetween 1 most_matches (length deals) → All IsDealWithin deals
    → (match true form ≡ []) × (lists_among (cons form nil) ≡ 1) × (from_faults form ≡ []) × (matches_said form ≡ length deals)
from_fine deals (word bytes from to) stands between all = absurd stands.2
from_fine deals (list nil from to) stands between all = absurd stands.2
from_fine deals (list (cons head nil) from to) stands between all = absurd stands.2.1
from_fine deals (list (cons head (cons a nil)) from to) stands between all = absurd stands.2.1.1
from_fine deals (list (cons head (cons a (cons b nil))) from to) stands between all = absurd stands.2.1.1.1
from_fine deals (list (cons head (cons a (cons b (cons c nil)))) from to) stands between all =
    let first = stands.0 in
    let n = stands.1 in
    let at = head_is (codes "from") head stands.2.0 in
    let within = counts_within first n (subst (λ ds. IsBetween 1 most_matches (length ds)) stands.3 between) (subst (All IsDealWithin) stands.3 all) in
    let one = within.some in
    let most = within.most in
    let deal = within.deal in
    let seats = within.seats in
    let spells-deal = number_is first.deal a stands.2.1.0 in
    let spells-seats = number_is first.seats b stands.2.1.1.0 in
    let spells-count = number_is n c stands.2.1.1.1.0 in
    let can : is_countable first.deal first.seats n ≡ true =
    and_from _ _ (and_from _ _ (between_holds 1 most_matches n (one, most)) (le-leb _ _ deal)) (le-leb _ _ seats) in (
      ap (λ h. match true (list (cons h (cons a (cons b (cons c nil)))) from to)) at.2
          ∙ three_fine any_number any_number any_number from a b c
          (any_fine first.deal a stands.2.1.0 (omega (arith, one, deal)))
          (any_fine first.seats b stands.2.1.1.0 (omega (arith, one, seats)))
          (any_fine n c stands.2.1.1.1.0 (omega (arith, most))),
      refl,
      no_fault (is_countable (number_in a) (number_in b) (number_in c)) Matches from
          (ap (λ x. is_countable x (number_in b) (number_in c)) spells-deal
          ∙ ap (λ x. is_countable first.deal x (number_in c)) spells-seats
          ∙ ap (λ x. is_countable first.deal first.seats x) spells-count ∙ can),
      spells-count ∙ sym (ap length stands.3 ∙ length-map-range_with_len (later first) 0 n),
    )
from_fine deals (list (cons head (cons a (cons b (cons c (cons d parts))))) from to) stands between all = absurd stands.2.1.1.1.1

-- THE THREE PARTS

pub count_in_turn : {A : Type 0} (Stands : A → Tree → Type 0) (list : List A) (parts : Trees) → InTurn Stands list parts → count parts ≡ length list
count_in_turn Stands [] nil stand = refl
count_in_turn Stands [] (cons tree parts) stand = absurd stand
count_in_turn Stands (first ∷ others) nil stand = absurd stand
count_in_turn Stands (first ∷ others) (cons tree parts) stand = ap (λ n. suc n) (count_in_turn Stands others parts stand.1)

seats_fine : (said : List Strategy) (form : Tree) → StandsSeats said form → All IsStrategyWithin said
    → (seats form ≡ []) × ((players : ℕ) → seat_faults players form ≡ fault_unless (length said == players) Seats (start_of form))
seats_fine said (word bytes from to) stands all = absurd stands
seats_fine said (list nil from to) stands all = absurd stands
seats_fine said (list (cons head parts) from to) stands all =
    let at = head_is (codes "seats") head stands.0 in (
      ap (λ h. seats (list (cons h parts) from to)) at.2 ∙ some_each strategy from parts stands.1.0 ∙ strategies_fine said parts stands.1.1 all,
      λ players. ap (λ n. fault_unless (n == players) Seats from) (count_in_turn StandsStrategy said parts stands.1.1),
    )

deal_counts_once : (deal : Deal) (form : Tree) → StandsDeal deal form → (from_faults form ≡ []) × (matches_said form ≡ 1)
deal_counts_once deal (word bytes from to) stands = absurd stands
deal_counts_once deal (list nil from to) stands = absurd stands
deal_counts_once deal (list (cons a nil) from to) stands = absurd stands.1
deal_counts_once deal (list (cons a (cons b nil)) from to) stands = (refl, refl)
deal_counts_once deal (list (cons a (cons b (cons c parts))) from to) stands = absurd stands.1.1

pub deals_count_once : (deals : List Deal) (parts : Trees) → InTurn StandsDeal deals parts
    → (each from_faults parts ≡ []) × (all_matches_said parts ≡ length deals)
deals_count_once [] nil stand = (refl, refl)
deals_count_once [] (cons tree parts) stand = absurd stand
deals_count_once (deal ∷ deals) nil stand = absurd stand
deals_count_once (deal ∷ deals) (cons tree parts) stand =
    let here = deal_counts_once deal tree stand.0 in
    let rest = deals_count_once deals parts stand.1 in
    let said = here.1 in
    let others = rest.1 in
    (no_faults (from_faults tree) (each from_faults parts) here.0 rest.0, omega (arith, said, others))

-- what the matches of a plan within the limits leave
record AreFine (deals : List Deal) (form : Tree) : Type 0 where
  first : matches form ≡ []
  counts : match_faults form ≡ []
  small : (turns : ℕ) → length deals * turns ≤ most_turns_in_all → is_small (match_parts form) turns ≡ true

matches_fine : (deals : List Deal) (form : Tree) → StandsMatches deals form → IsBetween 1 most_matches (length deals) → All IsDealWithin deals
    → AreFine deals form
matches_fine deals (word bytes from to) stands between all = absurd stands
matches_fine deals (list nil from to) stands between all = absurd stands
matches_fine deals (list (cons head parts) from to) stands between all =
    let at = head_is (codes "matches") head stands.0 in
    let headed : matches (list (cons head parts) from to) ≡ match_list from parts = ap (λ h. matches (list (cons h parts) from to)) at.2 in
    by_kind parts stands.1.0 stands.1.1 headed where
      by_kind : (parts : Trees) → nat_le 1 (count parts) ≡ true → StandMatches deals parts → matches (list (cons head parts) from to) ≡ match_list from parts
          → AreFine deals (list (cons head parts) from to)
      by_kind parts many (inl listed) headed =
          let once = deals_count_once deals parts listed in
          let parts_are = count_in_turn StandsDeal deals parts listed in
          let most = between.1 in
          record {
            first = headed ∙ some_each (match (nat_le (lists_among parts) 1)) from parts many ∙ listed_fine (nat_le (lists_among parts) 1) deals parts listed all;
            counts = once.0;
            small = λ turns fits. and_from _ _ (le-leb _ _ (omega (arith, parts_are, most)))
                (ap (λ n. nat_le (n * turns) most_turns_in_all) once.1 ∙ le-leb _ _ fits);
          }
      by_kind nil many (inr counted) headed = absurd counted
      by_kind (cons form nil) many (inr counted) headed =
          let fine = from_fine deals form counted.0 between all in
          record {
            first = headed ∙ ap (λ n. some (match (nat_le n 1)) from (cons form nil)) fine.1 ∙ append-nil (match true form) ∙ fine.0;
            counts = append-nil (from_faults form) ∙ fine.2;
            small = λ turns fits. ap (λ n. nat_le (n * turns) most_turns_in_all) (add-zero (matches_said form) ∙ fine.3) ∙ le-leb _ _ fits;
          }
      by_kind (cons form (cons other parts)) many (inr counted) headed = absurd counted.1

turns_fine : (limit : ℕ) (form : Tree) → StandsTurns limit form → IsBetween 1 most_turns limit
    → (turns form ≡ []) × (turn_faults form ≡ []) × (turn_limit form ≡ limit)
turns_fine limit (word bytes from to) stands between = absurd stands
turns_fine limit (list nil from to) stands between = absurd stands
turns_fine limit (list (cons head nil) from to) stands between = absurd stands.1
turns_fine limit (list (cons head (cons a nil)) from to) stands between =
    let at = head_is (codes "turns") head stands.0 in
    let is = number_is limit a stands.1.0 in
    let most = between.1 in (
      ap (λ h. turns (list (cons h (cons a nil)) from to)) at.2 ∙ one_fine any_number from a (any_fine limit a stands.1.0 (omega (arith, most))),
      no_fault (is_between 1 most_turns (number_in a)) Turns (start_of a) (ap (λ n. is_between 1 most_turns n) is ∙ between_holds 1 most_turns limit between),
      is,
    )
turns_fine limit (list (cons head (cons a (cons b parts))) from to) stands between = absurd stands.1.1

-- THE WHOLE

pub only_seats : (plan : Plan) (form : Tree) (players : ℕ) → PlanStands plan form → IsWithinLimits plan
    → (at : ℕ) × (plan_faults players form ≡ fault_unless (length plan.strategies == players) Seats at)
only_seats plan (word bytes from to) players stands within = absurd stands
only_seats plan (list nil from to) players stands within = absurd stands
only_seats plan (list (cons head nil) from to) players stands within = absurd stands.1
only_seats plan (list (cons head (cons a nil)) from to) players stands within = absurd stands.1.1
only_seats plan (list (cons head (cons a (cons b nil))) from to) players stands within = absurd stands.1.1.1
only_seats plan (list (cons head (cons a (cons b (cons c nil)))) from to) players stands within =
    let at = head_is (codes "plan") head stands.0 in
    let seat = seats_fine plan.strategies a stands.1.0 within.strategies in
    let listed = matches_fine plan.matches b stands.1.1.0 within.count within.deals in
    let limit = turns_fine plan.turns c stands.1.1.1.0 within.turn_limit in
    let first : first_round (list (cons head (cons a (cons b (cons c nil)))) from to) ≡ [] =
    ap (λ h. first_round (list (cons h (cons a (cons b (cons c nil)))) from to)) at.2
    ∙ three_fine seats matches turns from a b c seat.0 listed.first limit.0 in
    let small : is_small (match_parts b) (turn_limit c) ≡ true = ap (λ n. is_small (match_parts b) n) limit.2 ∙ listed.small plan.turns within.size in
    let S = seat_faults players a in
    let L = fault_unless (is_small (match_parts b) (turn_limit c)) TooLarge from in (
      start_of a,
      ap (λ faults. faults ++ (S ++ match_faults b ++ turn_faults c ++ L)) first
          ∙ ap (λ faults. S ++ faults ++ turn_faults c ++ L) listed.counts
          ∙ ap (λ faults. S ++ [] ++ faults ++ L) limit.1
          ∙ ap (λ faults. S ++ [] ++ [] ++ faults) (no_fault (is_small (match_parts b) (turn_limit c)) TooLarge from small)
          ∙ append-nil (S ++ [] ++ []) ∙ append-nil (S ++ []) ∙ append-nil S
          ∙ seat.1 players,
    )
only_seats plan (list (cons head (cons a (cons b (cons c (cons d parts))))) from to) players stands within = absurd stands.1.1.1.1

pub none_at_all : (plan : Plan) (form : Tree) → PlanStands plan form → IsWithinLimits plan → plan_faults (length plan.strategies) form ≡ []
none_at_all plan form stands within =
    let all = only_seats plan form (length plan.strategies) stands within in
    all.1 ∙ no_fault (length plan.strategies == length plan.strategies) Seats all.0 (eq-eqb _ _ refl)

pub none_but_seats : (plan : Plan) (form : Tree) (players : ℕ) → PlanStands plan form → IsWithinLimits plan
    → All (λ fault. fault.kind ≡ Seats) (plan_faults players form)
none_but_seats plan form players stands within =
    let all = only_seats plan form players stands within in
    subst (All (λ fault. fault.kind ≡ Seats)) (sym all.1) (by_test (length plan.strategies == players) all.0) where
      by_test : (b : Bool) (at : ℕ) → All (λ fault. fault.kind ≡ Seats) (fault_unless b Seats at)
      by_test true at = All-nil (λ fault. fault.kind ≡ Seats)
      by_test false at = All-cons (λ fault. fault.kind ≡ Seats) (record { kind = Seats; at = at }) [] refl (All-nil (λ fault. fault.kind ≡ Seats))
