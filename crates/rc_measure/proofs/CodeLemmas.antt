-- Loops over matches and their choices: what one more adds.
use Rattle.std.proofs.Common.{◌≡◌, ℕ, zero, suc, ◌+◌, ◌-◌, ◌<◌, ◌≤◌, ◌==◌, Bool, true, false, cond, List, [], ◌∷◌, ◌++◌, length, map, take, filter, fold, sum_by, count_by, get_or, ℤ, pos, ◌+ℤ◌, refl, sym, ap, ap₂, ◌∙◌, arith}
use Rattle.std.specs.List.{list_all, range_with_len}
use Rattle.std.proofs.lemmas.List.{map_push, take_more}
use Rattle.std.proofs.lemmas.List.Sums.{sum_by_push, fold_push}
use Rattle.std.proofs.lemmas.List.Elements.{filter-append}
use Rattle.std.proofs.Common.{below_more as upto_more, ◌⊎◌, inl, inr, not, int_lt}
use Rattle.std.specs.Int.{int_max, int_min}
use Rattle.std.proofs.lemmas.List.{get_or_append_left, get_or_push, take-map, map-append}
use Rattle.std.proofs.lemmas.List.FromFn.{fill_by_all, get_or-map-range_with_len}
use Rattle.std.proofs.lemmas.Bool.{cond_both, and_parts, and_from, and_left, and_right, cases_eq}
use Rattle.rc_base.specs.Numbers.{below}
use Rattle.rc_base.specs.Clamp.{IsWithinClamp}
use Rattle.rc_play_spec.specs.Plan.{Plan}
use Rattle.rc_play_spec.specs.House.{points_in, points_of}
use Rattle.rc_measure.specs.Scores.{spread_of, spread_in}
use Rattle.rc_measure.specs.Leads.{leader, leader_after, changes_at}
use Rattle.rc_text.proofs.Below.{last as range_more}
use Rattle.rc_base.specs.Transcript.{Record}
use Rattle.rc_deck.proofs.RangeLemmas.{below_push}
use Rattle.rc_rules.specs.declared.record.Score.{Score as CodeScore}
use Rattle.rc_rules.specs.declared.record.MatchRecord.{MatchRecord}
use Rattle.rc_rules.specs.Record.{score_seen, record_seen}

abbrev pub scores_of : List CodeScore → List ℤ
scores_of scores = map (λ s. s.score) (map score_seen scores)

-- one more of a list that is seen by a view
pub seen_more : {X Y : Type 0} (see : X → Y) (xs : List X) (i : ℕ) (d : X) → i < length xs → map see (take (i + 1) xs) ≡ map see (take i xs) ++ see (get_or xs i d) ∷ []
seen_more see xs i d less = ap (map see) (take_more xs i d less) ∙ map_push see (take i xs) (get_or xs i d)

pub scores_more : (scores : List CodeScore) (i : ℕ) (d : CodeScore) → i < length scores → scores_of (take (i + 1) scores) ≡ scores_of (take i scores) ++ (get_or scores i d).score ∷ []
scores_more scores i d less = ap (map (λ s. s.score)) (seen_more score_seen scores i d less) ∙ map_push (λ s. s.score) (map score_seen (take i scores)) (score_seen (get_or scores i d))

-- ---- sums over matches

pub sum_more : (f : Record → ℕ) (ms : List MatchRecord) (i : ℕ) (d : MatchRecord) → i < length ms →
    sum_by f (map record_seen (take (i + 1) ms)) ≡ sum_by f (map record_seen (take i ms)) + f (record_seen (get_or ms i d))
sum_more f ms i d less = ap (sum_by f) (seen_more record_seen ms i d less) ∙ sum_by_push f (map record_seen (take i ms)) (record_seen (get_or ms i d))

pub count_more : (p : Record → Bool) (ms : List MatchRecord) (i : ℕ) (d : MatchRecord) (b : Bool) → i < length ms → p (record_seen (get_or ms i d)) ≡ b →
    count_by p (map record_seen (take (i + 1) ms)) ≡ count_by p (map record_seen (take i ms)) + cond b 1 0
count_more p ms i d b less is = sum_more (λ r. cond (p r) 1 0) ms i d less ∙ ap {B = ℕ} (λ b. count_by p (map record_seen (take i ms)) + cond b 1 0) is

-- ---- signed sums, and the largest and the smallest

pub spread_more : (ms : List MatchRecord) (i : ℕ) (d : MatchRecord) → i < length ms →
    spread_in (map record_seen (take (i + 1) ms)) ≡ spread_in (map record_seen (take i ms)) +ℤ spread_of (record_seen (get_or ms i d))
spread_more ms i d less =
    ap (λ rs. fold ◌+ℤ◌ (pos 0) rs) (ap (map spread_of) (seen_more record_seen ms i d less) ∙ map_push spread_of (map record_seen (take i ms)) (record_seen (get_or ms i d)))
    ∙ fold_push ◌+ℤ◌ (pos 0) (map spread_of (map record_seen (take i ms))) (spread_of (record_seen (get_or ms i d)))

pub within_max : (x y : ℤ) → IsWithinClamp x → IsWithinClamp y → IsWithinClamp (int_max x y)
within_max x y is is' = cond_both (int_lt y x) x y IsWithinClamp (λ e. is) (λ e. is')

pub within_min : (x y : ℤ) → IsWithinClamp x → IsWithinClamp y → IsWithinClamp (int_min x y)
within_min x y is is' = cond_both (int_lt y x) y x IsWithinClamp (λ e. is') (λ e. is)

-- ---- tests of all numbers below a count

all_append_one : (p : ℕ → Bool) (xs : List ℕ) (x : ℕ) → list_all p xs ≡ true → p x ≡ true → list_all p (xs ++ x ∷ []) ≡ true
all_append_one p [] x all is = rw is refl
all_append_one p (y ∷ xs) x all is = let a = and_parts (p y) (list_all p xs) all in and_from (p y) (list_all p (xs ++ x ∷ [])) a.0 (all_append_one p xs x a.1 is)

pub all_below_more : (p : ℕ → Bool) (k : ℕ) → list_all p (below k) ≡ true → p k ≡ true → list_all p (below (k + 1)) ≡ true
all_below_more p k all is = ap (list_all p) (below_push k) ∙ all_append_one p (below k) k all is

fails_from : (p : ℕ → Bool) (from count k : ℕ) → from ≤ k → k < from + count → p k ≡ false → (k ≡ from) ⊎ (k ≡ from → ⊥) → list_all p (range_with_len from count) ≡ false
fails_from p from zero k le less is which = absurd (omega arith)
fails_from p from (suc count) k le less is (inl e) = and_left (p from) (list_all p (range_with_len (from + 1) count)) (ap p (sym e) ∙ is)
fails_from p from (suc count) k le less is (inr ne) =
    and_right (p from) (list_all p (range_with_len (from + 1) count)) (fails_from p (from + 1) count k (omega (arith, ne)) (omega arith) is (cases_eq k (from + 1)))

pub fails_below : (p : ℕ → Bool) (n k : ℕ) → k < n → p k ≡ false → list_all p (below n) ≡ false
fails_below p n k less is = fails_from p 0 n k (omega arith) (omega arith) is (cases_eq k 0)

-- ---- lists of numbers that grow

pub push_bound : (xs : List ℕ) (y m : ℕ) → ((j : ℕ) → get_or xs j 0 ≤ m) → y ≤ m → (j : ℕ) → get_or (xs ++ y ∷ []) j 0 ≤ m
push_bound [] y m all le zero = le
push_bound [] y m all le (suc j) = omega arith
push_bound (x ∷ xs) y m all le zero = all 0
push_bound (x ∷ xs) y m all le (suc j) = push_bound xs y m (λ k. all (suc k)) le j

pub push_each : (f : ℕ → ℕ) (xs : List ℕ) (y n : ℕ) → length xs ≡ n → ((j : ℕ) → j < n → get_or xs j 0 ≡ f j) → y ≡ f n → (j : ℕ) → j < n + 1 → get_or (xs ++ y ∷ []) j 0 ≡ f j
push_each f xs y n long all is =
    upto_more (λ j. get_or (xs ++ y ∷ []) j 0 ≡ f j) n (λ j less. get_or_append_left xs (y ∷ []) 0 j (omega (arith, long, less)) ∙ all j less) (get_or_push xs y 0 n long ∙ is)

-- ---- points and leaders

pub points_are : (plan : Plan) (ms : List MatchRecord) (i : ℕ) (d : MatchRecord) (before next : List ℕ) → i < length ms → length next ≡ length plan.strategies →
    before ≡ points_of plan (map record_seen (take i ms)) →
    ((k : ℕ) → k < length plan.strategies → get_or next k 0 ≡ get_or before k 0 + points_in plan k (record_seen (get_or ms i d))) →
    next ≡ points_of plan (map record_seen (take (i + 1) ms))
points_are plan ms i d before next less long is each =
    let n = length plan.strategies in
    fill_by_all (λ strategy. sum_by (points_in plan strategy) (map record_seen (take (i + 1) ms))) next n 0 long
    (λ k lt.
    let old : get_or before k 0 ≡ sum_by (points_in plan k) (map record_seen (take i ms)) =
    ap (λ ps. get_or ps k 0) is ∙ get_or-map-range_with_len (λ strategy. sum_by (points_in plan strategy) (map record_seen (take i ms))) 0 n k k 0 lt (omega arith) in
    omega (arith, each k lt, old, sum_more (points_in plan k) ms i d less))

pub leader_is : (plan : Plan) (ms : List MatchRecord) (n next : ℕ) (points : List ℕ) → points ≡ points_of plan (map record_seen (take n ms)) → next ≡ leader points →
    next ≡ leader_after plan (map record_seen ms) n
leader_is plan ms n next points is e = e ∙ ap leader is ∙ ap (λ rs. leader (points_of plan rs)) (sym (take-map record_seen n ms))

module _ (plan : Plan) (records : List Record) where
  changed : (n last next : ℕ) (b : Bool) → last ≡ leader_after plan records n → next ≡ leader_after plan records (n + 1) → (last == next) ≡ b → changes_at plan records n ≡ not b
  changed n last next b e e' is = ap₂ (λ x y. not (x == y)) (sym e) (sym e') ∙ ap not is

  pub changes_more : (n last next : ℕ) (b : Bool) → 0 < n → last ≡ leader_after plan records n → next ≡ leader_after plan records (n + 1) → (last == next) ≡ b →
      count_by (changes_at plan records) (range_with_len 1 (n + 1 - 1)) ≡ count_by (changes_at plan records) (range_with_len 1 (n - 1)) + cond (not b) 1 0
  changes_more n last next b some e e' is =
      let one : n + 1 - 1 ≡ suc (n - 1) = omega (arith, some) in
      let at : 1 + (n - 1) ≡ n = omega (arith, some) in
      ap (λ k. count_by (changes_at plan records) (range_with_len 1 k)) one ∙ ap (count_by (changes_at plan records)) (range_more 1 (n - 1) n at)
      ∙ sum_by_push (λ k. cond (changes_at plan records k) 1 0) (range_with_len 1 (n - 1)) n
      ∙ ap {B = ℕ} (λ b. count_by (changes_at plan records) (range_with_len 1 (n - 1)) + cond b 1 0) (changed n last next b e e' is)

  pub changes_first : (n : ℕ) → n ≡ 0 → count_by (changes_at plan records) (range_with_len 1 (n + 1 - 1)) ≡ 0
  changes_first n e = let none : n + 1 - 1 ≡ 0 = omega (arith, e) in ap (λ k. count_by (changes_at plan records) (range_with_len 1 k)) none

-- ---- rows

pub row_more : {X Y : Type 0} (see : Y → X) (f : ℕ → X) (rows : List Y) (k : ℕ) (row : Y) → map see rows ≡ map f (below k) → see row ≡ f k → map see (rows ++ row ∷ []) ≡ map f (below (k + 1))
row_more see f rows k row so_far is =
    map_push see rows row ∙ ap (λ front. front ++ see row ∷ []) so_far ∙ ap (λ x. map f (below k) ++ x ∷ []) is
    ∙ sym (ap (map f) (below_push k) ∙ map_push f (below k) k)

pub kept_more : {X : Type 0} (f : ℕ → X) (keep : ℕ → Bool) (rows : List X) (k : ℕ) → rows ≡ map f (filter keep (below k)) →
    rows ++ map f (filter keep (k ∷ [])) ≡ map f (filter keep (below (k + 1)))
kept_more f keep rows k so_far =
    ap (λ front. front ++ map f (filter keep (k ∷ []))) so_far ∙ sym (map-append f (filter keep (below k)) (filter keep (k ∷ [])))
    ∙ ap (map f) (sym (ap (filter keep) (below_push k) ∙ filter-append keep (below k) (k ∷ [])))
