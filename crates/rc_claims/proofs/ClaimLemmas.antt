-- Each step on the word keeps its rule.
use Rattle.std.proofs.Common.{◌≡◌, ℕ, zero, suc, ◌+◌, ◌-◌, ◌%◌, ◌^◌, ◌<◌, ◌≤◌, ◌⊎◌, Bool, true, false, cond, leb, List, [], ◌∷◌, ◌++◌, append-nil, length, length-append, take, drop, set, take-append-drop, All, slice_index, length-drop, refl, sym, ap, ◌∙◌, subst, inl, inr, ⊎_elim, true≢false, mod-eq_of_lt, arith}
use Rattle.std.specs.List.{AllByRecursion, range_with_len}
use Rattle.std.specs.List.Sorted.{IsPermutation}
use Rattle.std.proofs.lemmas.Bool.Decides.{leb_tells}
use Rattle.std.proofs.lemmas.List.Elements.{All-head, All-tail}
use Rattle.std.proofs.lemmas.List.Sorted.{IsPermutation-refl, IsPermutation-trans, IsPermutation-append_left, IsPermutation-append_comm, length_permutation, sum_by-IsPermutation}
use Rattle.std.proofs.lemmas.List.Sums.{sum_by-cons, sum_by-append, sum_by_push}
use mathlib.Core.Option.{none, some, some-injective, some-ne-none}
use lib.ListN.{get_elem?}
use Rattle.atomic_table.specs.Table.{Me, step, keeps, Allows, Splits, Joins, Final, Seen}
use Rattle.atomic_table.proofs.Lists.{set_else}
use Rattle.rc_base.specs.Numbers.{below}
use Rattle.rc_deck.proofs.RangeLemmas.{below_push, below_length}
use Rattle.rc_deck.proofs.EachLemmas.{push_each}
use Rattle.rc_claims.specs.declared.views.PassView.{PassView}
use Rattle.rc_claims.specs.declared.views.Limits.{Limits}
use Rattle.rc_claims.specs.Rule.{pass_view, numbers_in, holders_in, beyond, IsIdle, HasFew, IsClaimedOnce, IsKept, Draws, behind_first, first_alone, both_views, no_view}
use Rattle.rc_claims.proofs.ViewLemmas.{grown, shrunk, unchanged, joined_by, at-All, set-All, set-turned}

-- one number counts where it isn't below the count
tells : (count n : ℕ) (b : Bool) → leb count n ≡ b → (cond {A = ℕ} b 1 0 ≤ 1) × ((cond {A = ℕ} b 1 0 ≡ 1) ⊎ (n < count))
tells count n true is = (omega arith, inl refl)
tells count n false is = (omega arith, inr (⊎_elim (λ t. absurd (true≢false (sym t.0 ∙ is))) (λ t. t.1) (leb_tells count n)))

told : (count n : ℕ) → (cond {A = ℕ} (leb count n) 1 0 ≤ 1) × ((cond {A = ℕ} (leb count n) 1 0 ≡ 1) ⊎ (n < count))
told count n = tells count n (leb count n) refl

-- a word is no larger than the count and the numbers below it that aren't below the count
most_beyond : (count word : ℕ) → word ≤ count + beyond count (below word)
most_beyond count word = let h = from 0 word in omega (arith, h)
  where
    from : (a n : ℕ) → n ≤ (count - a) + beyond count (range_with_len a n)
    from a zero = omega arith
    from a (suc n) =
        let rest = from (a + 1) n in
        let first = sum_by-cons (λ k. cond (leb count k) 1 0) a (range_with_len (a + 1) n) in
        ⊎_elim (λ one. omega (arith, rest, first, one)) (λ small. omega (arith, rest, first, small)) (told count a).1

-- all views together have as few
all_few : (count : ℕ) (views : List PassView) → AllByRecursion (HasFew count) views → beyond count (numbers_in views) ≤ length (holders_in views)
all_few count [] all = omega arith
all_few count (v ∷ views) all =
    let rest = all_few count views all.1 in
    let numbers = sum_by-append (λ k. cond (leb count k) 1 0) v.numbers (numbers_in views) in
    let holders = length-append v.holders (holders_in views) in
    omega (arith, all.0, rest, numbers, holders)

-- a view has no more numbers than all have
no_more : (views : List PassView) (id : ℕ) (v : PassView) → get_elem? views id ≡ some v → length v.numbers ≤ length (numbers_in views)
no_more [] id v at = absurd (some-ne-none v (sym at))
no_more (x ∷ views) zero v at =
    let same = ap (λ u. length u.numbers) (some-injective x v at) in
    omega (arith, same, length-append x.numbers (numbers_in views))
no_more (x ∷ views) (suc id) v at =
    let rest = no_more views id v at in
    omega (arith, rest, length-append x.numbers (numbers_in views))

module _ (limits : Limits) (word : ℕ) (views : List PassView) (once : IsClaimedOnce limits word views) where
  -- the numbers that the views have beyond the count
  drawn_beyond : beyond limits.count (below word) ≡ beyond limits.count (numbers_in views)
  drawn_beyond = sym (sum_by-IsPermutation (λ k. cond (leb limits.count k) 1 0) (below word) (numbers_in views) once.numbers)

  passes_held : length (holders_in views) ≡ limits.passes
  passes_held = length_permutation (below limits.passes) (holders_in views) once.holders ∙ below_length limits.passes

  -- so the word stays small
  pub word_small : word ≤ limits.count + limits.passes
  word_small = omega (arith, most_beyond limits.count word, drawn_beyond, all_few limits.count views once.few, passes_held)

  module _ (id : ℕ) (v : PassView) (at : get_elem? views id ≡ some v) where
    word_late : length v.numbers ≤ word
    word_late =
        omega (arith, no_more views id v at, length_permutation (below word) (numbers_in views) once.numbers, below_length word)

    -- a claim
    one_more : 0 < length v.holders → beyond limits.count v.numbers ≡ 0 →
        IsClaimedOnce limits (word + 1) (set views id (pass_view v.holders (v.numbers ++ word ∷ [])))
    one_more some' none' =
        let w = pass_view v.holders (v.numbers ++ word ∷ []) in
        record {
          numbers =
              subst (λ l. IsPermutation l (numbers_in (set views id w))) (sym (below_push word))
              (IsPermutation-trans _ _ _ (IsPermutation-append_left (word ∷ []) _ _ once.numbers)
              (grown (λ u. u.numbers) views id v w (word ∷ []) at refl));
          holders = IsPermutation-trans _ _ _ once.holders (unchanged (λ u. u.holders) views id v w at refl);
          idle = set-All IsIdle views id w (λ none_left. absurd (omega (arith, some', ap length none_left))) once.idle;
          few =
              set-All (HasFew limits.count) views id w
              (let sum = sum_by_push (λ k. cond (leb limits.count k) 1 0) v.numbers word in omega (arith, sum, some', none', (told limits.count word).0))
              once.few;
        }

    -- a split
    one_apart : 2 ≤ length v.holders → v.numbers ≡ [] → IsClaimedOnce limits word (set views id (behind_first v) ++ first_alone v ∷ [])
    one_apart two none' =
        let w = behind_first v in
        let u = first_alone v in
        let more = set views id w in
        let behind = length-drop 1 v.holders in
        record {
          numbers =
              subst (IsPermutation (below word)) (sym (joined_by (λ x. x.numbers) more u ∙ append-nil (numbers_in more)))
              (IsPermutation-trans _ _ _ once.numbers (unchanged (λ x. x.numbers) views id v w at refl));
          holders =
              subst (IsPermutation (below limits.passes)) (sym (joined_by (λ x. x.holders) more u))
              (IsPermutation-trans _ _ _ once.holders (shrunk (λ x. x.holders) views id v w u.holders at
              (subst (λ l. IsPermutation l (w.holders ++ u.holders)) (take-append-drop 1 v.holders)
              (IsPermutation-append_comm (take 1 v.holders) (drop 1 v.holders)))));
          idle =
              push_each IsIdle more u (set-All IsIdle views id w (λ none_left. none') once.idle) (λ none_left. refl);
          few =
              push_each (HasFew limits.count) more u
              (set-All (HasFew limits.count) views id w
              (let nothing : beyond limits.count v.numbers ≡ 0 = ap (beyond limits.count) none' in omega (arith, nothing)) once.few)
              (omega arith);
        }

  -- a join: the other view has nothing then
  two_joined : (id other : ℕ) (v w : PassView) → get_elem? views id ≡ some v → (other ≡ id → ⊥) →
      get_elem? (set views id (both_views v w)) other ≡ some w →
      IsClaimedOnce limits word (set (set views id (both_views v w)) other no_view)
  two_joined id other v w at apart there =
      let both = both_views v w in
      let without = set views other no_view in
      let at_other : get_elem? views other ≡ some w = sym (set_else views id other both apart) ∙ there in
      let still : get_elem? without id ≡ some v = set_else views other id no_view (λ e. apart (sym e)) ∙ at in
      let turned : set without id both ≡ set (set views id both) other no_view = set-turned views other id no_view both apart in
      let few_v = at-All (HasFew limits.count) views id v at once.few in
      let few_w = at-All (HasFew limits.count) views other w at_other once.few in
      let idle_v = at-All IsIdle views id v at once.idle in
      let idle_w = at-All IsIdle views other w at_other once.idle in
      subst (IsClaimedOnce limits word) turned
      record {
        numbers =
            IsPermutation-trans _ _ _ once.numbers
            (IsPermutation-trans _ _ _ (shrunk (λ u. u.numbers) views other w no_view w.numbers at_other (IsPermutation-refl w.numbers))
            (grown (λ u. u.numbers) without id v both w.numbers still refl));
        holders =
            IsPermutation-trans _ _ _ once.holders
            (IsPermutation-trans _ _ _ (shrunk (λ u. u.holders) views other w no_view w.holders at_other (IsPermutation-refl w.holders))
            (grown (λ u. u.holders) without id v both w.holders still refl));
        idle =
            set-All IsIdle without id both (idle_both v w idle_v idle_w)
            (set-All IsIdle views other no_view (λ none_left. refl) once.idle);
        few =
            set-All (HasFew limits.count) without id both
            (let sum = sum_by-append (λ k. cond (leb limits.count k) 1 0) v.numbers w.numbers in
            omega (arith, sum, few_v, few_w, length-append v.holders w.holders))
            (set-All (HasFew limits.count) views other no_view (omega arith) once.few);
      }
    where
      idle_both : (v w : PassView) → IsIdle v → IsIdle w → IsIdle (both_views v w)
      idle_both v w a b none_left =
          let parts = nothing_in v.holders w.holders none_left in
          ap (λ l. l ++ w.numbers) (a parts.0) ∙ b parts.1
        where
          nothing_in : (xs ys : List ℕ) → xs ++ ys ≡ [] → (xs ≡ []) × (ys ≡ [])
          nothing_in [] ys e = (refl, e)
          nothing_in (x ∷ xs) ys e = absurd (omega (arith, ap length e))

  -- a view with all holders has all numbers
  pub all_numbers : (id : ℕ) (v : PassView) → get_elem? views id ≡ some v → IsPermutation (below limits.passes) v.holders →
      IsPermutation (below word) v.numbers
  all_numbers id v at all =
      let without = set views id no_view in
      let holders = shrunk (λ u. u.holders) views id v no_view v.holders at (IsPermutation-refl v.holders) in
      let numbers = shrunk (λ u. u.numbers) views id v no_view v.numbers at (IsPermutation-refl v.numbers) in
      let long = length_permutation _ _ (IsPermutation-trans _ _ _ once.holders holders) in
      let same = length_permutation _ _ all in
      let none_left : holders_in without ≡ [] =
      nothing (holders_in without) (omega (arith, long, same, length-append (holders_in without) v.holders)) in
      let none_drawn : numbers_in without ≡ [] =
      idle_all without none_left (set-All IsIdle views id no_view (λ gone. refl) once.idle) in
      subst (λ l. IsPermutation (below word) (l ++ v.numbers)) none_drawn
      (IsPermutation-trans _ _ _ once.numbers numbers)
    where
      nothing : (xs : List ℕ) → length xs ≡ 0 → xs ≡ []
      nothing [] e = refl
      nothing (x ∷ xs) e = absurd (omega (arith, e))

      first_none : (xs ys : List ℕ) → xs ++ ys ≡ [] → xs ≡ []
      first_none [] ys e = refl
      first_none (x ∷ xs) ys e = absurd (omega (arith, ap length e))

      rest_none : (xs ys : List ℕ) → xs ++ ys ≡ [] → ys ≡ []
      rest_none [] ys e = e
      rest_none (x ∷ xs) ys e = absurd (omega (arith, ap length e))

      idle_all : (views : List PassView) → holders_in views ≡ [] → AllByRecursion IsIdle views → numbers_in views ≡ []
      idle_all [] gone idle = refl
      idle_all (u ∷ us) gone idle =
          ap (λ l. l ++ numbers_in us) (idle.0 (first_none u.holders (holders_in us) gone))
          ∙ idle_all us (rest_none u.holders (holders_in us) gone) idle.1

-- what the steps on the word ask
pub claim_keeps : (limits : Limits) (slots id : ℕ) (me : Me (Unit {0}) PassView) → limits.count ≤ 4096 → limits.passes ≤ 64 →
    0 < length me.0.holders → All (λ n. n < limits.count) me.0.numbers →
    Allows (IsKept limits) slots id me 0 (λ n. (n + 1) % 2 ^ 64) (Draws (step slots 0 1 0 none) me)
claim_keeps limits slots id me few_count few_passes some' counted s kept homes at small =
    let word = kept.0 in
    let small_word = word_small limits word s.views kept.2 in
    let next : (word + 1) % 2 ^ 64 ≡ word + 1 = mod-eq_of_lt (omega (arith, small_word, few_count, few_passes)) in
    let none' = none_beyond limits.count me.0.numbers counted in
    let found : slice_index s.words 0 ≡ word = ap (λ l. slice_index l 0) kept.1 in
    let more : IsClaimedOnce limits (word + 1) (set s.views id (pass_view me.0.holders (me.0.numbers ++ slice_index s.words 0 ∷ []))) =
    subst (λ n. IsClaimedOnce limits (word + 1) (set s.views id (pass_view me.0.holders (me.0.numbers ++ n ∷ [])))) (sym found)
    (one_more limits word s.views kept.2 id me.0 at some' none') in (
      pass_view me.0.holders (me.0.numbers ++ slice_index s.words 0 ∷ []),
      keeps,
      tt,
      (word + 1, ap (λ l. set l 0 ((slice_index l 0 + 1) % 2 ^ 64)) kept.1 ∙ ap (λ n. n ∷ []) next, more),
      (refl, omega (arith, found, word_late limits word s.views kept.2 id me.0 at)),
    )
  where
    none_beyond : (count : ℕ) (ns : List ℕ) → All (λ n. n < count) ns → beyond count ns ≡ 0
    none_beyond count [] all = refl
    none_beyond count (n ∷ ns) all =
        let rest = none_beyond count ns (All-tail (λ k. k < count) n ns all) in
        let first = All-head (λ k. k < count) n ns all in
        let sum = sum_by-cons (λ k. cond (leb count k) 1 0) n ns in
        let here : leb count n ≡ false = ⊎_elim (λ t. absurd (omega (arith, t.1, first))) (λ t. t.0) (leb_tells count n) in
        let none_here : cond (leb count n) 1 0 ≡ 0 = ap (λ b. cond {A = ℕ} b 1 0) here in
        omega (arith, rest, sum, none_here)

pub split_keeps : (limits : Limits) (id : ℕ) (v : PassView) → 2 ≤ length v.holders → v.numbers ≡ [] →
    Splits (IsKept limits) id v (behind_first v) (first_alone v)
split_keeps limits id v two none' s kept at = (kept.0, kept.1, one_apart limits kept.0 s.views kept.2 id v at two none')

pub join_keeps : (limits : Limits) (id other : ℕ) (v w : PassView) → Joins (IsKept limits) id v other w (both_views v w) no_view
join_keeps limits id other v w s kept at apart there = (kept.0, kept.1, two_joined limits kept.0 s.views kept.2 id other v w at apart there)

-- what is known at the end
pub closed_with : (limits : Limits) (id : ℕ) (v : PassView) (word : ℕ) (words : List ℕ) (slots : List (Unit {0})) → IsPermutation (below limits.passes) v.holders →
    Final (Seen (IsKept limits) id v) words slots → get_elem? words 0 ≡ some word →
    IsPermutation (below word) v.numbers × (word ≤ limits.count + limits.passes)
closed_with limits id v word words slots all end there =
    let s = end.0 in
    let kept = end.1.0 in
    let same : kept.0 ≡ word = some-injective kept.0 word (sym (ap (λ l. get_elem? l 0) (sym end.2 ∙ kept.1)) ∙ there) in
    subst (λ n. IsPermutation (below n) v.numbers × (n ≤ limits.count + limits.passes)) same
    (all_numbers limits kept.0 s.views kept.2 id v end.1.1 all, word_small limits kept.0 s.views kept.2)
