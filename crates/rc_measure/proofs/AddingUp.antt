-- The choices of each class of choices together are all choices.
use Rattle.std.proofs.Common.{◌≡◌, ℕ, suc, ◌+◌, ◌<◌, ◌≤◌, ◌==◌, Bool, true, false, cond, List, [], ◌∷◌, length, filter, sum_by, refl, sym, ap, ◌∙◌, arith}
use Rattle.std.specs.List.{AllByRecursion}
use Rattle.std.proofs.lemmas.List.{length-append}
use Rattle.std.proofs.lemmas.List.Sums.{sum_by-cons, sum_by-append, count_by-le-length}
use Rattle.rc_base.specs.Numbers.{below}
use Rattle.rc_base.specs.Transcript.{Pick, Record}
use Rattle.rc_measure.specs.Tally.{Test, every, tally_where, picks_where, is_forced}
use Rattle.rc_measure.specs.Laws.{EachPick}
use Rattle.rc_measure.proofs.Sums.{sum_same, sum_none, sum_plus, length_is_sum, class_weights}

all_kept : (picks : List Pick) → length (filter (λ p. true) picks) ≡ length picks
all_kept [] = refl
all_kept (p ∷ picks) = ap suc (all_kept picks)

-- classes by a number below n: each choice is in one of them
module _ (key : ℕ → Pick → ℕ) (n : ℕ) where
  abbrev of_class : ℕ → Test
  of_class k m p = key m p == k

  in_match : (m : ℕ) (picks : List Pick) → AllByRecursion (λ p. key m p < n) picks →
      sum_by (λ k. length (filter (of_class k m) picks)) (below n) ≡ length picks
  in_match m picks all =
      sum_same (λ k. length (filter (of_class k m) picks)) (λ k. sum_by (λ p. 1) (filter (of_class k m) picks)) (below n)
      (λ k. length_is_sum (filter (of_class k m) picks))
      ∙ class_weights (key m) (λ p. 1) n picks all ∙ sym (length_is_sum picks)

  pub classes_add_up : (records : List Record) → AllByRecursion (λ r. AllByRecursion (λ p. key r.number p < n) r.picks) records →
      sum_by (λ k. (tally_where (of_class k) records).choices) (below n) ≡ (tally_where every records).choices
  classes_add_up [] all = sum_none (below n)
  classes_add_up (r ∷ records) all =
      let split = sum_same (λ k. (tally_where (of_class k) (r ∷ records)).choices) (λ k. length (filter (of_class k r.number) r.picks) + (tally_where (of_class k) records).choices) (below n)
      (λ k. length-append (filter (of_class k r.number) r.picks) (picks_where (of_class k) records)) in
      omega (
        arith,
        split,
        sum_plus (λ k. length (filter (of_class k r.number) r.picks)) (λ k. (tally_where (of_class k) records).choices) (below n),
        in_match r.number r.picks all.0,
        classes_add_up records all.1,
        length-append (filter (every r.number) r.picks) (picks_where every records),
        all_kept r.picks,
      )

-- ---- forced choices and items

pub forced_few : (test : Test) (records : List Record) → (tally_where test records).forced ≤ (tally_where test records).choices
forced_few test records = count_by-le-length is_forced (picks_where test records)

items_if : (b : Bool) (p : Pick) (picks : List Pick) → 1 ≤ p.size → length picks ≤ sum_by (λ p. p.size) picks →
    length (cond b (p ∷ picks) picks) ≤ sum_by (λ p. p.size) (cond b (p ∷ picks) picks)
items_if true p picks some many = omega (arith, sum_by-cons (λ (p : Pick). p.size) p picks)
items_if false p picks some many = many

items_in : (keep : Pick → Bool) (picks : List Pick) → AllByRecursion (λ p. 1 ≤ p.size) picks →
    length (filter keep picks) ≤ sum_by (λ p. p.size) (filter keep picks)
items_in keep [] all = omega arith
items_in keep (p ∷ picks) all = items_if (keep p) p (filter keep picks) all.0 (items_in keep picks all.1)

pub menus_long : (test : Test) (records : List Record) → EachPick (λ p. 1 ≤ p.size) records →
    (tally_where test records).choices ≤ (tally_where test records).menu
menus_long test [] all = omega arith
menus_long test (r ∷ records) all =
    omega (
      arith,
      length-append (filter (test r.number) r.picks) (picks_where test records),
      sum_by-append (λ (p : Pick). p.size) (filter (test r.number) r.picks) (picks_where test records),
      items_in (test r.number) r.picks all.0,
      menus_long test records all.1,
    )
