-- Looking behind the items of a decision.
use Rattle.std.proofs.Common.{◌≡◌, ℕ, zero, suc, ◌+◌, ◌-◌, ◌≤◌, max, min, nat_lt, if◌then◌else◌, List, length, map, slice_index, ℤ, Option, Some, sym, ap, ◌∙◌, subst, arith}
use Rattle.std.specs.Prelude.{fold}
use Rattle.std.specs.Global.{Global}
use Rattle.std.specs.Prelude.{Box}
use Rattle.std.proofs.lemmas.List.{length-map}
use Rattle.std.proofs.lemmas.List.FromFn.{length-range_with_len, length-map-range_with_len}
use Rattle.std.proofs.lemmas.List.Sums.{fold_push}
use Rattle.rc_base.specs.Numbers.{below}
use Rattle.rc_sheet_spec.specs.Sheet.{Sheet}
use Rattle.rc_play_spec.specs.About.{About}
use Rattle.rc_play_spec.specs.Effects.{Dealing}
use Rattle.rc_play_spec.specs.Step.{Config, Stop, goes}
use Rattle.rc_play_spec.specs.Stop.{stop_of}
use Rattle.rc_play_spec.specs.Decision.{choose}
use Rattle.rc_play_spec.specs.Play.{stop_behind}
use Rattle.rc_play_spec.specs.Scores.{score_of, scores_of}
use Rattle.rc_rules.proofs.PointLemmas.{mapped_push, summed_push}
use Rattle.rc_flat.specs.Machine.{Machine, KeepsTables}
use Rattle.rc_flat.specs.Moments.{IsMoment, StaysInMatch}
use Rattle.rc_search.specs.Keeping.{IsKept}
use Rattle.rc_flat.specs.declared.moments.Moment.{Moment}
use Rattle.rc_flat.proofs.MarkLemmas.{keeps_then}
use Rattle.rc_flat.proofs.GoingLemmas.{stays_then, stays_kept}
use Rattle.rc_play_spec.specs.Search.{best_for, next_behind}
use Rattle.rc_play_spec.proofs.BestPoints.{best_push, best_alone}
use Rattle.rc_search.specs.declared.dealer.Way.{Way}
use Rattle.rc_search.specs.Looking.{Tells, worth_behind, worths, value_behind, values, tried_behind, tried_with}
use Rattle.rc_search.specs.Pruning.{bounded_to}

-- the next stop behind an item, by what the calls say
pub next_is : (about a0 a1 : About) (dealing d0 d1 : Dealing ℕ) (c c' c'' : Config) (made k0 item k' k'' : ℕ) (stop : Stop) →
    a0 ≡ about → a1 ≡ about → d0 ≡ dealing → d1 ≡ dealing → k0 ≡ made →
    choose a0 d0 k0 item c ≡ goes k' c' → stop_of a1 d1 k' c' ≡ Some (record { stop = stop; config = c''; dealer = k'' }) →
    next_behind about dealing c made item ≡ Some (record { stop = stop; config = c''; dealer = k'' })
next_is about a0 a1 dealing d0 d1 c c' c'' made k0 item k' k'' stop same same' deals deals' count first next =
    ap (stop_behind about dealing)
    (sym (ap (λ a. choose a d0 k0 item c) same ∙ ap (λ d. choose about d k0 item c) deals ∙ ap (λ k. choose about dealing k item c) count) ∙ first)
    ∙ sym (ap (λ a. stop_of a d1 k' c') same' ∙ ap (λ d. stop_of about d k' c') deals')
    ∙ next

-- a machine stays in its match on the way behind an item
pub stays_behind : (m0 m1 m2 m3 : Machine) → KeepsTables m0 m1 → KeepsTables m1 m2 → StaysInMatch m2 m3 → StaysInMatch m0 m3
stays_behind m0 m1 m2 m3 first next last = stays_then m0 m2 m3 (stays_kept m0 m2 (keeps_then m0 m1 m2 first next)) last

-- what is kept for a machine is kept wherever it stays in its match
pub kept_on : (m0 m1 : Machine) (config : Config) (kept : Option (Box Moment Global)) → StaysInMatch m0 m1 → IsKept m0.about m0.code config kept → IsKept m1.about m1.code config kept
kept_on m0 m1 config kept stays is =
    subst (λ a. IsKept a m1.code config kept) (sym stays.about) (subst (λ code. IsKept m0.about code config kept) (sym stays.code) is)

pub moment_on : (m0 m1 : Machine) (config : Config) (moment : Moment) → StaysInMatch m0 m1 → IsMoment m0.about m0.code config moment → IsMoment m1.about m1.code config moment
moment_on m0 m1 config moment stays is =
    subst (λ a. IsMoment a m1.code config moment) (sym stays.about) (subst (λ code. IsMoment m0.about code config moment) (sym stays.code) is)

-- counts that are told
pub told_still : (applied steps : ℕ) → applied ≤ 18446744073709551615 → Tells applied applied steps steps
told_still applied steps few = record { rises = omega arith; told = omega (arith, few) }

pub told_once : (a a' a'' s s' s'' : ℕ) → a' ≡ min (a + 1) 18446744073709551615 → s' ≡ s + 1 → Tells a' a'' s' s'' → Tells a a'' s s''
told_once a a' a'' s s' s'' one step tells =
    let rises = tells.rises in
    let told = tells.told in
    record { rises = omega (arith, rises, step); told = omega (arith, one, step, rises, told) }

pub told_then : (a a' a'' s s' s'' : ℕ) → Tells a a' s s' → Tells a' a'' s' s'' → Tells a a'' s s''
told_then a a' a'' s s' s'' first next =
    let rises = first.rises in
    let told = first.told in
    let rises' = next.rises in
    let told' = next.told in
    record { rises = omega (arith, rises, rises'); told = omega (arith, rises, told, rises', told') }

pub told_few : (a a' s s' : ℕ) → Tells a a' s s' → a' ≤ 18446744073709551615
told_few a a' s s' tells = let told = tells.told in omega (arith, told)

module _ (about : About) (way : Way) (depth : ℕ) (c : Config) (made : ℕ) where
  pub best_first : (seat : ℕ) (found : List ℕ) → found ≡ worth_behind about way depth c made 0 → found ≡ best_for seat (worths about way depth c made 1)
  best_first seat found is = is ∙ sym (best_alone seat (worth_behind about way depth c made 0))

  pub best_more : (seat n : ℕ) (best found new : List ℕ) → 1 ≤ n → best ≡ best_for seat (worths about way depth c made n) →
      found ≡ worth_behind about way depth c made n → new ≡ (if nat_lt (slice_index best seat) (slice_index found seat) then found else best) →
      new ≡ best_for seat (worths about way depth c made (n + 1))
  best_more seat n best found new some is there better =
      let f = worth_behind about way depth c made in
      let long = length-map (below n) f in
      let count = length-range_with_len 0 n in
      better
      ∙ ap (λ b. if nat_lt (slice_index b seat) (slice_index found seat) then found else b) is
      ∙ ap (λ x. if nat_lt (slice_index (best_for seat (map f (below n))) seat) (slice_index x seat) then x else best_for seat (map f (below n))) there
      ∙ sym (best_push seat (map f (below n)) (f n) (omega (arith, some, long, count)))
      ∙ ap (best_for seat) (sym (mapped_push f n))

  pub tried_more : (n : ℕ) → tried_with about way depth c made (n + 1) ≡ tried_with about way depth c made n + 1 + tried_behind about way depth c made n
  tried_more n = let h = summed_push (tried_behind about way depth c made) n in omega (arith, h)

  -- what is tried with more items is no less
  pub tried_rises : (n k : ℕ) → tried_with about way depth c made n ≤ tried_with about way depth c made (n + k)
  tried_rises n zero = let e : n + 0 ≡ n = omega arith in subst (λ m. tried_with about way depth c made n ≤ tried_with about way depth c made m) (sym e) (omega arith)
  tried_rises n (suc k) =
      let h = tried_rises n k in
      let more = tried_more (n + k) in
      let e : n + suc k ≡ n + k + 1 = omega arith in
      subst (λ m. tried_with about way depth c made n ≤ tried_with about way depth c made m) (sym e) (omega (arith, h, more))

  -- the most and the least of values, one item more
  pub most_more : (n : ℕ) → fold max 0 (values about way depth c made (n + 1)) ≡ max (fold max 0 (values about way depth c made n)) (value_behind about way depth c made n)
  most_more n =
      ap (fold max 0) (mapped_push (value_behind about way depth c made) n)
      ∙ fold_push max 0 (values about way depth c made n) (value_behind about way depth c made n)

  pub least_more : (top n : ℕ) → fold min top (values about way depth c made (n + 1)) ≡ min (fold min top (values about way depth c made n)) (value_behind about way depth c made n)
  least_more top n =
      ap (fold min top) (mapped_push (value_behind about way depth c made) n)
      ∙ fold_push min top (values about way depth c made n) (value_behind about way depth c made n)

  pub most_rises : (n k : ℕ) → fold max 0 (values about way depth c made n) ≤ fold max 0 (values about way depth c made (n + k))
  most_rises n zero = let e : n + 0 ≡ n = omega arith in subst (λ m. fold max 0 (values about way depth c made n) ≤ fold max 0 (values about way depth c made m)) (sym e) (omega arith)
  most_rises n (suc k) =
      let h = most_rises n k in
      let more = most_more (n + k) in
      let e : n + suc k ≡ n + k + 1 = omega arith in
      subst (λ m. fold max 0 (values about way depth c made n) ≤ fold max 0 (values about way depth c made m)) (sym e) (omega (arith, h, more))

  pub least_falls : (top n k : ℕ) → fold min top (values about way depth c made (n + k)) ≤ fold min top (values about way depth c made n)
  least_falls top n zero = let e : n + 0 ≡ n = omega arith in subst (λ m. fold min top (values about way depth c made m) ≤ fold min top (values about way depth c made n)) (sym e) (omega arith)
  least_falls top n (suc k) =
      let h = least_falls top n k in
      let more = least_more top (n + k) in
      let e : n + suc k ≡ n + k + 1 = omega arith in
      subst (λ m. fold min top (values about way depth c made m) ≤ fold min top (values about way depth c made n)) (sym e) (omega (arith, h, more))

-- bounds, one value more
pub raised : (low high m v best new : ℕ) → low ≤ high → best ≡ bounded_to low high m → new ≡ bounded_to best high v → new ≡ bounded_to low high (max m v)
raised low high m v best new le is more = omega (arith, le, is, more)

pub lowered : (low high m v best new : ℕ) → low ≤ high → best ≡ bounded_to low high m → new ≡ bounded_to low best v → new ≡ bounded_to low high (min m v)
lowered low high m v best new le is more = omega (arith, le, is, more)

-- where bounds meet, or behind the last item
module _ (about : About) (way : Way) (depth : ℕ) (c : Config) (made n size : ℕ) (le : n ≤ size) where
  to_end : n + (size - n) ≡ size
  to_end = omega (arith, le)

  pub tried_end : tried_with about way depth c made n ≤ tried_with about way depth c made size
  tried_end = subst (λ m. tried_with about way depth c made n ≤ tried_with about way depth c made m) to_end (tried_rises about way depth c made n (size - n))

  pub most_end : (low high best : ℕ) → low ≤ high → best ≡ bounded_to low high (fold max 0 (values about way depth c made n)) → high ≤ best →
      best ≡ bounded_to low high (fold max 0 (values about way depth c made size))
  most_end low high best bounds is met =
      let more = subst (λ m. fold max 0 (values about way depth c made n) ≤ fold max 0 (values about way depth c made m)) to_end (most_rises about way depth c made n (size - n)) in
      omega (arith, bounds, is, met, more)

  pub least_end : (top low high best : ℕ) → low ≤ high → best ≡ bounded_to low high (fold min top (values about way depth c made n)) → best ≤ low →
      best ≡ bounded_to low high (fold min top (values about way depth c made size))
  least_end top low high best bounds is met =
      let less = subst (λ m. fold min top (values about way depth c made m) ≤ fold min top (values about way depth c made n)) to_end (least_falls about way depth c made top n (size - n)) in
      omega (arith, bounds, is, met, less)

pub within_bounds : (low high n best : ℕ) → low ≤ high → best ≡ bounded_to low high n → (low ≤ best) × (best ≤ high)
within_bounds low high n best bounds is = (omega (arith, bounds, is), omega (arith, bounds, is))

-- the scores where a machine stands are those of all players
pub all_scored : (about there : About) (sheet : Sheet) (c : Config) (scores : List ℤ) → there ≡ about → sheet ≡ about.sheet →
    scores ≡ scores_of there c.table c.control → length scores ≡ sheet.players
all_scored about there sheet c scores same own is =
    ap length is ∙ length-map-range_with_len (score_of there c.table c.control) 0 there.sheet.players
    ∙ ap (λ (a : About). a.sheet.players) same ∙ sym (ap (λ (s : Sheet). s.players) own)
