-- Tallies of groups: what is counted in each, and how much at most.
use Rattle.std.proofs.Common.{◌≡◌, ℕ, zero, suc, ◌+◌, ◌≤◌, ◌<◌, ◌==◌, Bool, true, false, cond, List, [], ◌∷◌, length, map, filter, drop, replicate, get_or, sum_by, All, refl, sym, ap, ◌∙◌, arith}
use Rattle.std.proofs.lemmas.Bool.{eqb-true, eqb-false}
use Rattle.std.proofs.lemmas.Grind.{get_or-set_at}
use Rattle.std.proofs.lemmas.List.{get_or_default, get_or-replicate, get_or-set_other, length-set, length-replicate}
use Rattle.std.proofs.lemmas.List.Sums.{sum_by-append}
use Rattle.rc_base.specs.Transcript.{Pick as PurePick}
use Rattle.rc_play_spec.specs.Plan.{Plan}
use Rattle.rc_rules.specs.declared.record.Pick.{Pick}
use Rattle.rc_rules.specs.declared.record.MatchRecord.{MatchRecord}
use Rattle.rc_rules.specs.Record.{pick_seen, record_seen}
use Rattle.rc_measure.specs.Tally.{Tally as PureTally, is_forced, picks_where, tally_where}
use Rattle.rc_measure.specs.Groups.{group_of, in_group, with_pick, no_choice, with_pick_in, counted, counted_in_all, HasAtMost}
use Rattle.rc_measure.specs.Seen.{tally_seen}
use Rattle.rc_measure.specs.declared.tally.Tally.{Tally}
use Rattle.rc_measure.specs.declared.tally.GroupBy.{GroupBy}
use Rattle.rc_measure.proofs.Sums.{length_is_sum, sum_if}

-- ---- how much at most

at_most : (m n : ℕ) (t : Tally) → m ≤ n → HasAtMost m t → HasAtMost n t
at_most m n t le has = (omega (arith, le, has.0), omega (arith, le, has.1), omega (arith, le, has.2))

pub all_at_most : (m n : ℕ) (tallies : List Tally) → m ≤ n → All (HasAtMost m) tallies → All (HasAtMost n) tallies
all_at_most m n tallies le all k d less = at_most m n (get_or tallies k d) le (all k d less)

-- ---- one choice more, and one match more

counted_more : (plan : Plan) (by : GroupBy) (m : ℕ) (picks : List Pick) (i : ℕ) (d : Pick) (tallies : List Tally) → i < length picks →
    counted plan by m (drop i picks) tallies
    ≡ counted plan by m (drop (suc i) picks) (with_pick_in tallies (group_of plan by m (pick_seen (get_or picks i d))) (get_or picks i d))
counted_more plan by m [] i d tallies less = absurd (omega arith)
counted_more plan by m (p ∷ picks) zero d tallies less = refl
counted_more plan by m (p ∷ picks) (suc i) d tallies less = counted_more plan by m picks i d tallies (omega arith)

pub counted_step : (plan : Plan) (by : GroupBy) (m : ℕ) (picks : List Pick) (i : ℕ) (tallies new : List Tally) (group : ℕ) (d : Pick) →
    i < length picks → group ≡ group_of plan by m (pick_seen (get_or picks i d)) → new ≡ with_pick_in tallies group (get_or picks i d) →
    counted plan by m (drop (i + 1) picks) new ≡ counted plan by m (drop i picks) tallies
counted_step plan by m picks i tallies new group d less of is =
    let next : i + 1 ≡ suc i = omega arith in
    ap (λ j. counted plan by m (drop j picks) new) next
    ∙ ap (counted plan by m (drop (suc i) picks)) (is ∙ ap (λ g. with_pick_in tallies g (get_or picks i d)) of)
    ∙ sym (counted_more plan by m picks i d tallies less)

counted_match_more : (plan : Plan) (by : GroupBy) (matches : List MatchRecord) (i : ℕ) (tallies : List Tally) (d : MatchRecord) → i < length matches →
    counted_in_all plan by (drop i matches) tallies
    ≡ counted_in_all plan by (drop (suc i) matches) (counted plan by (get_or matches i d).number (get_or matches i d).picks.items tallies)
counted_match_more plan by [] i tallies d less = absurd (omega arith)
counted_match_more plan by (r ∷ matches) zero tallies d less = refl
counted_match_more plan by (r ∷ matches) (suc i) tallies d less = counted_match_more plan by matches i tallies d (omega arith)

pub counted_match : (plan : Plan) (by : GroupBy) (matches : List MatchRecord) (i : ℕ) (tallies new : List Tally) (r : MatchRecord) →
    i < length matches → r ≡ get_or matches i r → new ≡ counted plan by r.number r.picks.items tallies →
    counted_in_all plan by (drop (i + 1) matches) new ≡ counted_in_all plan by (drop i matches) tallies
counted_match plan by matches i tallies new r less here is =
    let next : i + 1 ≡ suc i = omega arith in
    ap (λ j. counted_in_all plan by (drop j matches) new) next
    ∙ ap (counted_in_all plan by (drop (suc i) matches)) (is ∙ ap (λ (r : MatchRecord). counted plan by r.number r.picks.items tallies) here)
    ∙ sym (counted_match_more plan by matches i tallies r less)

-- ---- a group's number of choices, or of those with a menu of one item, or of all items: for each choice it grows by a weight

module _ (plan : Plan) (by : GroupBy) (k : ℕ) (number : Tally → ℕ) (weight : PurePick → ℕ)
    (grows : (t : Tally) (p : Pick) → number (with_pick t p) ≡ number t + weight (pick_seen p)) where
  one : (tallies : List Tally) (d : Tally) (group : ℕ) (p : Pick) (b : Bool) → (group == k) ≡ b → k < length tallies →
      number (get_or (with_pick_in tallies group p) k d) ≡ number (get_or tallies k d) + cond b (weight (pick_seen p)) 0
  one tallies d group p true e less =
      let same : k ≡ group = sym (eqb-true group k e) in
      let old = get_or tallies group no_choice in
      ap number (get_or-set_at tallies group k (with_pick old p) d same (omega (arith, less, same)))
      ∙ grows old p
      ∙ ap (λ (t : Tally). number t + weight (pick_seen p)) (ap (λ i. get_or tallies i no_choice) (sym same) ∙ get_or_default tallies k no_choice d less)
  one tallies d group p false e less =
      omega (arith, ap number (get_or-set_other tallies group k (with_pick (get_or tallies group no_choice) p) d (λ same. eqb-false group k e (sym same))))

  long : (m : ℕ) (picks : List Pick) (tallies : List Tally) → length (counted plan by m picks tallies) ≡ length tallies
  long m [] tallies = refl
  long m (p ∷ picks) tallies =
      let group = group_of plan by m (pick_seen p) in
      long m picks (with_pick_in tallies group p) ∙ length-set tallies group (with_pick (get_or tallies group no_choice) p)

  in_match : (m : ℕ) (picks : List Pick) (tallies : List Tally) (d : Tally) → k < length tallies →
      number (get_or (counted plan by m picks tallies) k d)
      ≡ number (get_or tallies k d) + sum_by weight (filter (in_group plan by k m) (map pick_seen picks))
  in_match m [] tallies d less = omega arith
  in_match m (p ∷ picks) tallies d less =
      let group = group_of plan by m (pick_seen p) in
      let rest = filter (in_group plan by k m) (map pick_seen picks) in
      omega (
        arith,
        in_match m picks (with_pick_in tallies group p) d (omega (arith, less, length-set tallies group (with_pick (get_or tallies group no_choice) p))),
        one tallies d group p (group == k) refl less,
        sum_if weight (group == k) (pick_seen p) rest,
      )

  pub in_matches : (matches : List MatchRecord) (tallies : List Tally) (d : Tally) → k < length tallies →
      number (get_or (counted_in_all plan by matches tallies) k d)
      ≡ number (get_or tallies k d) + sum_by weight (picks_where (in_group plan by k) (map record_seen matches))
  in_matches [] tallies d less = omega arith
  in_matches (r ∷ matches) tallies d less =
      omega (
        arith,
        in_matches matches (counted plan by r.number r.picks.items tallies) d (omega (arith, less, long r.number r.picks.items tallies)),
        in_match r.number r.picks.items tallies d less,
        sum_by-append weight (filter (in_group plan by k r.number) (map pick_seen r.picks.items)) (picks_where (in_group plan by k) (map record_seen matches)),
      )

-- ---- from no choice on

same_tally : (s t : PureTally) → s.choices ≡ t.choices → s.forced ≡ t.forced → s.menu ≡ t.menu → s ≡ t
same_tally s t choices forced menu =
    ap (λ n. record { choices = n; forced = s.forced; menu = s.menu }) choices
    ∙ ap (λ n. record { choices = t.choices; forced = n; menu = s.menu }) forced
    ∙ ap (λ n. record { choices = t.choices; forced = t.forced; menu = n }) menu

pub counted_is : (plan : Plan) (by : GroupBy) (matches : List MatchRecord) (k : ℕ) (d : Tally) → k < 64 →
    tally_seen (get_or (counted_in_all plan by matches (replicate 64 no_choice)) k d) ≡ tally_where (in_group plan by k) (map record_seen matches)
counted_is plan by matches k d less =
    let none = replicate 64 no_choice in
    let within : k < length none = omega (arith, less, length-replicate 64 no_choice) in
    let start = get_or-replicate 64 k no_choice d less in
    let picks = picks_where (in_group plan by k) (map record_seen matches) in
    same_tally _ _
    (omega (arith, in_matches plan by k (λ t. t.choices) (λ p. 1) (λ t p. refl) matches none d within, ap (λ (t : Tally). t.choices) start, length_is_sum picks))
    (omega (arith, in_matches plan by k (λ t. t.forced) (λ p. cond (is_forced p) 1 0) (λ t p. refl) matches none d within, ap (λ (t : Tally). t.forced) start))
    (omega (arith, in_matches plan by k (λ t. t.menu) (λ p. p.size) (λ t p. refl) matches none d within, ap (λ (t : Tally). t.menu) start))

-- the same, where the place is told by another term
pub at_place : (tallies : List Tally) (place k : ℕ) (d : Tally) (t : PureTally) → place ≡ k → tally_seen (get_or tallies k d) ≡ t → tally_seen (get_or tallies place d) ≡ t
at_place tallies place k d t same is = ap (λ k. tally_seen (get_or tallies k d)) same ∙ is
