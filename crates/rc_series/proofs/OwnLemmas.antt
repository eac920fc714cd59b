-- What one worker's looks of a plan came to, whether memory was found for all of them or not.
use Rattle.std.proofs.Common.{◌≡◌, ℕ, ◌+◌, ◌≤◌, List, [], Some, true, length, sym, ap, subst, arith}
use Rattle.rc_play_spec.specs.About.{About}
use Rattle.rc_redraw.specs.Choosing.{AsksAll, AsksSome}
use Rattle.rc_rules.specs.declared.plan.Plan.{Plan}
use Rattle.rc_rules.specs.Plan.{plan_seen}
use Rattle.rc_match.proofs.AskLemmas.{looks_rise}
use Rattle.rc_cache.specs.Book.{LaneCall, calls_of}
use Rattle.rc_cache.specs.Hits.{hits, cost}
use Rattle.rc_cache.specs.Laws.{OneWorkerHits, OneWorkerLacks}
use Rattle.rc_cache.specs.Memos.{own_counts}
use Rattle.rc_cache.specs.Replay.{is_legal}
use Rattle.rc_cache.specs.Sums.{Lane, idle}
use Rattle.rc_series.specs.Series.{looks_below, looks_of}
use Rattle.rc_series.proofs.SeriesLemmas.{all_looks}

module _ {capacity named : ℕ} {before own closed : List LaneCall × Lane}
    (about : About) (plan : Plan) (steps steps' : ℕ)
    (same : capacity ≡ named) (unasked : before ≡ ([], idle 0)) (is : closed ≡ own) (legal : is_legal named (calls_of closed.0) ≡ true) where
  none : (own_counts before).calls ≡ Some []
  none = ap (λ o. (own_counts o).calls) unasked

  own_legal : is_legal capacity (calls_of own.0) ≡ true
  own_legal = subst (λ o. is_legal capacity (calls_of o.0) ≡ true) is (subst (λ n. is_legal n (calls_of closed.0) ≡ true) (sym same) legal)

  -- looks, hits and steps, where all was asked
  pub all_made : OneWorkerHits →
      AsksAll (looks_below about (plan_seen plan) (length plan.matches.items)) (own_counts before) (own_counts own) steps steps' →
      (closed.1.looks ≡ length (looks_of about (plan_seen plan)))
      × (closed.1.hits ≡ hits (looks_of about (plan_seen plan)) capacity)
      × (steps' ≡ steps + cost (looks_of about (plan_seen plan)) capacity)
      × (steps ≤ steps')
      × (steps' ≤ steps + cost (looks_of about (plan_seen plan)) capacity)
  all_made law asked =
      let keys = looks_of about (plan_seen plan) in
      let all = subst (λ looks. AsksAll looks (own_counts before) (own_counts own) steps steps') (all_looks about plan) asked in
      let rise = looks_rise keys (own_counts before) (own_counts own) steps steps' all in
      let made = law capacity keys (own_counts before) (own_counts own) steps steps' none all own_legal in
      let hit = made.0 in
      let counted = made.1 in
      let no_looks = ap (λ o. o.1.looks) unasked in
      let no_hits = ap (λ o. o.1.hits) unasked in
      let own_looks = ap (λ o. o.1.looks) is in
      let own_hits = ap (λ o. o.1.hits) is in
      (omega (arith, rise, no_looks, own_looks), omega (arith, hit, no_hits, own_hits), counted, omega (arith, counted), omega (arith, counted))

  -- and the steps, where some was
  pub some_made : OneWorkerLacks →
      AsksSome (looks_below about (plan_seen plan) (length plan.matches.items)) (own_counts before) (own_counts own) steps steps' →
      (steps ≤ steps') × (steps' ≤ steps + cost (looks_of about (plan_seen plan)) capacity)
  some_made law asked =
      law capacity (looks_of about (plan_seen plan)) (own_counts before) (own_counts own) steps steps' none
      (subst (λ looks. AsksSome looks (own_counts before) (own_counts own) steps steps') (all_looks about plan) asked) own_legal
