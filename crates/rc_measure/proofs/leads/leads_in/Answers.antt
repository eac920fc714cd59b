use Rattle.std.proofs.Common.{◌≡◌, ◌≤◌, ◌<◌, ℕ, ◌+◌, ◌-◌, ◌*◌, true, false, length, map, take, count_by, List, get_or, sym, ap, ◌∙◌, arith}
use Rattle.std.proofs.lemmas.List.{length-map}
use Rattle.rc_play_spec.specs.House.{points_in, points_of}
use Rattle.rc_rules.specs.declared.record.MatchRecord.{MatchRecord}
use Rattle.rc_rules.specs.Plan.{plan_seen, strategy_seen}
use Rattle.rc_rules.specs.Record.{record_seen}
use Rattle.rc_measure.specs.Leads.{leader, leader_after, changes_at}
use Rattle.std.specs.List.{range_with_len}
use Rattle.std.proofs.lemmas.Bool.{eq-eqb, ne_eqb}
use Rattle.rc_measure.proofs.CodeLemmas.{points_are, leader_is, changes_more, changes_first}
use Rattle.rc_measure.proofs.leads.leads_in.Goals as goal
use Rattle.rc_measure.proofs.leads.leads_in.Goals.{then-i-gt0+then-next-last, else-i-gt0, else-i-gt0-via-then-i-gt0+else-next-last, else-i-gt0-via-else-i-gt0}

pub next_points-requires-clause-small : goal.next_points-requires-clause-small
next_points-requires-clause-small c =
    λ k. omega (arith, c.loop-i.invariant.small k, c.loop-i-test.true, c.requires.matches, ap (λ (ps : List ℕ). get_or ps k 0) c.deref.ensures.value)

pub loop-i-preserved : goal.loop-i-preserved
loop-i-preserved c =
    let plan = plan_seen c.args.plan.now in
    let ms = c.args.matches.now in
    let records = map record_seen ms in
    let i = c.loop-i.i in
    let m = c.index-matches-i.result in
    let inv = c.loop-i.invariant in
    let next = c.in_ok-points-2.points.items in
    let same : length plan.strategies ≡ length c.args.plan.now.strategies.items = length-map c.args.plan.now.strategies.items strategy_seen in
    let each : (k : ℕ) → k < length plan.strategies → get_or next k 0 ≡ get_or c.loop-i.points.items k 0 + points_in plan k (record_seen (get_or ms i m)) =
    λ k lt. c.in_ok-points-2.ensures.points k (omega (arith, lt, same))
    ∙ ap (λ (ps : List ℕ). get_or ps k 0 + points_in plan k (record_seen m)) c.deref.ensures.value
    ∙ ap (λ (r : MatchRecord). get_or c.loop-i.points.items k 0 + points_in plan k (record_seen r)) c.index-matches-i.is in
    let points : next ≡ points_of plan (map record_seen (take (i + 1) ms)) =
    points_are plan ms i m c.loop-i.points.items next c.loop-i-test.true (omega (arith, c.in_ok-points-2.ensures.len, same)) inv.points each in
    let lead : c.leader-next.result ≡ leader_after plan records (i + 1) =
    leader_is plan ms (i + 1) c.leader-next.result next points (c.leader-next.ensures ∙ ap leader c.deref-in-loop-i.ensures.value) in
    let small : (k : ℕ) → get_or next k 0 ≤ 2040 * (i + 1) =
    λ k. omega (arith, c.in_ok-points-2.ensures.small (2040 * i) (λ j. omega (arith, inv.small j, ap (λ (ps : List ℕ). get_or ps j 0) c.deref.ensures.value)) k) in
    let more = changes_more plan records i c.loop-i.last c.leader-next.result in
    elim c.if-i-gt0.branch [
      | then-i-gt0+then-next-last w ↦ record {
        points = points;
        last = λ some. w.last-is ∙ lead;
        changes = w.changes-is ∙ ap (λ n. n + 1) inv.changes
            ∙ sym (more false w.if-i-gt0.true (inv.last w.if-i-gt0.true) lead (ne_eqb c.loop-i.last c.leader-next.result (λ e. w.if-next-last.true (sym e))));
        few = omega (arith, w.changes-is, inv.few);
        len = c.in_ok-points-2.ensures.len;
        small = small;
      }
      | else-i-gt0 w ↦ record {
        points = points;
        last = λ some. w.last-is ∙ lead;
        changes = elim w.else-i-gt0.branch [
          | else-i-gt0-via-then-i-gt0+else-next-last w' ↦
              let e : c.leader-next.result ≡ c.loop-i.last = w'.if-next-last.false in
              omega (arith, w.changes-is, inv.changes, more true w'.if-i-gt0.true (inv.last w'.if-i-gt0.true) lead (eq-eqb c.loop-i.last c.leader-next.result (sym e)))
          | else-i-gt0-via-else-i-gt0 w' ↦
              let none : i ≡ 0 = omega (arith, w'.if-i-gt0.false) in
              let before : count_by (changes_at plan records) (range_with_len 1 (i - 1)) ≡ 0 =
              ap (λ k. count_by (changes_at plan records) (range_with_len 1 (k - 1))) none in
              omega (arith, w.changes-is, inv.changes, before, changes_first plan records i none)
        ];
        few = omega (arith, w.changes-is, inv.few);
        len = c.in_ok-points-2.ensures.len;
        small = small;
      }
    ]
