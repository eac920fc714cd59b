use Rattle.std.proofs.Common.{◌≡◌, ◌≤◌, ◌<◌, ◌*◌, ◌-◌, ℕ, length, map, take, count_by, get_or}
use Rattle.rc_rules.specs.Record.{record_seen}
use Rattle.rc_rules.specs.Plan.{plan_seen}
use Rattle.std.specs.List.{range_with_len}
use Rattle.rc_play_spec.specs.House.{points_of}
use Rattle.rc_measure.specs.Leads.{leader_after, changes_at}
use Rattle.rc_measure.proofs.leads.leads_in.Given as goal

abbrev pub invariant-loop-i : goal.invariant-loop-i
invariant-loop-i l =
    let plan = plan_seen l.plan in
    let records = map record_seen l.matches in
    record {
      points : l.points.items ≡ points_of plan (map record_seen (take l.i l.matches));
      last : 0 < l.i → l.last ≡ leader_after plan records l.i;
      changes : l.changes ≡ count_by (changes_at plan records) (range_with_len 1 (l.i - 1));
      few : l.changes ≤ l.i;
      len : length l.points.items ≡ length l.plan.strategies.items;
      small : (k : ℕ) → get_or l.points.items k 0 ≤ 2040 * l.i;
    }
