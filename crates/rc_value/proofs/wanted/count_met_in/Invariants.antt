use Rattle.std.proofs.Common.{◌≡◌, ◌+◌, ◌≤◌, drop, length, slice_index_or, None}
use Rattle.std.specs.List.{filter}
use Rattle.rc_value.specs.Wanted.{meets}
use Rattle.rc_value.proofs.wanted.count_met_in.Given as goal

abbrev pub invariant-loop-place : goal.invariant-loop-place
invariant-loop-place l = record {
  few : l.count ≤ l.place;
  told : l.count + length (filter (λ id. meets l.wanted (slice_index_or l.row id None)) (drop l.place l.ids))
      ≡ length (filter (λ id. meets l.wanted (slice_index_or l.row id None)) l.ids);
}
