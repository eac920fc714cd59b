use Rattle.std.proofs.Common.{◌≡◌, drop, slice_index_or, None}
use Rattle.rc_value.specs.Over.{over}
use Rattle.rc_value.specs.Wanted.{meets}
use Rattle.rc_value.proofs.wanted.are_met_in.Given as goal

abbrev pub invariant-loop-place : goal.invariant-loop-place
invariant-loop-place l =
    over l.any (λ id. meets l.wanted (slice_index_or l.row id None)) (drop l.place l.ids)
    ≡ over l.any (λ id. meets l.wanted (slice_index_or l.row id None)) l.ids
