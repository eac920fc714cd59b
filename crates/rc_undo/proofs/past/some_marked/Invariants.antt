use Rattle.std.proofs.Common.{◌≡◌, ℕ, ◌<◌, [], slice_index}
use Rattle.rc_play_spec.specs.Table.{marks_of}
use Rattle.rc_undo.proofs.past.some_marked.Given as goal

abbrev pub invariant-loop-at : goal.invariant-loop-at
invariant-loop-at l = (k : ℕ) → k < l.at → marks_of l.table.table.marks (slice_index l.ids k) ≡ []
