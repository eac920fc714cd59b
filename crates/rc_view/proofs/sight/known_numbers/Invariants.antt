use Rattle.std.proofs.Common.{◌≡◌, map, take}
use Rattle.rc_play_spec.specs.View.{known_face}
use Rattle.rc_view.proofs.sight.known_numbers.Given as goal

abbrev pub invariant-loop-id : goal.invariant-loop-id
invariant-loop-id l = l.numbers.items ≡ map (known_face l.shape l.table.table.marks l.seat) (take l.id-index l.ids)
