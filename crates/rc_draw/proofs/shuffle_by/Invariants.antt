use Rattle.std.proofs.Common.{◌≡◌, ◌+◌, ◌*◌, ◌<◌, length}
use Rattle.rc_play_spec.specs.Draws as draws
use Rattle.rc_draw.proofs.shuffle_by.Given as goal

abbrev pub invariant-rest : goal.invariant-rest
invariant-rest l =
    (length l.list ≡ length l.initial.list)
    × (1 < l.left → 16 * l.number + l.left ≡ length l.list)
    × (draws.permuted_by (draws.word_of l.key) (16 * l.number) l.left l.list ≡ draws.permuted l.key l.initial.list)

abbrev pub decreases-rest : goal.decreases-rest
decreases-rest l = l.left
