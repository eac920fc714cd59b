use Rattle.std.proofs.Common.{◌≡◌, ◌+◌, ◌-◌, ◌*◌, length}
use Rattle.rc_play_spec.specs.Draws as draws
use Rattle.rc_draw.proofs.shuffle_by_block.Given as goal

abbrev pub invariant-words : goal.invariant-words
invariant-words l =
    (length l.list ≡ length l.initial.list)
    × (draws.permuted_by (draws.word_of l.key) (16 * l.fn.number + l.place) (l.fn.left - l.place) l.list
    ≡ draws.permuted_by (draws.word_of l.key) (16 * l.fn.number) l.fn.left l.initial.list)
