use Rattle.std.proofs.Common.{◌≡◌, drop}
use Rattle.std.specs.Prelude.{fold}
use Rattle.rc_play_spec.specs.Effects.{move_card}
use Rattle.rc_ast.specs.Effects.{end_seen}
use Rattle.rc_value.specs.Cards.{values_seen}
use Rattle.rc_undo.specs.Undo.{Keeps}
use Rattle.rc_exec.proofs.moving.put_one_by_one.Given as goal

-- what is left to move, from here, leads to what all lead to
abbrev pub invariant-loop-card : goal.invariant-loop-card
invariant-loop-card l =
    Keeps l.fn.board l.board
    × (fold (move_card l.fn.board.laid.shape (end_seen l.end) l.at) l.board.laid.table (values_seen (drop l.card-index l.cards))
    ≡ fold (move_card l.fn.board.laid.shape (end_seen l.end) l.at) l.fn.board.laid.table (values_seen l.cards))
