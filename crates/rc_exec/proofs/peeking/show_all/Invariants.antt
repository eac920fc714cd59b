use Rattle.std.proofs.Common.{◌≡◌, drop}
use Rattle.std.specs.Prelude.{fold}
use Rattle.rc_play_spec.specs.Effects.{is_named, show_card}
use Rattle.rc_value.specs.Cards.{values_seen}
use Rattle.rc_undo.specs.Undo.{Keeps}
use Rattle.rc_exec.proofs.peeking.show_all.Given as goal

-- what is left to show, from here, leads to what all lead to
abbrev pub invariant-loop-card : goal.invariant-loop-card
invariant-loop-card l =
    Keeps l.fn.board l.board
    × (fold (show_card l.fn.board.laid.shape (is_named l.fn.board.laid.shape l.class l.owner)) l.board.laid.table (values_seen (drop l.card-index l.cards))
    ≡ fold (show_card l.fn.board.laid.shape (is_named l.fn.board.laid.shape l.class l.owner)) l.fn.board.laid.table (values_seen l.cards))
