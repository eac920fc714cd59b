use Rattle.std.proofs.Common.{◌≡◌, drop, map}
use Rattle.std.specs.Prelude.{fold}
use Rattle.rc_base.specs.Numbers.{below}
use Rattle.rc_play_spec.specs.Value.{player_bound}
use Rattle.rc_exec.specs.Everyone.{change_for}
use Rattle.rc_undo.specs.Undo.{Keeps}
use Rattle.rc_exec.proofs.everyone.change_by_turns.Given as goal

-- what is left to change, from here, leads to what all lead to
abbrev pub invariant-loop-player : goal.invariant-loop-player
invariant-loop-player l =
    Keeps l.fn.board l.board
    × (fold (change_for l.each) l.board.laid.table
    (map (λ n. player_bound n) (drop l.player (below l.about.sheet.players)))
    ≡ fold (change_for l.each) l.fn.board.laid.table (map (λ n. player_bound n) (below l.about.sheet.players)))
