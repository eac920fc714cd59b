use Rattle.rc_plain.specs.Plain.{config_of}
use Rattle.rc_games.specs.Alike.{AreAlike}
use Rattle.rc_games.proofs.alike.replay_beside.Given as goal

abbrev pub invariant-loop-pick : goal.invariant-loop-pick
invariant-loop-pick g l =
    AreAlike l.tree.about (g.F.Machine.about l.other) (config_of l.tree) (g.F.Machine.config l.other) l.dealers.tree l.dealers.other
