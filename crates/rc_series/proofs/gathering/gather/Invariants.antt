use Rattle.std.proofs.Common.{◌≡◌, Bool, List, length}
use Rattle.std.specs.List.{AllByRecursion}
use Rattle.rc_play_spec.specs.About.{About}
use Rattle.rc_play_spec.specs.Plan.{Plan}
use Rattle.rc_series.specs.declared.turn.Worker.{Worker}
use Rattle.rc_series.specs.Gathered.{AreTurns, Gathers, IsOwn}
use Rattle.rc_series.proofs.gathering.gather.Given as goal

abbrev pub invariant-loop-rest : goal.invariant-loop-rest
invariant-loop-rest g l =
    record {
      own : AllByRecursion (IsOwn l.claims.table) l.rest.items;
      pass : l.gathered.pass.table ≡ l.claims.table;
      so_far :
          (noted : Bool) (about : About) (plan : Plan) (workers : List (Worker g.row.C.Denot)) → AreTurns g.C.Chooser.name g.C.Chooser.counts noted about plan workers l.fn.turns.items →
          Gathers g.C.Chooser.name g.C.Chooser.counts noted about plan workers l.rest.items l.gathered;
    }

abbrev pub decreases-loop-rest : goal.decreases-loop-rest
decreases-loop-rest g l = length l.rest.items
