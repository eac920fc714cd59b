use Rattle.std.proofs.Common.{◌≡◌, [], ◌∷◌, map}
use Rattle.rc_base.specs.Numbers.{below}
use Rattle.rc_play_spec.specs.Value.{Bind as PureBind}
use Rattle.rc_play_spec.specs.Scene.{CardValue}
use Rattle.rc_play_spec.specs.Scores.{score_of}
use Rattle.rc_rules.specs.Control.{control_seen}
use Rattle.rc_value.proofs.scoring.scores_now.Given as goal

abbrev pub invariant-loop-player : goal.invariant-loop-player
invariant-loop-player l = record {
  told : l.scores.items ≡ map (score_of l.about l.table.table (control_seen l.control)) (below l.player);
  scope : (m : PureBind CardValue) × (l.scope ≡ m ∷ []);
}
