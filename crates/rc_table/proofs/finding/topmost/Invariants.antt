use Rattle.std.proofs.Common.{◌≡◌, ◌++◌, take, drop, reverse}
use Rattle.rc_play_spec.specs.Table.{without_face}
use Rattle.rc_table.proofs.finding.topmost.Given as goal

abbrev pub invariant-loop-place : goal.invariant-loop-place
invariant-loop-place l =
    reverse (without_face l.shape l.id (reverse (take l.place l.list))) ++ drop l.place l.list ≡ reverse (without_face l.shape l.id (reverse l.list))
