use Rattle.std.proofs.Common.{◌≡◌, drop, map}
use Rattle.rc_ast.specs.Items.{item_seen}
use Rattle.rc_play_spec.specs.Path.{body_at}
use Rattle.rc_plain.proofs.path.innermost.Given as goal

abbrev pub invariant-loop-place : goal.invariant-loop-place
invariant-loop-place l =
    body_at (map item_seen l.here) (drop l.place-index l.outer) ≡ body_at (map item_seen l.items) l.outer
