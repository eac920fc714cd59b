use Rattle.std.specs.Prelude.{◌≡◌, drop, flat_map, fold, map}
use Rattle.std.specs.Hash.FoldHasher as folding
use Rattle.rc_rules.specs.Control.{frame_seen}
use Rattle.rc_cache.specs.Digest.{frame_fed}
use Rattle.rc_cache.proofs.digest.feed_frames.Given as goal

abbrev pub invariant-loop-frame : goal.invariant-loop-frame
invariant-loop-frame l =
    fold folding.write l.state (flat_map frame_fed (map frame_seen (drop l.frame-index l.frames)))
    ≡ fold folding.write l.initial.state (flat_map frame_fed (map frame_seen l.frames))
