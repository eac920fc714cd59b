use Rattle.std.specs.Prelude.{◌≡◌, drop, fold}
use Rattle.std.specs.Hash.FoldHasher as folding
use Rattle.rc_cache.specs.Digest.{known_fed}
use Rattle.rc_cache.proofs.digest.feed_known.Given as goal

abbrev pub invariant-loop-at : goal.invariant-loop-at
invariant-loop-at l =
    fold folding.write l.state (known_fed l.at-counter (drop l.at-counter l.numbers))
    ≡ fold folding.write l.initial.state (known_fed 0 l.numbers)
