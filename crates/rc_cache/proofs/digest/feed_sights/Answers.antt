use Rattle.std.proofs.Common.{sym, ap, ◌∙◌}
use Rattle.std.specs.Prelude.{flat_map, fold, map}
use Rattle.std.specs.Hash as fed
use Rattle.std.specs.Hash.FoldHasher as folding
use Rattle.std.proofs.lemmas.List.{drop_all, length-map}
use Rattle.rc_view.specs.Seen.{sight_seen}
use Rattle.rc_cache.specs.Digest.{sight_fed}
use Rattle.rc_cache.proofs.digest.feed_sights.Goals as goal

pub returns : goal.returns
returns c =
    let sights = c.args.sights.now in
    let past = drop_all c.loop-sight.sight-index sights c.loop-sight-test.false in
    sym (ap (λ xs. fold folding.write c.loop-sight.state (flat_map sight_fed (map sight_seen xs))) past) ∙ c.loop-sight.invariant
    ∙ ap (λ s. fold folding.write s (flat_map sight_fed (map sight_seen sights))) (c.hash.ensures ∙ ap (λ n. fold folding.write c.args.state.now (fed.usize n)) (sym (length-map sights sight_seen)))
