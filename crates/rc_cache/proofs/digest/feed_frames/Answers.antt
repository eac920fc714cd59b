use Rattle.std.proofs.Common.{sym, ap, ◌∙◌}
use Rattle.std.specs.Prelude.{flat_map, fold, map}
use Rattle.std.specs.Hash as fed
use Rattle.std.specs.Hash.FoldHasher as folding
use Rattle.std.proofs.lemmas.List.{drop_all, length-map}
use Rattle.rc_rules.specs.Control.{frame_seen}
use Rattle.rc_cache.specs.Digest.{frame_fed}
use Rattle.rc_cache.proofs.digest.feed_frames.Goals as goal

pub returns : goal.returns
returns c =
    let frames = c.args.frames.now in
    let past = drop_all c.loop-frame.frame-index frames c.loop-frame-test.false in
    sym (ap (λ xs. fold folding.write c.loop-frame.state (flat_map frame_fed (map frame_seen xs))) past) ∙ c.loop-frame.invariant
    ∙ ap (λ s. fold folding.write s (flat_map frame_fed (map frame_seen frames))) (c.hash.ensures ∙ ap (λ n. fold folding.write c.args.state.now (fed.usize n)) (sym (length-map frames frame_seen)))
