use Rattle.std.proofs.Common.{refl, ◌∙◌}
use Rattle.rc_rules.specs.Control.{frame_seen}
use Rattle.rc_cache.specs.Same.{same_frame}
use Rattle.rc_cache.proofs.MarkLemmas.{seen_pointwise}
use Rattle.rc_cache.proofs.same.same_frames.Goals as goal

pub returns : goal.returns
returns c = c.eq.ensures ∙ seen_pointwise frame_seen _ same_frame (λ x y. refl) c.args.first.now c.args.second.now
