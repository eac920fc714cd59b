use Rattle.std.proofs.Common.{ap, ◌∙◌}
use Rattle.rc_cache.specs.Digest.{ask_hash}
use Rattle.rc_cache.proofs.MarkLemmas.{apart}
use Rattle.rc_cache.proofs.mark.HashedAskPartialEq.eq.Goals as goal

pub returns-else-self-other : goal.returns-else-self-other
returns-else-self-other c =
    apart c.args.self.now c.args.other.now c.self.inside.digest c.other.inside.digest
    (c.self.invariant ∙ ap ask_hash c.self.view_is) (c.other.invariant ∙ ap ask_hash c.other.view_is) c.if-self-other.false
