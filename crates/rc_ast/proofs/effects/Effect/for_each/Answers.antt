use Rattle.rc_ast.proofs.ViewLemmas.{each_seen}
use Rattle.rc_ast.proofs.effects.Effect.for_each.Goals as goal

pub returns : goal.returns
returns c = each_seen c.args.domain c.args.bound c.args.effects
