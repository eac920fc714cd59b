use Rattle.rc_check.proofs.PartLemmas.{part_found}
use Rattle.rc_check.proofs.parts.part_at.Goals as goal

pub returns : goal.returns
returns c = part_found c.args.parts.now c.args.index c.get.result c.get.ensures.lookup.1 c.get.ensures.lookup.3
