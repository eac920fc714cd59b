use Rattle.rc_ast.specs.Expressions.{domain_seen}
use Rattle.rc_rules.specs.Control.{frames_seen}
use Rattle.rc_value.proofs.MemberLemmas.{member_there, bind_there}
use Rattle.rc_value.proofs.members.bare_bind_at.Goals as goal

pub returns-clause-there : goal.returns-clause-there
returns-clause-there c =
    let context = c.args.context.now in
    let stands = c.requires.stands in
    bind_there context.about.now.shape _ c.bound_at.result
    (member_there context.about.now c.sheet-fits.ensures.shape c.sheet-fits.ensures.well c.args.table.now stands.0 c.shape-sound.ensures.sound
    (frames_seen c.args.frames.now.items) context.scope.now stands.2 (domain_seen c.args.domain.now) c.args.spot)
    c.bound_at.ensures
