use Rattle.rc_ast.specs.Names.{loc_seen}
use Rattle.rc_ast.specs.Expressions.{domain_seen, test_seen}
use Rattle.rc_value.specs.Scene.{scene_seen}
use Rattle.rc_menu.proofs.KnownLemmas.{known_there}
use Rattle.rc_menu.proofs.known.known_over.Goals as goal

pub returns-in-Some-wanted_at : goal.returns-in-Some-wanted_at
returns-in-Some-wanted_at c =
    known_there (scene_seen c.args.scene.now) c.args.scope.now c.args.count c.args.any (domain_seen c.args.domain.now) (test_seen c.args.inner.now) (loc_seen c.in-Some.loc.now)
    c.in-Some-wanted_at.wanted c.are_there.result c.in-Some.ensures.0 c.in-Some.ensures.1 c.in-Some-wanted_at.ensures c.are_there.ensures
