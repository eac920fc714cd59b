use Rattle.rc_ast.specs.Expressions.{test_seen}
use Rattle.rc_value.specs.Scene.{scene_seen}
use Rattle.rc_menu.proofs.AskLemmas.{joined_single}
use Rattle.rc_menu.proofs.asks.single_part.Goals as goal

pub returns-clause-parts : goal.returns-clause-parts
returns-clause-parts c =
    joined_single (scene_seen c.args.scene.now) c.args.scope.now (test_seen c.args.guard.now) c.settles.result c.args.asks.now.items c.settles.new.asks.items
    c.requires.empty c.settles.ensures.joined
