use Rattle.rc_ast.specs.Expressions.{int_seen}
use Rattle.rc_value.specs.Scene.{scene_seen}
use Rattle.rc_value.proofs.ComparingLemmas.{paired_his}
use Rattle.rc_value.proofs.comparing.comparison_of.Goals as goal

pub returns-in-Some : goal.returns-in-Some
returns-in-Some c =
    paired_his (scene_seen c.args.scene.now) c.args.scope.now (int_seen c.args.a.now) (int_seen c.args.b.now) c.len.result c.in-Some.own c.args.how c.len.ensures
    c.against.result c.in-Some.ensures c.against.ensures
