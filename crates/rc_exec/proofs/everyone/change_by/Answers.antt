use Rattle.rc_ast.specs.Expressions.{int_seen}
use Rattle.rc_ast.specs.Names.{num_seen}
use Rattle.rc_rules.specs.Control.{frames_seen}
use Rattle.rc_exec.proofs.EveryoneLemmas.{change_turns}
use Rattle.rc_exec.proofs.everyone.change_by.Goals as goal

pub returns-in-Some-value_for_each-clause-turns : goal.returns-in-Some-value_for_each-clause-turns
returns-in-Some-value_for_each-clause-turns c =
    let context = c.args.context.now in
    change_turns context.about.now context.scope.now (frames_seen c.args.frames.now.items) c.args.how
    (num_seen c.args.num.now) (int_seen c.args.value.now) c.in-Some.place c.in-Some-value_for_each.value
    c.in-Some.ensures c.in-Some-value_for_each.ensures.value
