use Rattle.std.proofs.Common.{ap, ◌∙◌}
use Rattle.rc_ast.specs.Effects.{effects_seen}
use Rattle.rc_code.specs.Instruction.{do_all, end_body}
use Rattle.rc_code.specs.Compiled.{effects_code}
use Rattle.rc_code.proofs.ListLemmas.{filled}
use Rattle.rc_code.proofs.items.push_do.Goals as goal

pub returns-in-Ok : goal.returns-in-Ok
returns-in-Ok c =
    let code = effects_code (effects_seen c.args.effects.now.items) in
    let here = c.len-at.ensures ∙ c.args.list.now.ok.0 in
    filled c.args.list.now.items c.push_inside.new.list.items c.write.new.list.items code end_body _ _ c.len-at.result c.in-Ok.ensures.code here c.write.ensures
    (ap (λ n. do_all n) c.in-Ok.ensures.inside)
