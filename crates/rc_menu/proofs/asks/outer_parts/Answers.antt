use Rattle.std.proofs.Common.{arith, ap, ◌∙◌}
use Rattle.rc_menu.specs.Asks.{told_of}
use Rattle.rc_value.specs.Scene.{scene_seen}
use Rattle.rc_value.proofs.Steps.{and_here, or_here, and_depth, or_depth}
use Rattle.rc_menu.proofs.asks.outer_parts.Goals as goal

pub all_settle-requires-clause-deep : goal.all_settle-requires-clause-deep
all_settle-requires-clause-deep c =
    let e = or_depth c.args.guard.now c.in-Or.tests c.in-Or.is in omega (arith, c.requires.deep)

pub all_settle-requires-then-len-le4-2-clause-deep : goal.all_settle-requires-then-len-le4-2-clause-deep
all_settle-requires-then-len-le4-2-clause-deep c =
    let e = and_depth c.args.guard.now c.in-And.tests c.in-And.is in omega (arith, c.requires.deep)

pub returns-then-len-le4-clause-parts : goal.returns-then-len-le4-clause-parts
returns-then-len-le4-clause-parts c = λ x.
    ap (λ t. told_of (scene_seen c.args.scene.now) c.args.scope.now t x) (or_here c.args.guard.now c.in-Or.tests c.in-Or.is) ∙ c.all_settle.ensures.joined x

pub returns-then-len-le4-2-clause-parts : goal.returns-then-len-le4-2-clause-parts
returns-then-len-le4-2-clause-parts c = λ x.
    ap (λ t. told_of (scene_seen c.args.scene.now) c.args.scope.now t x) (and_here c.args.guard.now c.in-And.tests c.in-And.is) ∙ c.all_settle-then-len-le4-2.ensures.joined x
