use Rattle.std.proofs.Common.{◌≡◌, subst, sym, rules}
use Rattle.rc_play_spec.specs.Limits.{IsWithinLimits}
use Rattle.rc_rules.specs.Plan.{plan_seen}
use Rattle.rc_trick.specs.Bench.{bench_plan}
use Rattle.rc_trick.proofs.Within.{bench_within}
use Rattle.rc_trick.proofs.plan.bench_plan.Goals as goal

pub returns-in-Ok-strategies-clause-within : goal.returns-in-Ok-strategies-clause-within
returns-in-Ok-strategies-clause-within c =
    let is : plan_seen (record { strategies = c.in-Ok-strategies.strategies; matches = c.in-Ok.matches; turns = 64 }) ≡ bench_plan c.args.number = search rules in
    subst IsWithinLimits (sym is) (bench_within c.args.number c.requires.some c.requires.few)
