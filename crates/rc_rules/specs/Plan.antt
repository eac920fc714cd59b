-- Plans as pure trees, in which no clause meets a vector.
use Rattle.std.specs.Prelude.{◌≡◌, length, map}
use Rattle.rc_play_spec.specs.About.{About}
use Rattle.rc_play_spec.specs.Plan.{scripted, random, rollout, Strategy as PureStrategy, Deal as PureDeal, Plan as PurePlan}
use Rattle.rc_rules.specs.declared.plan.Strategy.{Strategy}
use Rattle.rc_rules.specs.declared.plan.Strategy.TheVariants.{Script, Random, Rollout}
use Rattle.rc_rules.specs.declared.plan.Deal.{Deal}
use Rattle.rc_rules.specs.declared.plan.Plan.{Plan}

abbrev pub strategy_seen : Strategy → PureStrategy
strategy_seen (Script numbers) = scripted numbers.items
strategy_seen (Random key) = random key
strategy_seen (Rollout rounds key) = rollout rounds key

abbrev pub deal_seen : Deal → PureDeal
deal_seen deal = record { deal = deal.deal; seats = deal.seats }

abbrev pub plan_seen : Plan → PurePlan
plan_seen plan =
    record {
      strategies = map strategy_seen plan.strategies.items;
      matches = map deal_seen plan.matches.items;
      turns = plan.turns;
    }

-- it has a strategy for each player
abbrev pub IsPlanFor : About → Plan → Type 0
IsPlanFor about plan = length plan.strategies.items ≡ about.sheet.players
