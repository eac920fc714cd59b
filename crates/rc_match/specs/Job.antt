-- The match of a plan that a job stands for.
use Rattle.std.specs.Prelude.{◌≡◌, ◌<◌, ℕ, length}
use Rattle.rc_play_spec.specs.About.{About}
use Rattle.rc_play_spec.specs.Keyed.{dealing_of}
use Rattle.rc_play_spec.specs.Plan.{Plan, deal_at}
use Rattle.rc_rules.specs.Dealer.{Dealt}
use Rattle.rc_rules.specs.Plan.{plan_seen, IsPlanFor}
use Rattle.rc_match.specs.declared.job.Job.{Job}

-- What is said of any match of a plan, said of the job's: what it is played by, the plan, and its number there.
abbrev pub of_job {ℓ} : {R : Type ℓ} → Job → (About → Plan → ℕ → R) → R
of_job job said = said job.about.value (plan_seen job.plan.value) job.number

-- the plan has a match of that number
abbrev pub IsInPlan : Job → Type 0
IsInPlan job = job.number < length job.plan.value.matches.items

-- and a strategy for each player
abbrev pub HasStrategies : Job → Type 0
HasStrategies job = IsPlanFor job.about.value job.plan.value

-- the dealer shuffles by the seed of the match's shuffles
abbrev pub DealsFor : Job → Dealt → Type 0
DealsFor job dealer = dealing_of dealer.deal ≡ dealing_of (deal_at (plan_seen job.plan.value) job.number).deal
