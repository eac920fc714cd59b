use Rattle.std.proofs.Common.{ℕ, ◌<◌, List, [], ◌∷◌, length, ◌∙◌, arith}
use Rattle.std.specs.List.{AllByRecursion}
use Rattle.rc_base.specs.Limits.{most_sites}
use Rattle.rc_base.specs.Numbers.{below}
use Rattle.rc_base.specs.Transcript.{Pick, Record}
use Rattle.rc_play_spec.specs.Plan.{Plan, strategy_held}
use Rattle.rc_measure.specs.Tally.{at_site, tally_where}
use Rattle.rc_measure.specs.Measures.{sites_met}
use Rattle.rc_measure.proofs.Sums.{sum_kept}
use Rattle.rc_measure.proofs.AddingUp.{classes_add_up, forced_few, menus_long}
use Rattle.rc_measure.proofs.laws.choices_add_up.Goals as goal

held_below : (plan : Plan) → 0 < length plan.strategies → (m : ℕ) (picks : List Pick) → AllByRecursion (λ p. strategy_held plan m p.seat < length plan.strategies) picks
held_below plan some m [] = tt
held_below plan some m (p ∷ picks) = (omega arith, held_below plan some m picks)

all_held : (plan : Plan) → 0 < length plan.strategies → (records : List Record) →
    AllByRecursion (λ r. AllByRecursion (λ p. strategy_held plan r.number p.seat < length plan.strategies) r.picks) records
all_held plan some [] = tt
all_held plan some (r ∷ records) = (held_below plan some r.number r.picks, all_held plan some records)

pub returns-clause-sites : goal.returns-clause-sites
unfolding sites_met
returns-clause-sites c =
    λ records all. sum_kept (λ site. (tally_where (at_site site) records).choices) (below most_sites) ∙ classes_add_up (λ m p. p.site) most_sites records all

pub returns-clause-seats : goal.returns-clause-seats
returns-clause-seats c = λ plan records all. classes_add_up (λ m p. p.seat) (length plan.strategies) records all

pub returns-clause-strategies : goal.returns-clause-strategies
returns-clause-strategies c =
    λ plan records some. classes_add_up (λ m p. strategy_held plan m p.seat) (length plan.strategies) records (all_held plan some records)

pub returns-clause-forced : goal.returns-clause-forced
returns-clause-forced c = forced_few

pub returns-clause-menus : goal.returns-clause-menus
returns-clause-menus c = menus_long
