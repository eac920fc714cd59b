use Rattle.std.proofs.Common.{◌≡◌, length, map, ℤ, refl, sym, ap, subst}
use Rattle.std.specs.List.{AllByRecursion}
use Rattle.rc_base.specs.Numbers.{below}
use Rattle.rc_rules.specs.Plan.{plan_seen}
use Rattle.rc_rules.specs.Record.{record_seen}
use Rattle.rc_measure.specs.Measures.{site_row, sites_met, seat_row, strategy_row}
use Rattle.rc_measure.proofs.Numbers.{each_has}
use Rattle.rc_measure.proofs.measures.measures_of.Goals as goal

pub returns-clause-numbers : goal.returns-clause-numbers
returns-clause-numbers c =
    let records = map record_seen c.args.matches.now in
    let all = below (length c.args.plan.now.strategies.items) in
    let rows = c.in_ok-tables.ensures in
    record {
      matches = ap (length {A = ℤ}) c.in_ok-pairs.ensures.matches;
      choices = ap (length {A = ℤ}) c.in_ok-pairs.ensures.choices;
      forced = ap (length {A = ℤ}) c.in_ok-pairs.ensures.forced;
      menu = ap (length {A = ℤ}) c.in_ok-pairs.ensures.menu;
      spread = ap (length {A = ℤ}) c.in_ok-spread.ensures;
      leads = ap (length {A = ℤ}) c.in_ok-pairs.ensures.leads;
      turns = ap (length {A = ℤ}) c.in_ok-turns.ensures;
      sites = subst (AllByRecursion (λ row. length row ≡ 4)) (sym rows.sites) (each_has (site_row records) 4 (λ k. refl) (sites_met records));
      seats = subst (AllByRecursion (λ row. length row ≡ 5)) (sym rows.seats) (each_has (seat_row records) 5 (λ k. refl) all);
      strategies = subst (AllByRecursion (λ row. length row ≡ 4)) (sym rows.strategies)
          (each_has (strategy_row (plan_seen c.args.plan.now) records) 4 (λ k. refl) all);
    }
