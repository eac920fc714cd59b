use Rattle.std.proofs.Common.{◌≡◌, map, length}
use Rattle.std.specs.Prelude.{All}
use Rattle.rc_rules.specs.Plan.{plan_seen}
use Rattle.rc_rules.specs.Record.{record_seen}
use Rattle.rc_search.specs.Rival.{rival_seen}
use Rattle.rc_house.proofs.RivalRecords.{first_records}
use Rattle.rc_house.proofs.rival_matches.records_of.Given as goal

abbrev pub invariant-loop-number : goal.invariant-loop-number
invariant-loop-number g l = record {
  are : map record_seen l.records.items ≡ first_records l.about.value (rival_seen l.rival) (plan_seen l.plan.value) l.number;
  count : length l.records.items ≡ l.number;
  each : All (λ r. length r.scores.items ≡ l.about.value.sheet.players) l.records.items;
  served : g.C.Chooser.serves l.chooser l.about.value;
}
