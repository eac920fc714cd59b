use Rattle.std.proofs.Common.{◌≡◌, ◌+◌, ◌∷◌, [], map, length, arith, sym, ap, subst, ◌∙◌, rules}
use Rattle.std.specs.Prelude.{All, IfOk}
use Rattle.std.proofs.lemmas.List.{length-append}
use Rattle.std.proofs.lemmas.List.Elements.{All-push, All-nil}
use Rattle.rc_rules.specs.Plan.{plan_seen}
use Rattle.rc_rules.specs.Record.{record_seen}
use Rattle.rc_rules.specs.declared.record.MatchRecord.{MatchRecord}
use Rattle.rc_search.specs.Rival.{rival_seen}
use Rattle.rc_house.proofs.RivalRecords.{first_records, played_more, all_played}
use Rattle.rc_house.proofs.rival_matches.records_of.Goals as goal

pub loop-number-init : goal.loop-number-init
loop-number-init g c =
    let scored = λ (r : MatchRecord). length r.scores.items ≡ c.args.about.now.value.sheet.players in
    record {
      are = ap (map record_seen) c.new-records.ensures.items;
      count = ap length c.new-records.ensures.items;
      each = subst (All scored) (sym c.new-records.ensures.items) (All-nil scored);
      served = c.requires.served;
    }

pub record_of-requires-clause-served : goal.record_of-requires-clause-served
record_of-requires-clause-served g c = c.loop-number.invariant.served

pub loop-number-preserved : goal.loop-number-preserved
loop-number-preserved g c =
    let about = c.args.about.now.value in
    let played = c.loop-number.records.items in
    let scored = λ (r : MatchRecord). length r.scores.items ≡ about.sheet.players in
    let more = ap length c.in_ok-push.ensures.items ∙ length-append played (c.in_ok-record.record ∷ []) in
    record {
      are =
          ap (map record_seen) c.in_ok-push.ensures.items
          ∙ played_more about (rival_seen c.args.rival.now) (plan_seen c.args.plan.now.value) c.loop-number.number played c.in_ok-record.record
          c.in_ok-record.ensures.record c.loop-number.invariant.are;
      count = omega (arith, c.loop-number.invariant.count, more);
      each =
          subst (All scored) (sym c.in_ok-push.ensures.items)
          (All-push scored played c.in_ok-record.record c.loop-number.invariant.each c.in_ok-record.ensures.each);
      served = c.in_ok-record.ensures.same about c.loop-number.invariant.served;
    }

pub returns-clause-are : goal.returns-clause-are
returns-clause-are g c =
    let about = c.args.about.now.value in
    let rival = rival_seen c.args.rival.now in
    let plan = c.args.plan.now.value in
    let ends : c.loop-number.number ≡ length plan.matches.items = search rules in
    c.loop-number.invariant.are ∙ ap (first_records about rival (plan_seen plan)) ends ∙ all_played about rival plan
