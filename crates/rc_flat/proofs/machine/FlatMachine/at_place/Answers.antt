use Rattle.std.proofs.Common.{◌≡◌, rules, sym, subst}
use Rattle.rc_code.specs.Seen.{list_seen, code_seen}
use Rattle.rc_code.specs.Implements.{Implements}
use Rattle.rc_flat.specs.State.{IsReady}
use Rattle.rc_flat.proofs.machine.FlatMachine.at_place.Goals as goal

pub refill-requires-clause-implements : goal.refill-requires-clause-implements
refill-requires-clause-implements c =
    let same : c.deref-2.result.now ≡ c.args.code.value.list.items = search rules in
    subst (λ list. Implements c.args.about.sheet (list_seen list)) (sym same)
    (c.standing_code_implements.ensures c.args.about.sheet (code_seen c.args.code.value) c.requires.stands c.sheet-sheet.ensures.well)

pub invariant_of-result : goal.invariant_of-result
invariant_of-result c =
    let about = c.args.about in
    let code = list_seen c.args.code.value.list.items in
    let same : c.deref-2.result.now ≡ c.args.code.value.list.items = search rules in
    record {
      implements = c.standing_code_implements.ensures about.sheet (code_seen c.args.code.value) c.requires.stands c.sheet-sheet.ensures.well;
      laid = c.refill.ensures.ready.laid;
      ready = λ fresh. subst (λ list. IsReady about (list_seen list) c.refill.new.state) same c.refill.ensures.ready;
    }
