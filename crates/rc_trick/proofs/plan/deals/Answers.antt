use Rattle.std.proofs.Common.{rules, ◌≡◌, ◌+◌, ◌∷◌, ◌++◌, ◌∙◌, [], map, ap, sym, arith}
use Rattle.std.proofs.lemmas.List.FromFn.{map-range_with_len_more}
use Rattle.std.proofs.lemmas.List.{map-append}
use Rattle.rc_play_spec.specs.Plan.{Deal as PureDeal}
use Rattle.rc_play_spec.specs.PlanStands.{later, counted_from}
use Rattle.rc_rules.specs.Plan.{deal_seen}
use Rattle.rc_rules.specs.declared.plan.Deal.{Deal}
use Rattle.rc_trick.proofs.plan.deals.Goals as goal

pub loop-m-preserved : goal.loop-m-preserved
loop-m-preserved c =
    let first : PureDeal = record { deal = c.args.number; seats = 1000 } in
    let deal : Deal = record { deal = c.from.result + c.from-in-loop-m.result; seats = 1000 + c.from-in-loop-m-2.result } in
    let next : deal_seen deal ≡ later first c.loop-m.m = search (c.from.ensures, c.from-in-loop-m.ensures, c.from-in-loop-m-2.ensures, rules) in
    ap (map deal_seen) c.in_ok-push.ensures.items
    ∙ map-append deal_seen c.loop-m.all.items (deal ∷ [])
    ∙ ap (λ list. list ++ deal_seen deal ∷ []) c.loop-m.invariant
    ∙ ap (λ d. counted_from first c.loop-m.m ++ d ∷ []) next
    ∙ sym (map-range_with_len_more (later first) 0 c.loop-m.m c.loop-m.m (omega arith))
