use Rattle.std.proofs.Common.{◌++◌, ◌∷◌, [], replicate, ap, ap₂, sym, ◌∙◌, arith, append_assoc}
use Rattle.rc_rules.proofs.ShapeLemmas.{repeated_push}
use Rattle.rc_rules.proofs.shape.push_homes.Goals as goal

pub loop-preserved : goal.loop-preserved
loop-preserved c =
    let home = c.first_loc-home.result in
    let old = c.args.list.now.items in
    c.in_ok-push.ensures.items ∙ ap (λ list. list ++ home ∷ []) c.loop.invariant
    ∙ append_assoc old (replicate c.loop.counter home) (home ∷ []) ∙ ap (λ more. old ++ more) (sym (repeated_push home c.loop.counter))

pub returns : goal.returns
returns c =
    let end = c.loop.auto.counter-end in
    let stop = c.loop-test.false in
    let all = c.card_count-end.ensures in
    c.loop.invariant ∙ ap₂ (λ n home. c.args.list.now.items ++ replicate n home) (omega (arith, end, stop, all)) c.first_loc-home.ensures
