use Rattle.std.proofs.Common.{◌<◌, ◌++◌, [], ◌∷◌, length, sym, ap, ◌∙◌, arith, rules, append-nil, length-append}
use Rattle.rc_value.proofs.HeldLemmas.{one_more}
use Rattle.rc_value.proofs.held.held_among.Goals as goal
use Rattle.rc_value.proofs.held.held_among.Goals.{in-Held, in-Noted}

pub loop-at-preserved : goal.loop-at-preserved
loop-at-preserved c =
    let loop = c.loop-at in
    let cards = c.args.cards.now in
    let less : loop.at < length cards = search rules in
    let few = loop.invariant.few in
    elim c.match-cards-at.branch [
      | in-Held w ↦
          let is = ap (λ ids. ids.items) w.ids-is ∙ w.push.ensures.items in
          let same = ap length is in
          let long = length-append loop.ids.items (w.in-Held.id ∷ []) in
          record {
            is = is ∙ ap (λ ids. ids ++ w.in-Held.id ∷ []) loop.invariant.is ∙ sym (one_more cards loop.at _ _ less w.in-Held.is);
            few = omega (arith, same, long, few);
          }
      | in-Noted w ↦
          let is = ap (λ ids. ids.items) w.ids-is in
          let same = ap length is in
          record {
            is = is ∙ loop.invariant.is ∙ sym (one_more cards loop.at _ _ less w.in-Noted.is ∙ append-nil _);
            few = omega (arith, same, few);
          }
    ]
