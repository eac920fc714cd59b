use Rattle.std.proofs.Common.{◌<◌, ◌∷◌, ◌++◌, [], ◌∙◌, sym, ap, length, false, arith}
use Rattle.std.proofs.lemmas.List.{get_or_default, length-append}
use Rattle.rc_redraw.proofs.OtherSteps.{one_more, none_more}
use Rattle.rc_redraw.proofs.hidden.list_left.Goals as goal
use Rattle.rc_redraw.proofs.hidden.list_left.Goals.{then-not-index+in_ok-push, else-not-index}

pub loop-id-preserved : goal.loop-id-preserved
loop-id-preserved c =
    let n = c.loop-id.id in
    let used = c.args.taken.now.ids.items in
    let marks = c.args.taken.now.marks.items in
    let each = c.requires.each in
    let test = c.loop-id-test.true in
    let last = c.cards-id-end.ensures in
    let few = c.loop-id.invariant.1 in
    let less : n < length c.args.shape.now.faces = omega (arith, test, last) in
    let mark = c.index.ensures ∙ get_or_default marks n c.index.result.now false (omega (arith, less, each)) ∙ c.requires.tell n less in
    elim c.if-not-index.branch [
      | then-not-index+in_ok-push w ↦
          let items = ap (λ v. v.items) w.ids-is ∙ w.in_ok-push.ensures.items in
          let long = ap length items ∙ length-append c.loop-id.ids.items (n ∷ []) in (
            items ∙ ap (λ l. l ++ n ∷ []) c.loop-id.invariant.0 ∙ sym (one_more n used (sym mark ∙ w.if-not-index.true)),
            omega (arith, long, few),
          )
      | else-not-index w ↦
          let items = ap (λ v. v.items) w.ids-is in
          let long = ap length items in (
            items ∙ c.loop-id.invariant.0 ∙ sym (none_more n used (sym mark ∙ w.if-not-index.false)),
            omega (arith, long, few),
          )
    ]
