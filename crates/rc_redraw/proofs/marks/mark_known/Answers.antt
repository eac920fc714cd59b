use Rattle.std.proofs.Common.{◌<◌, [], length, map, replicate, sym, ap, ◌∙◌, arith}
use Rattle.rc_play_spec.specs.Redraw.{mems_of, marks_for}
use Rattle.rc_table.specs.Marks.{seats_in}
use Rattle.rc_redraw.proofs.Blends.{none_peeked}
use Rattle.rc_redraw.proofs.MarkSteps.{all_zero, are-marks}
use Rattle.rc_redraw.proofs.marks.mark_known.Goals as goal

pub mark_peeked-requires-clause-none : goal.mark_peeked-requires-clause-none
mark_peeked-requires-clause-none c =
    all_zero c.cards.result _ _ _ c.clear.ensures.items c.clear.ensures.len c.in_ok-resize.ensures.items ∙ ap (λ n. replicate n 0) c.cards.ensures

pub returns-else-some : goal.returns-else-some
returns-else-some c =
    let count = length c.args.shape.now.faces in
    let zeros = all_zero c.cards.result _ _ _ c.clear.ensures.items c.clear.ensures.len c.in_ok-resize.ensures.items ∙ ap (λ n. replicate n 0) c.cards.ensures in
    let none = none_peeked (mems_of c.args.shape.now.places) c.args.sights.now c.args.seen.now (sym c.requires.some ∙ c.if-some.false) in
    ap (map seats_in) zeros ∙ are-marks count c.args.seat 0 [] (λ some. absurd (omega (arith, some))) ∙ ap (marks_for count c.args.seat) (sym none)
