use Rattle.std.proofs.Common.{◌∷◌, ◌++◌, [], ◌∙◌, sym, ap, ap₂, subst, length, true, arith}
use Rattle.std.specs.Prelude.{slice_index, ◌==◌}
use Rattle.std.specs.List.{list_any}
use Rattle.std.proofs.lemmas.List.{take_more, length-set}
use Rattle.rc_play_spec.specs.Redraw.{seen_ids}
use Rattle.rc_play_spec.specs.Smallest.{IsSmallestUnused}
use Rattle.rc_table.proofs.FaceNumbers.{number_le}
use Rattle.rc_redraw.proofs.FaceSteps.{on-used, on-other, found-it, marks-more}
use Rattle.rc_redraw.proofs.seen.take_ids.Goals as goal
use Rattle.rc_redraw.proofs.seen.take_ids.Goals.{then-index, else-index+then-face_number-face}

pub loop-face-2-init : goal.loop-face-2-init
loop-face-2-init c =
    let shape = c.args.shape.now in
    let faces = c.args.faces.now in
    let k = c.loop-face.face-index in
    let s = slice_index (seen_ids shape [] faces) k in
    let small = subst (λ used. IsSmallestUnused shape used (slice_index faces k) s) (sym c.loop-face.invariant.0)
    ((c.seen_places_take_the_smallest.ensures.any shape faces c.requires).1 k c.loop-face-test.true) in
    let le = number_le shape s in
    let face = small.face in
    (omega (arith, le, face), small)

pub loop-face-2-preserved : goal.loop-face-2-preserved
loop-face-2-preserved c =
    let shape = c.args.shape.now in
    let ids = c.loop-face.ids.items in
    let flags = c.loop-face.marks.items in
    let f = slice_index c.args.faces.now c.loop-face.face-index in
    let s = slice_index (seen_ids shape [] c.args.faces.now) c.loop-face.face-index in
    let id = c.loop-face-2.id in
    let marks = c.loop-face.invariant.1 in
    let inv = c.loop-face-2.invariant in
    elim c.if-index.branch [
      | then-index w ↦ (on-used shape ids flags f s id marks.each marks.tell inv.1 inv.0 c.index.result.now c.index.ensures w.if-index.true, inv.1)
      | else-index+then-face_number-face w ↦ (
        on-other shape ids flags f s id marks.each marks.tell inv.1 inv.0 (λ is. w.if-face_number-face.true (w.face_number.ensures.number ∙ is)),
        inv.1,
      )
    ]

pub loop-face-2-smaller : goal.loop-face-2-smaller
loop-face-2-smaller c = let h = (loop-face-2-preserved c).0 in omega (arith, h)

pub loop-face-preserved : goal.loop-face-preserved
loop-face-preserved c =
    let shape = c.args.shape.now in
    let k = c.loop-face.face-index in
    let all = seen_ids shape [] c.args.faces.now in
    let id = c.loop-face-2.id in
    let ids = c.loop-face.ids.items in
    let flags = c.loop-face.marks.items in
    let before = c.loop-face.invariant in
    let inv = c.loop-face-2.invariant in
    let is = found-it shape ids flags (slice_index c.args.faces.now k) (slice_index all k) id before.1.each before.1.tell inv.1 inv.0
    c.index.result.now c.index.ensures c.if-index.false
    (sym c.face_number.ensures.number ∙ c.if-face_number-face.false) in
    let len = (c.seen_places_take_the_smallest.ensures.any shape c.args.faces.now c.requires).0 in
    let test = c.loop-face-test.true in
    let bound = inv.1.within in
    let whole = before.1.each in
    let items = c.in_ok-push.ensures.items in (
      items ∙ ap₂ (λ a b. a ++ b ∷ []) before.0 is ∙ sym (take_more all k 0 (omega (arith, len, test))),
      record {
        each = length-set flags id true ∙ whole;
        tell = λ j less. marks-more flags ids (length shape.faces) id (omega (arith, is, bound, whole)) before.1.tell j less
            ∙ sym (ap (λ l. list_any (λ other. other == j) l) items);
      },
    )
