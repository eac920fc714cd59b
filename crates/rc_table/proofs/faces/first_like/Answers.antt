use Rattle.std.proofs.Common.{◌∙◌, [], length, sym, ap₂, arith}
use Rattle.std.proofs.lemmas.List.{get_or_read}
use Rattle.std.proofs.lemmas.List.Sums.{position_or_len_is}
use Rattle.rc_play_spec.specs.Shape.{face_eq}
use Rattle.rc_table.proofs.faces.first_like.Goals as goal

pub returns-then-are_equal-clause-first : goal.returns-then-are_equal-clause-first
returns-then-are_equal-clause-first c =
    let faces = c.args.faces.now in
    let place = c.loop-place.place in
    sym (position_or_len_is (face_eq c.args.face.now) faces place [] (omega arith) c.loop-place.invariant (λ within.
    ap₂ face_eq (sym c.pairs.ensures) (sym (c.pairs-in-loop-place.ensures ∙ get_or_read faces place _ within c.index-faces-place.is []))
    ∙ sym c.are_equal.ensures ∙ c.if-are_equal.true))

pub returns-clause-first : goal.returns-clause-first
returns-clause-first c =
    let faces = c.args.faces.now in
    sym (position_or_len_is (face_eq c.args.face.now) faces (length faces) [] (omega arith)
    (λ k less. c.loop-place.invariant k (omega (arith, less))) (λ within. absurd (omega (arith, within))))
