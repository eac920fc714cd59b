use Rattle.std.proofs.Common.{rules, ◌≡◌, ◌<◌, ◌≤◌, length, map, ◌+◌, [], ◌∷◌, sym, ap, ap₂, ◌∙◌, drop, replicate, arith}
use Rattle.std.proofs.lemmas.List.{length-map, drop_all}
use Rattle.rc_play_spec.specs.Redraw.{mems_of, faces_at, peeked_at, peeked, seen_faces}
use Rattle.rc_table.specs.Marks.{seats_in}
use Rattle.rc_table.proofs.WhereaboutEdits.{refilled}
use Rattle.rc_redraw.specs.Marked.{marked_by}
use Rattle.rc_view.specs.Seen.{sight_seen}
use Rattle.rc_redraw.proofs.FillSteps.{seen-more, peeked-more}
use Rattle.rc_redraw.proofs.MarkSteps.{marked-more, marked-long, are-marks, one-bit, partly-here, faces-here}
use Rattle.rc_redraw.proofs.marks.mark_peeked.Goals as goal
use Rattle.rc_redraw.proofs.marks.mark_peeked.Goals.{then-seat-lt8, else-seat-lt8, in-Partly, in_default}

pub overflow_add-to : goal.overflow_add-to
overflow_add-to c =
    let test = c.loop-loc-test.true in
    let last = c.locations-loc-end.ensures in
    let more = seen-more c.args.shape.now.places c.args.sights.now c.loop-loc.loc c.requires.each (omega (arith, test, last)) _ c.index-sights-loc.result
    c.holds_references-mem.ensures c.index-sights-loc.is in
    let sum = c.loop-loc.invariant.2 in
    let seen = c.known_places.ensures in
    let h : c.loop-loc.from + c.known_places.result ≤ length c.args.seen.now = omega (arith, more, sum, seen) in
    search (rules, h)

pub slice_bounds-mark-end : goal.slice_bounds-mark-end
slice_bounds-mark-end c =
    let test = c.loop-loc-test.true in
    let last = c.locations-loc-end.ensures in
    let more = seen-more c.args.shape.now.places c.args.sights.now c.loop-loc.loc c.requires.each (omega (arith, test, last)) _ c.index-sights-loc.result
    c.holds_references-mem.ensures c.index-sights-loc.is in
    let sum = c.loop-loc.invariant.2 in
    let seen = c.known_places.ensures in
    let h : c.loop-loc.from + c.known_places.result ≤ length c.args.seen.now = omega (arith, more, sum, seen) in
    search (rules, h)

pub loop-loc-preserved : goal.loop-loc-preserved
loop-loc-preserved c =
    let test = c.loop-loc-test.true in
    let last = c.locations-loc-end.ensures in
    let less : c.loop-loc.loc < length c.args.shape.now.places = omega (arith, test, last) in
    let i = c.loop-loc.loc in
    let a = c.loop-loc.from in
    let k = c.known_places.result in
    let places = c.args.shape.now.places in
    let sights = c.args.sights.now in
    let ids = c.args.seen.now in
    let seats = c.if-seat-lt8.seats in
    let m = c.holds_references-mem.result in
    let s = c.index-sights-loc.result in
    let mems' = drop (i + 1) (mems_of places) in
    let sights' = drop (i + 1) (map sight_seen sights) in
    let n = length (faces_at m (sight_seen s)) in
    let marks = c.loop-loc.marks.items in
    let here = peeked_at m (sight_seen s) (drop a ids) in
    let rest = peeked mems' sights' (drop (a + n) ids) in
    let seen : k ≡ n = c.known_places.ensures in
    let seen-rest = seen-more places sights i c.requires.each less m s c.holds_references-mem.ensures c.index-sights-loc.is in
    let more = peeked-more places sights i c.requires.each less m s c.holds_references-mem.ensures c.index-sights-loc.is ids a in
    let sum = c.loop-loc.invariant.2 in
    let long = c.loop-loc.invariant.0 in
    let total : a + k + length (seen_faces mems' sights') ≡ length ids = omega (arith, seen, seen-rest, sum) in
    let all : marked_by seats rest (marked_by seats here marks) ≡ marked_by seats (peeked (mems_of places) (map sight_seen sights) ids) (replicate (length c.args.shape.now.faces) 0) =
    sym (marked-more seats here rest marks) ∙ ap (λ x. marked_by seats x marks) (sym more) ∙ c.loop-loc.invariant.1 in
    elim c.match-sight.branch [
      | in-Partly w ↦
          let wrote = w.mark.ensures
          ∙ ap₂ (marked_by seats) (partly-here m (sight_seen s) w.in-Partly._numbers.items (drop a ids) a k (ap sight_seen w.in-Partly.is) seen) w.deref_mut.ensures.value in
          let new : c.match-sight.marks.items ≡ marked_by seats here marks =
          ap (λ v. v.items) w.marks-is
          ∙ refilled c.loop-loc.marks.len marks w.mark.new.marks c.loop-loc.marks.ok.0 (ap length wrote ∙ marked-long seats here marks) ∙ wrote in (
            ap length new ∙ marked-long seats here marks ∙ long,
            ap₂ (λ x y. marked_by seats (peeked mems' sights' (drop (a + x) ids)) y) seen new ∙ all,
            total,
          )
      | in_default w ↦
          let same = ap (λ v. v.items) w.marks-is in
          let none = faces-here m (sight_seen s) w.in_default.field-0.items (drop a ids) (ap sight_seen w.in_default.is) in (
            ap length same ∙ long,
            ap₂ (λ x y. marked_by seats (peeked mems' sights' (drop (a + x) ids)) y) seen same ∙ ap (λ x. marked_by seats rest (marked_by seats x marks)) (sym none) ∙ all,
            total,
          )
    ]

pub returns : goal.returns
returns c =
    let test = c.loop-loc-test.false in
    let last = c.locations-loc-end.ensures in
    let i = c.loop-loc.loc in
    let count = length c.args.shape.now.faces in
    let mems = mems_of c.args.shape.now.places in
    let sights = map sight_seen c.args.sights.now in
    let ids = peeked mems sights c.args.seen.now in
    let seats = c.if-seat-lt8.seats in
    let all = length-map c.args.sights.now sight_seen in
    let past : drop i sights ≡ [] = drop_all i sights (omega (arith, test, last, all, c.requires.each)) in
    let done : c.loop-loc.marks.items ≡ marked_by seats ids (replicate count 0) =
    sym (ap (λ xs. marked_by seats (peeked (drop i mems) xs (drop c.loop-loc.from c.args.seen.now)) c.loop-loc.marks.items) past) ∙ c.loop-loc.invariant.1 in
    let one : 0 < length ids → seats_in seats ≡ c.args.seat ∷ [] = elim c.if-seat-lt8.branch [
      | then-seat-lt8 w ↦ λ some. ap seats_in w.seats-is ∙ one-bit c.args.seat w.if-seat-lt8.true
      | else-seat-lt8 w ↦ λ some. let less = c.requires.seat some in let not = w.if-seat-lt8.false in absurd (omega (arith, less, not))
    ] in
    ap (map seats_in) done ∙ are-marks count c.args.seat seats ids one
