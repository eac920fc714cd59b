use Rattle.std.proofs.Common.{◌+◌, ◌++◌, ◌∙◌, sym, ap, map, drop, append_assoc, arith}
use Rattle.rc_play_spec.specs.Redraw.{mems_of, faces_at, seen_faces}
use Rattle.rc_view.specs.Seen.{sight_seen}
use Rattle.rc_redraw.proofs.FillSteps.{faces-more}
use Rattle.rc_redraw.proofs.seen.list_faces.Goals as goal

pub loop-loc-preserved : goal.loop-loc-preserved
loop-loc-preserved c =
    let test = c.loop-loc-test.true in
    let last = c.locations-loc-end.ensures in
    let loc = c.loop-loc.loc in
    let old = c.loop-loc.faces.items in
    let places = c.args.shape.now.places in
    let sights = c.args.sights.now in
    let rest = seen_faces (drop (loc + 1) (mems_of places)) (drop (loc + 1) (map sight_seen sights)) in
    let here = faces_at c.holds_references-mem.result (sight_seen c.index-sights-loc.result) in
    let more = faces-more places sights loc c.requires (omega (arith, test, last)) c.holds_references-mem.result c.index-sights-loc.result
    c.holds_references-mem.ensures c.index-sights-loc.is in
    ap (λ xs. xs ++ rest) c.in_ok-push_faces.ensures
    ∙ append_assoc old here rest ∙ ap (λ xs. old ++ xs) (sym more) ∙ c.loop-loc.invariant
