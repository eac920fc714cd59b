use Rattle.std.proofs.Common.{◌≡◌, ◌+◌, ◌-◌, ◌++◌, ◌∙◌, sym, ap, ap₂, length, map, drop, ◌≤◌, ◌<◌, rules, arith}
use Rattle.std.proofs.lemmas.List.{length-take, length-drop, take_rest, append_assoc}
use Rattle.rc_play_spec.specs.Redraw.{mems_of, faces_at}
use Rattle.rc_view.specs.Seen.{sight_seen}
use Rattle.rc_redraw.specs.Hiding.{pattern_of, patterns}
use Rattle.rc_redraw.proofs.FillSteps.{patterns-more, seen-more}
use Rattle.rc_redraw.proofs.filling.push_patterns.Goals as goal

pub push_places-requires : goal.push_places-requires
push_places-requires c =
    let test = c.loop-loc-test.true in
    let last = c.locations-loc-end.ensures in
    let more = seen-more c.args.shape.now.places c.args.sights.now c.loop-loc.loc c.requires.each (omega (arith, test, last)) _ c.index-sights-loc.result
    c.holds_references-mem.ensures c.index-sights-loc.is in
    let sum = c.loop-loc.invariant.1 in
    let whole = length-drop c.loop-loc.from c.args.seen.now in
    let cut = length-take (length c.args.seen.now - c.loop-loc.from) (drop c.loop-loc.from c.args.seen.now) in
    omega (arith, more, sum, whole, cut)

pub overflow_add-from : goal.overflow_add-from
overflow_add-from c =
    let test = c.loop-loc-test.true in
    let last = c.locations-loc-end.ensures in
    let more = seen-more c.args.shape.now.places c.args.sights.now c.loop-loc.loc c.requires.each (omega (arith, test, last)) _ c.index-sights-loc.result
    c.holds_references-mem.ensures c.index-sights-loc.is in
    let sum = c.loop-loc.invariant.1 in
    let seen = c.known_places-from.ensures in
    let h : c.loop-loc.from + c.known_places-from.result ≤ length c.args.seen.now = omega (arith, more, sum, seen) in
    search (rules, h)

pub loop-loc-preserved : goal.loop-loc-preserved
loop-loc-preserved c =
    let test = c.loop-loc-test.true in
    let last = c.locations-loc-end.ensures in
    let less : c.loop-loc.loc < length c.args.shape.now.places = omega (arith, test, last) in
    let i = c.loop-loc.loc in
    let a = c.loop-loc.from in
    let places = c.args.shape.now.places in
    let sights = c.args.sights.now in
    let m = c.holds_references-mem.result in
    let s = c.index-sights-loc.result in
    let mems' = drop (i + 1) (mems_of places) in
    let sights' = drop (i + 1) (map sight_seen sights) in
    let n = length (faces_at m (sight_seen s)) in
    let before = c.loop-loc.pattern.items in
    let here = pattern_of m (sight_seen s) (drop a c.args.seen.now) in
    let rest = patterns mems' sights' (drop (a + n) c.args.seen.now) in
    let seen : c.known_places-from.result ≡ n = c.known_places-from.ensures in
    let seen-rest = seen-more places sights i c.requires.each less m s c.holds_references-mem.ensures c.index-sights-loc.is in
    let sum = c.loop-loc.invariant.1 in (
      ap₂ ◌++◌ (c.in_ok-push_places.ensures ∙ ap (λ x. before ++ pattern_of m (sight_seen s) x) (take_rest c.args.seen.now a))
          (ap (λ x. patterns mems' sights' (drop (a + x) c.args.seen.now)) seen)
          ∙ append_assoc before here rest
          ∙ ap (λ x. before ++ x) (sym (patterns-more places sights i c.requires.each less m s c.holds_references-mem.ensures c.index-sights-loc.is c.args.seen.now a))
          ∙ c.loop-loc.invariant.0,
      omega (arith, seen, seen-rest, sum),
    )
