use Rattle.std.proofs.Common.{◌≡◌, ◌+◌, ◌-◌, ◌∷◌, ◌++◌, [], ◌∙◌, sym, ap, ap₂, length, map, take, drop, set, ◌≤◌, ◌<◌, rules, arith}
use Rattle.std.proofs.lemmas.List.{length-take, length-drop, length-map, length-set, map-set, take_more_set, take_rest, append_assoc}
use Rattle.rc_play_spec.specs.Redraw.{mems_of, faces_at, hidden_at, ids_at, filled}
use Rattle.rc_view.specs.Seen.{sight_seen}
use Rattle.rc_redraw.proofs.FillSteps.{filled-more, seen-more, hidden-more}
use Rattle.rc_redraw.proofs.filling.fill_lists.Goals as goal

pub fill_list-requires-clause-seen : goal.fill_list-requires-clause-seen
fill_list-requires-clause-seen c =
    let test = c.loop-loc-test.true in
    let last = c.locations-loc-end.ensures in
    let more = seen-more c.args.shape.now.places c.args.sights.now c.loop-loc.loc c.requires.each (omega (arith, test, last)) _ c.index-sights-loc.result
    c.holds_references-mem.ensures c.index-sights-loc.is in
    let sum = c.loop-loc.invariant.1 in
    let whole = length-drop c.loop-loc.seen_from c.args.seen.now in
    let cut = length-take (length c.args.seen.now - c.loop-loc.seen_from) (drop c.loop-loc.seen_from c.args.seen.now) in
    omega (arith, more, sum, whole, cut)

pub fill_list-requires-clause-hidden : goal.fill_list-requires-clause-hidden
fill_list-requires-clause-hidden c =
    let test = c.loop-loc-test.true in
    let last = c.locations-loc-end.ensures in
    let more = hidden-more c.args.shape.now.places c.args.sights.now c.loop-loc.loc c.requires.each (omega (arith, test, last)) _ c.index-sights-loc.result
    c.holds_references-mem.ensures c.index-sights-loc.is in
    let sum = c.loop-loc.invariant.2 in
    let whole = length-drop c.loop-loc.hidden_from c.args.hidden.now in
    let cut = length-take (length c.args.hidden.now - c.loop-loc.hidden_from) (drop c.loop-loc.hidden_from c.args.hidden.now) in
    omega (arith, more, sum, whole, cut)

pub overflow_add-hidden_from : goal.overflow_add-hidden_from
overflow_add-hidden_from c =
    let test = c.loop-loc-test.true in
    let last = c.locations-loc-end.ensures in
    let more = hidden-more c.args.shape.now.places c.args.sights.now c.loop-loc.loc c.requires.each (omega (arith, test, last)) _ c.index-sights-loc.result
    c.holds_references-mem.ensures c.index-sights-loc.is in
    let sum = c.loop-loc.invariant.2 in
    let hidden = c.hidden_places-hidden_from.ensures in
    let h : c.loop-loc.hidden_from + c.hidden_places-hidden_from.result ≤ length c.args.hidden.now = omega (arith, more, sum, hidden) in
    search (rules, h)

pub overflow_add-seen_from : goal.overflow_add-seen_from
overflow_add-seen_from c =
    let test = c.loop-loc-test.true in
    let last = c.locations-loc-end.ensures in
    let more = seen-more c.args.shape.now.places c.args.sights.now c.loop-loc.loc c.requires.each (omega (arith, test, last)) _ c.index-sights-loc.result
    c.holds_references-mem.ensures c.index-sights-loc.is in
    let sum = c.loop-loc.invariant.1 in
    let seen = c.known_places-seen_from.ensures in
    let h : c.loop-loc.seen_from + c.known_places-seen_from.result ≤ length c.args.seen.now = omega (arith, more, sum, seen) in
    search (rules, h)

pub loop-loc-preserved : goal.loop-loc-preserved
loop-loc-preserved c =
    let test = c.loop-loc-test.true in
    let last = c.locations-loc-end.ensures in
    let less : c.loop-loc.loc < length c.args.shape.now.places = omega (arith, test, last) in
    let i = c.loop-loc.loc in
    let a = c.loop-loc.seen_from in
    let b = c.loop-loc.hidden_from in
    let places = c.args.shape.now.places in
    let m = c.holds_references-mem.result in
    let s = c.index-sights-loc.result in
    let m-is = c.holds_references-mem.ensures in
    let s-is = c.index-sights-loc.is in
    let each = c.requires.each in
    let lists = c.loop-loc.lists.items in
    let old = map (λ list. list.items) lists in
    let before = take i old in
    let wrote = c.fill_list.new.list in
    let mems' = drop (i + 1) (mems_of places) in
    let sights' = drop (i + 1) (map sight_seen c.args.sights.now) in
    let n = length (faces_at m (sight_seen s)) in
    let k = hidden_at m (sight_seen s) in
    let here = ids_at m (sight_seen s) (drop a c.args.seen.now) (drop b c.args.hidden.now) in
    let rest = filled mems' sights' (drop (a + n) c.args.seen.now) (drop (b + k) c.args.hidden.now) in
    let seen : c.known_places-seen_from.result ≡ n = c.known_places-seen_from.ensures in
    let hidden : c.hidden_places-hidden_from.result ≡ k = c.hidden_places-hidden_from.ensures in
    let seen-rest = seen-more places c.args.sights.now i each less m s m-is s-is in
    let hidden-rest = hidden-more places c.args.sights.now i each less m s m-is s-is in
    let seen-sum = c.loop-loc.invariant.1 in
    let hidden-sum = c.loop-loc.invariant.2 in
    let count = c.loop-loc.invariant.3 in
    let long = length-map lists (λ list. list.items) in
    let list : wrote.items ≡ here =
    c.in_ok-fill_list.ensures ∙ ap₂ (λ x y. ids_at m (sight_seen s) x y) (take_rest c.args.seen.now a) (take_rest c.args.hidden.now b) in
    let more : take (i + 1) (map (λ list. list.items) (set lists i wrote)) ≡ before ++ here ∷ [] =
    ap (take (i + 1)) (map-set (λ list. list.items) lists i wrote)
    ∙ take_more_set old i wrote.items (omega (arith, less, count, long))
    ∙ ap (λ x. before ++ x ∷ []) list in (
      ap₂ ◌++◌ more
          (ap₂ (λ x y. filled mems' sights' (drop (a + x) c.args.seen.now) (drop (b + y) c.args.hidden.now)) seen hidden)
          ∙ append_assoc before (here ∷ []) rest
          ∙ ap (λ x. before ++ x)
          (sym (filled-more places c.args.sights.now i each less m s m-is s-is c.args.seen.now c.args.hidden.now a b))
          ∙ c.loop-loc.invariant.0,
      omega (arith, seen, seen-rest, seen-sum),
      omega (arith, hidden, hidden-rest, hidden-sum),
      length-set lists i wrote ∙ count,
    )
