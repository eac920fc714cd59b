use Rattle.std.proofs.Common.{◌+◌, ◌++◌, ◌∷◌, [], if◌then◌else◌, drop, map, sym, ap, ◌∙◌, arith, append_assoc}
use Rattle.std.proofs.lemmas.Bool.{le-ltb}
use Rattle.std.proofs.lemmas.Bool.Decides.{Decides-ltb}
use Rattle.rc_play_spec.specs.Redraw.{mems_of, hidden_at}
use Rattle.rc_view.specs.Seen.{sight_seen}
use Rattle.rc_redraw.specs.Hiding.{hiding_from}
use Rattle.rc_redraw.proofs.FillSteps.{hiding-more}
use Rattle.rc_redraw.proofs.filling.list_hiding.Goals as goal
use Rattle.rc_redraw.proofs.filling.list_hiding.Goals.{then-hidden_places-gt0+in_ok-push, else-hidden_places-gt0}

pub loop-loc-preserved : goal.loop-loc-preserved
loop-loc-preserved c =
    let shape = c.args.shape.now in
    let sights = c.args.sights.now in
    let loc = c.loop-loc.loc in
    let test = c.loop-loc-test.true in
    let last = c.locations-loc-end.ensures in
    let locs = c.loop-loc.locs.items in
    let rest = hiding_from (loc + 1) (drop (loc + 1) (mems_of shape.places)) (drop (loc + 1) (map sight_seen sights)) in
    let m = c.holds_references-mem.result in
    let s = sight_seen c.index-sights-loc.result in
    let more = hiding-more shape.places sights loc c.requires (omega (arith, test, last)) c.holds_references-mem.result c.index-sights-loc.result
    c.holds_references-mem.ensures c.index-sights-loc.is loc in
    let many = c.hidden_places.ensures in
    elim c.if-hidden_places-gt0.branch [
      | then-hidden_places-gt0+in_ok-push w ↦
          let some = (Decides-ltb 0 (hidden_at m s)).1 (omega (arith, w.if-hidden_places-gt0.true, many)) in
          ap (λ xs. xs ++ rest) (ap (λ v. v.items) w.locs-is ∙ w.in_ok-push.ensures.items) ∙ append_assoc locs (loc ∷ []) rest
          ∙ ap (λ xs. locs ++ xs) (sym (more ∙ ap (λ b. (if b then loc ∷ [] else []) ++ rest) some)) ∙ c.loop-loc.invariant
      | else-hidden_places-gt0 w ↦
          let none = le-ltb 0 (hidden_at m s) (omega (arith, w.if-hidden_places-gt0.false, many)) in
          ap (λ xs. xs ++ rest) (ap (λ v. v.items) w.locs-is)
          ∙ ap (λ xs. locs ++ xs) (sym (more ∙ ap (λ b. (if b then loc ∷ [] else []) ++ rest) none)) ∙ c.loop-loc.invariant
    ]
