use Rattle.std.proofs.Common.{◌∷◌, [], ◌++◌, map, ap, ap₂, sym, ◌∙◌, subst, arith}
use Rattle.std.proofs.lemmas.List.{map-append}
use Rattle.rc_play_spec.specs.Table.{IsSound}
use Rattle.rc_view.specs.Seen.{sight_seen}
use Rattle.rc_view.proofs.SightLemmas.{sights_next}
use Rattle.rc_view.proofs.sight.sights_of.Goals as goal

pub loop-loc-preserved : goal.loop-loc-preserved
loop-loc-preserved c =
    let shape = c.args.shape.now in
    let table = c.args.table.now.table in
    let sound = subst (λ s. IsSound s table) c.requires.laid c.shape-shape.ensures.sound in
    let same = sound.locations in
    let within = c.loop-loc-test.true in
    ap (map sight_seen) c.in_ok-push.ensures.items
    ∙ map-append sight_seen c.loop-loc.sights.items (c.in_ok-sight_of.field-0 ∷ [])
    ∙ ap₂ (λ before last. before ++ last ∷ []) c.loop-loc.invariant c.in_ok-sight_of.ensures
    ∙ sym (sights_next shape table.marks c.args.seat shape.places table.lists c.loop-loc.loc (omega (arith, same, within, c.locations-count.ensures)) same)
