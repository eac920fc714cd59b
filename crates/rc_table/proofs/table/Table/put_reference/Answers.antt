use Rattle.std.proofs.Common.{length, min, sym, ap, arith, subst, ◌∙◌, slice_index_or, []}
use Rattle.std.specs.List.{insert}
use Rattle.std.proofs.lemmas.Option.{slice_get_within}
use Rattle.rc_play_spec.specs.Bound.{HoldsReferences}
use Rattle.rc_play_spec.specs.Table.{IsSound}
use Rattle.rc_table.specs.Laid.{Laid}
use Rattle.rc_table.specs.Restored.{put_at}
use Rattle.rc_table.proofs.Held.{one_more_fits}
use Rattle.rc_table.proofs.WhereaboutEdits.{references_noted}
use Rattle.rc_table.proofs.PutBack.{insert_min}
use Rattle.rc_table.proofs.table.Table.put_reference.Goals as goal

pub put_in-requires-clause-room : goal.put_in-requires-clause-room
put_in-requires-clause-room c =
    let mem = subst (λ (laid : Laid). HoldsReferences laid.shape c.args.loc) (sym c.self.view_is) c.requires.mem in
    let sound = subst (λ (laid : Laid). IsSound laid.shape (put_at c.args.id c.args.loc c.args.place laid.table)) (sym c.self.view_is) c.requires.sound in
    let within = slice_get_within _ c.args.loc mem.0 mem.1 in
    let less = one_more_fits _ _ c.args.id c.args.loc c.args.place c.self.invariant.limits (omega (arith, within, c.self.invariant.sound.locations)) sound in
    let room = ap (λ room. slice_index_or room c.args.loc 0) c.self.invariant.fits in
    omega (arith, less, room)

pub invariant_of-self : goal.invariant_of-self
invariant_of-self c =
    let id = c.args.id in
    let loc = c.args.loc in
    let place = c.args.place in
    let sound = subst (λ (laid : Laid). IsSound laid.shape (put_at id loc place laid.table)) (sym c.self.view_is) c.requires.sound in
    let list = slice_index_or c.self.inside.lists.all loc [] in
    let topmost = c.min-place.ensures ∙ ap (λ list. min place (length list)) c.list.ensures in
    let clamped = ap (λ n. insert list n id) topmost ∙ insert_min list place id in
    let mem = subst (λ (laid : Laid). HoldsReferences laid.shape loc) (sym c.self.view_is) c.requires.mem in
    rw (c.put_in.ensures, clamped)
    (record {
      limits = c.self.invariant.limits;
      sound = sound;
      fits = c.self.invariant.fits;
      noted = c.self.invariant.noted ∙ references_noted _ _ c.self.invariant.sound loc _ mem sound;
    })
