use Rattle.std.proofs.Common.{◌≡◌, ◌<◌, [], ◌∷◌, length, ap, ◌∙◌, sym, subst}
use Rattle.std.proofs.lemmas.Option.{slice_get_within}
use Rattle.rc_play_spec.specs.Bound.{HoldsCards}
use Rattle.rc_play_spec.specs.Table.{Table, IsSound, set_marks, place_of, put_bottom}
use Rattle.rc_play_spec.proofs.SoundLemmas.{cleared_sound}
use Rattle.rc_table.specs.Laid.{Laid, relaid}
use Rattle.rc_table.specs.Restored.{moved_between}
use Rattle.rc_table.proofs.PutBack.{put_bottom_is}
use Rattle.rc_table.proofs.table.Table.put_bottom.Goals as goal

pub move_between-requires-clause-to : goal.move_between-requires-clause-to
move_between-requires-clause-to c =
    let holds = subst (λ (laid : Laid). HoldsCards laid.shape c.args.loc) (sym c.self.view_is) c.requires.loc in
    slice_get_within c.self.inside.shape.value.places c.args.loc holds.0 holds.1

pub invariant_of-self : goal.invariant_of-self
invariant_of-self c =
    let table : Table = record { lists = c.self.inside.lists.all; numbers = c.self.inside.numbers.items; marks = c.self.inside.marks } in
    rw c.clear.ensures
    (record {
      limits = c.self.invariant.limits;
      sound = cleared_sound c.self.inside.shape.value table (c.args.id ∷ []) c.self.invariant.sound;
      fits = c.self.invariant.fits;
      noted = c.self.invariant.noted;
    })

pub move_between-requires-clause-sound : goal.move_between-requires-clause-sound
move_between-requires-clause-sound c =
    let id = c.args.id in
    let loc = c.args.loc in
    let shape = c.self.inside.shape.value in
    let table : Table = record { lists = c.self.inside.lists.all; numbers = c.self.inside.numbers.items; marks = c.self.inside.marks } in
    let card = subst (λ (laid : Laid). id < length laid.shape.faces) (sym c.self.view_is) c.requires.card in
    let holds = subst (λ (laid : Laid). HoldsCards laid.shape loc) (sym c.self.view_is) c.requires.loc in
    let here = subst (λ (laid : Laid). c.place_of-from.result ≡ place_of laid.shape laid.table id) (sym c.self.view_is) c.place_of-from.ensures.place in
    let sound = c.self.invariant.sound in
    let quiet = cleared_sound shape table (id ∷ []) sound in
    let is = put_bottom_is shape (set_marks id [] table) quiet id card c.place_of-from.result loc here in
    let put = (c.edits_keep_tables_sound.ensures.put shape table id loc sound card holds).1 in
    rw c.clear.ensures (subst (IsSound shape) (sym is) put)

pub returns : goal.returns
returns c =
    let id = c.args.id in
    let loc = c.args.loc in
    let shape = c.self.inside.shape.value in
    let table : Table = record { lists = c.self.inside.lists.all; numbers = c.self.inside.numbers.items; marks = c.self.inside.marks } in
    let card = subst (λ (laid : Laid). id < length laid.shape.faces) (sym c.self.view_is) c.requires.card in
    let here = subst (λ (laid : Laid). c.place_of-from.result ≡ place_of laid.shape laid.table id) (sym c.self.view_is) c.place_of-from.ensures.place in
    let quiet = cleared_sound shape table (id ∷ []) c.self.invariant.sound in
    let is = put_bottom_is shape (set_marks id [] table) quiet id card c.place_of-from.result loc here in
    let laid : Laid = record { shape = shape; table = table } in
    c.move_between.ensures
    ∙ ap (λ marks. relaid laid (moved_between c.place_of-from.result.0 c.place_of-from.result.1 loc 0
    (record { lists = c.self.inside.lists.all; numbers = c.self.inside.numbers.items; marks = marks }))) c.clear.ensures
    ∙ ap (relaid laid) is
    ∙ ap (λ (laid : Laid). relaid laid (put_bottom laid.shape id loc laid.table)) c.self.view_is
