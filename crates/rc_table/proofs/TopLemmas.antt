-- A card that goes on top of a location.
use Rattle.std.proofs.Common.{◌≡◌, ℕ, ◌<◌, min, List, [], ◌∷◌, ◌++◌, length, get_or, set, remove, drop, sym, ap, ◌∙◌, subst, arith, length-set}
use Rattle.std.proofs.lemmas.Bool.{cond-false}
use Rattle.std.proofs.lemmas.List.{get_or-set_same}
use Rattle.std.proofs.Math.Seq.{drop-append_seam}
use Rattle.std.proofs.lemmas.Option.{slice_get_within}
use Rattle.rc_play_spec.specs.Shape.{Shape}
use Rattle.rc_play_spec.specs.Table.{Table, IsSound, list_at, place_of, set_marks, without, onto, put_top}
use Rattle.rc_play_spec.specs.Bound.{HoldsCards}
use Rattle.rc_play_spec.proofs.SoundLemmas.{cleared_sound}
use Rattle.rc_table.specs.Shape.{IsShape}
use Rattle.rc_table.specs.Laid.{rooms}
use Rattle.rc_table.specs.Restored.{taken_at}
use Rattle.rc_table.specs.Rows.{Lists}
use Rattle.rc_table.specs.Whereabouts.{whereabouts, noted, noted_in}
use Rattle.rc_table.proofs.Held.{one_more_fits}
use Rattle.rc_table.proofs.PutBack.{no_longer, onto_is, put_top_is}
use Rattle.rc_table.proofs.WhereaboutLemmas.{no_references, stands}
use Rattle.rc_table.proofs.WhereaboutEdits.{moved_noted}

-- where it is the last one from a place on, it alone is noted
pub top_noted : (shape : Shape) (lists : List (List ℕ)) (loc place id : ℕ) (stand : List (ℕ × ℕ)) → HoldsCards shape loc →
    drop place (get_or lists loc []) ≡ id ∷ [] → noted_in shape lists loc place stand ≡ set stand id (loc, place)
top_noted shape lists loc place id stand holds last =
    cond-false _ _ _ (no_references shape loc holds) ∙ ap (λ ids. noted loc place ids stand) last

module _ (shape : Shape) (table : Table) (limits : IsShape shape) (sound : IsSound shape table) (id : ℕ) (card : id < length shape.faces) (loc : ℕ)
    (holds : HoldsCards shape loc) (from place : ℕ) (is : (from, place) ≡ place_of shape table id) (after : IsSound shape (put_top shape id loc table)) where
  -- the table without the card's marks
  abbrev quiet : Table
  quiet = set_marks id [] table

  quiet_sound : IsSound shape quiet
  quiet_sound = cleared_sound shape table (id ∷ []) sound

  abbrev out : Table
  out = taken_at from place quiet

  out_is : out ≡ without shape id quiet
  out_is = ap (λ (at : ℕ × ℕ). taken_at at.0 at.1 quiet) is

  pub from_within : (from < length table.lists) × (place < length (list_at table from))
  from_within =
      let s = stands shape table sound id card in
      let there = subst (λ (at : ℕ × ℕ). HoldsCards shape at.0 × (at.1 < length (list_at table at.0))) (sym is) (s.0, s.1) in
      let within = slice_get_within shape.places from there.0.0 there.0.1 in
      let count = sound.locations in
      (omega (arith, within, count), there.1)

  pub to_within : loc < length shape.places
  to_within = slice_get_within shape.places loc holds.0 holds.1

  pub to_within_out : loc < length out.lists
  to_within_out = let long = length-set table.lists from (remove (list_at table from) place) in let count = sound.locations in omega (arith, to_within, long, count)

  pub room_on_top : length (list_at out loc) < get_or (rooms shape) loc 0
  room_on_top =
      let top = length (list_at out loc) in
      one_more_fits shape out id loc top limits to_within_out
      (subst (IsSound shape) (sym (onto_is out id loc top (omega arith) ∙ ap (onto id loc) out_is)) after)

  module _ (room : List ℕ) (top : ℕ) (taken put : Lists) (taken_is : taken ≡ record { all = out.lists; room = room })
      (put_is : put ≡ record { all = set taken.all loc (get_or taken.all loc [] ++ id ∷ []); room = taken.room }) (top_is : top ≡ length (get_or taken.all loc [])) where
    taken_all : taken.all ≡ out.lists
    taken_all = ap (λ (lists : Lists). lists.all) taken_is

    pub put_lists : put.all ≡ (put_top shape id loc table).lists
    put_lists =
        ap (λ (lists : Lists). lists.all) put_is
        ∙ ap (λ all. set all loc (get_or all loc [] ++ id ∷ [])) taken_all
        ∙ ap (λ out. (onto id loc out).lists) out_is

    pub put_room : put.room ≡ room
    put_room = ap (λ (lists : Lists). lists.room) put_is ∙ ap (λ (lists : Lists). lists.room) taken_is

    -- the id is the last one there
    pub put_last : drop top (get_or put.all loc []) ≡ id ∷ []
    put_last =
        let list = get_or taken.all loc [] in
        let within : loc < length taken.all = subst (λ lists. loc < length lists) (sym taken_all) to_within_out in
        ap (λ (lists : Lists). drop top (get_or lists.all loc [])) put_is
        ∙ ap (drop top) (get_or-set_same taken.all loc (list ++ id ∷ []) [] within)
        ∙ ap (λ n. drop n (list ++ id ∷ [])) top_is
        ∙ drop-append_seam list (id ∷ [])

    pub put_noted : (stand stand' : List (ℕ × ℕ)) → stand ≡ whereabouts shape table →
        stand' ≡ noted_in shape put.all loc top (noted_in shape put.all from place stand) → stand' ≡ whereabouts shape (put_top shape id loc table)
    put_noted stand stand' stand_is noted_is =
        let most = length (list_at table loc) in
        let same = put_top_is shape quiet quiet_sound id card (from, place) loc most is (omega arith) in
        let less = no_longer table.lists from place loc from_within.1 in
        let long = ap (λ lists. length (get_or lists loc [])) taken_all in
        moved_noted shape quiet quiet_sound from place loc most top put.all stand stand' (subst (IsSound shape) (sym same) after) from_within.1 to_within
        (let least : top ≡ min most (length (list_at out loc)) = omega (arith, top_is, long, less) in least)
        (put_lists ∙ ap (λ (table : Table). table.lists) (sym same)) stand_is noted_is
        ∙ ap (whereabouts shape) same
