-- What an edit of two lists makes of a table, from which cards of one location go together.
use Rattle.std.proofs.Common.{◌≡◌, ℕ, ◌+◌, ◌<◌, ◌≤◌, Bool, false, List, [], ◌∷◌, length, get_or, set, replicate, reverse, sym, ap, ◌∙◌, subst, arith, length-set, length-append}
use Rattle.std.specs.Prelude.{filter, All}
use Rattle.std.proofs.lemmas.List.{get_or-set_same, length-replicate, length-reverse}
use Rattle.std.proofs.lemmas.List.Elements.{recursion_from_All, All-from_recursion}
use Rattle.std.proofs.lemmas.List.Sums.{length-filter, count_by-le-length}
use Rattle.std.proofs.lemmas.Option.{slice_get_within}
use Rattle.rc_sheet_spec.specs.Sheet.{End, top, bottom}
use Rattle.rc_play_spec.specs.Shape.{Shape}
use Rattle.rc_play_spec.specs.Table.{Table, IsSound, list_at, loc_of, place_of}
use Rattle.rc_play_spec.specs.Bound.{HoldsCards}
use Rattle.rc_play_spec.specs.TableLaws.{PutKeepsSound}
use Rattle.rc_table.specs.Shape.{IsShape}
use Rattle.rc_table.specs.Laid.{rooms}
use Rattle.rc_table.specs.Runs.{put_each, all_added, left_out, run_put, is_free, flagged, AreFresh}
use Rattle.rc_table.specs.Whereabouts.{whereabouts, noted_in}
use Rattle.rc_table.proofs.Held.{few_in_list, list_fits}
use Rattle.rc_table.proofs.WhereaboutLemmas.{stands, all_cards}
use Rattle.rc_table.proofs.WhereaboutEdits.{other_stays, noted_twice}
use Rattle.rc_table.proofs.RunLemmas.{other_than, StandsIn, AllStandIn, AreApart, each_is_run, run_sound, fresh_apart, length-flagged, left_is_free, all_free}

no_longer : (ids list : List ℕ) → length (left_out ids list) ≤ length list
no_longer [] list = omega arith
no_longer (id ∷ ids) list =
    let rest = no_longer ids (filter (other_than id) list) in
    let held = length-filter (other_than id) list in
    let most = count_by-le-length (other_than id) list in
    omega (arith, rest, held, most)

both_long : (end : End) (ids list : List ℕ) → length (all_added end ids list) ≡ length list + length ids
both_long top ids list = length-append list ids
both_long bottom ids list = let long = length-append (reverse ids) list in let same = length-reverse ids in omega (arith, long, same)

module _ (shape : Shape) (table : Table) (sound : IsSound shape table) (from : ℕ) where
  one_stands : (id : ℕ) → id < length shape.faces → loc_of shape table id ≡ from → HoldsCards shape from × StandsIn (list_at table from) id
  one_stands id card is =
      let s = stands shape table sound id card in
      let p = (place_of shape table id).1 in (
        subst (HoldsCards shape) is s.0,
        (p, subst (λ l. p < length (list_at table l)) is s.1, ap (λ l. get_or (list_at table l) p 0) (sym is) ∙ s.2),
      )

  all_stand : (ids : List ℕ) → All (λ id. id < length shape.faces) ids → All (λ id. loc_of shape table id ≡ from) ids → AllStandIn (list_at table from) ids
  all_stand [] cards are = tt
  all_stand (id ∷ ids) cards are =
      let each = recursion_from_All (λ id. id < length shape.faces) (id ∷ ids) cards in
      let each' = recursion_from_All (λ id. loc_of shape table id ≡ from) (id ∷ ids) are in (
        (one_stands id each.0 each'.0).1,
        all_stand ids (All-from_recursion (λ id. id < length shape.faces) ids each.1) (All-from_recursion (λ id. loc_of shape table id ≡ from) ids each'.1),
      )

  first_holds : (ids : List ℕ) → 0 < length ids → All (λ id. id < length shape.faces) ids → All (λ id. loc_of shape table id ≡ from) ids → HoldsCards shape from
  first_holds [] some cards are = absurd (omega (arith, some))
  first_holds (id ∷ ids) some cards are =
      (one_stands id (recursion_from_All (λ id. id < length shape.faces) (id ∷ ids) cards).0
      (recursion_from_All (λ id. loc_of shape table id ≡ from) (id ∷ ids) are).0).0

within_flags : (n most : ℕ) (ids : List ℕ) → n ≤ most → All (λ id. id < n) ids → All (λ id. id < most) ids
within_flags n most [] few all = All-from_recursion (λ id. id < most) [] tt
within_flags n most (id ∷ ids) few all =
    let each = recursion_from_All (λ id. id < n) (id ∷ ids) all in
    let rest = within_flags n most ids few (All-from_recursion (λ id. id < n) ids each.1) in
    let here = each.0 in
    All-from_recursion (λ id. id < most) (id ∷ ids) (omega (arith, here, few), recursion_from_All (λ id. id < most) ids rest)

module _ (keeps : PutKeepsSound) (shape : Shape) (table : Table) (limits : IsShape shape) (sound : IsSound shape table) (end : End) (from loc : ℕ) (ids : List ℕ)
    (some : 0 < length ids) (cards : All (λ id. id < length shape.faces) ids) (holds : HoldsCards shape loc) (are : All (λ id. loc_of shape table id ≡ from) ids)
    (fresh : AreFresh (replicate 512 false) ids) where
  from_holds : HoldsCards shape from
  from_holds = first_holds shape table sound from ids some cards are

  pub from_there : from < length table.lists
  from_there = let within = slice_get_within shape.places from from_holds.0 from_holds.1 in let count = sound.locations in omega (arith, within, count)

  pub loc_there : loc < length table.lists
  loc_there = let within = slice_get_within shape.places loc holds.0 holds.1 in let count = sound.locations in omega (arith, within, count)

  few_flags : All (λ id. id < length (replicate 512 false)) ids
  few_flags = let long = length-replicate 512 false in within_flags (length shape.faces) (length (replicate 512 false)) ids (let few = limits.cards in omega (arith, few, long)) cards

  abbrev final : Table
  final = run_put end from loc ids table

  all_there : AllStandIn (list_at table from) ids
  all_there = all_stand shape table sound from ids cards are

  apart : AreApart ids
  apart = fresh_apart (replicate 512 false) ids few_flags fresh

  pub is_final : put_each shape end loc ids table ≡ final
  is_final = each_is_run keeps shape end from loc from_holds holds ids table sound all_there apart

  pub final_sound : IsSound shape final
  final_sound = run_sound keeps shape end from loc from_holds holds ids table sound all_there apart

  abbrev kept : List ℕ
  kept = left_out ids (list_at table from)

  abbrev out : List (List ℕ)
  out = set table.lists from kept

  pub free_is : (flags : List Bool) → flags ≡ flagged ids (replicate 512 false) → filter (is_free flags) (list_at table from) ≡ kept
  free_is flags is =
      ap (λ flags. filter (is_free flags) (list_at table from)) is
      ∙ sym (left_is_free ids (replicate 512 false) (list_at table from) few_flags) ∙ ap (left_out ids) (all_free 512 (list_at table from))

  pub flags_cover : (flags : List Bool) → flags ≡ flagged ids (replicate 512 false) → All (λ id. id < length flags) (list_at table from)
  flags_cover flags is =
      let long = ap length is ∙ length-flagged ids (replicate 512 false) ∙ length-replicate 512 false in
      within_flags (length shape.faces) (length flags) (list_at table from) (let few = limits.cards in omega (arith, few, long)) (all_cards shape table sound from)

  pub few_there : length (list_at table from) ≤ 512
  few_there = few_in_list shape table sound limits from

  pub kept_fits : length kept ≤ get_or (rooms shape) from 0
  kept_fits =
      let most = list_fits shape table sound limits from (let count = sound.locations in let there = from_there in omega (arith, there, count)) in
      let short = no_longer ids (list_at table from) in
      omega (arith, most, short)

  pub loc_out : loc < length out
  loc_out = let there = loc_there in let long = length-set table.lists from kept in omega (arith, there, long)

  pub joined_is : list_at final loc ≡ all_added end ids (get_or out loc [])
  joined_is = get_or-set_same out loc (all_added end ids (get_or out loc [])) [] loc_out

  pub both_fit : length (get_or out loc []) + length ids ≤ 512
  both_fit =
      let few = few_in_list shape final final_sound limits loc in
      let same = ap length joined_is in
      let long = both_long end ids (get_or out loc []) in
      omega (arith, few, same, long)

  pub joined_fits : length (all_added end ids (get_or out loc [])) ≤ get_or (rooms shape) loc 0
  joined_fits =
      let most = list_fits shape final final_sound limits loc (let count = sound.locations in let there = loc_there in omega (arith, there, count)) in
      let same = ap length joined_is in
      omega (arith, most, same)

  pub run_noted : (lists : List (List ℕ)) (stand stand' : List (ℕ × ℕ)) → lists ≡ final.lists → stand ≡ whereabouts shape table →
      stand' ≡ noted_in shape lists loc 0 (noted_in shape lists from 0 stand) → stand' ≡ whereabouts shape final
  run_noted lists stand stand' are_lists stand_is is =
      is ∙ ap (λ stand. noted_in shape lists loc 0 (noted_in shape lists from 0 stand)) stand_is
      ∙ ap (λ lists. noted_in shape lists loc 0 (noted_in shape lists from 0 (whereabouts shape table))) are_lists
      ∙ noted_twice shape table final sound final_sound from 0 loc 0
      (λ l p cards before before' less.
      let second = other_stays out loc (all_added end ids (get_or out loc [])) l p (λ e. let none = before' e in omega (arith, none)) less in
      let first = other_stays table.lists from kept l p (λ e. let none = before e in omega (arith, none)) second.0 in
      (first.0, first.1 ∙ second.1))
