-- Each edit keeps a table sound.
use Rattle.std.proofs.Common.{◌≡◌, ℕ, suc, ◌+◌, ◌<◌, ◌≤◌, nat_lt, ◌==◌, Bool, true, false, cond, if◌then◌else◌, List, [], ◌∷◌, ◌++◌, length, map, slice_get, slice_index, slice_set, get_or, remove, reverse, sum_by, zip, ℤ, Some, refl, sym, ap, ◌∙◌, subst, arith, length-set, length-append, true≢false}
use Rattle.std.specs.Prelude.{All}
use Rattle.std.specs.List.Sorted.{IsPermutation}
use Rattle.rc_base.specs.Numbers.{below}
use Rattle.std.proofs.lemmas.Bool.{cond-true, cond-false, ltb-true}
use Rattle.std.proofs.lemmas.List.Elements.{All-set, All-append, All-cons, All-push, All-get_or, All-take, All-drop, All-head, All-tail}
use Rattle.std.proofs.lemmas.List.{length-reverse}
use Rattle.std.proofs.lemmas.List.Sums.{sum_by_push, sum_by-cons}
use Rattle.std.proofs.lemmas.List.Sorted.{All-permutation, IsPermutation-reverse, IsPermutation-map, length_permutation, sum_by-IsPermutation}
use Rattle.std.proofs.lemmas.List.FromFn.{fill_by_all}
use Rattle.std.proofs.lemmas.Option.{slice_get_within, get_or_from_slice_get}
use Rattle.rc_base.specs.Clamp.{IsWithinClamp}
use Rattle.rc_base.specs.Limits.{most_in_mem, most_references}
use Rattle.rc_sheet_spec.specs.WellFormed.{is_mem}
use Rattle.rc_play_spec.specs.Shape.{Place, Shape, face_eq, face_at}
use Rattle.rc_play_spec.specs.Table.{Table, list_at, times_in, references_in, references, IsSound, AreSeats, HidesMarked, marks_of, set_marks, cleared, loc_of, place_of, with_list, without, put_top, put_bottom, has_room, onto, under, remember_top, remember_bottom, without_face, forget_in, set_number, taken, reorder}
use Rattle.rc_play_spec.proofs.Faces.{both_true}
use Rattle.rc_play_spec.proofs.TableLemmas.{zip-set, zip-get, length-zip, get_or-any, sum-set, hit, moved_keeps}
use Rattle.rc_play_spec.proofs.FoundLemmas.{found, index_found}
use Rattle.rc_play_spec.proofs.MarkLemmas.{Fewer, Hides, no_seats, set_fewer, set_none, cleared_fewer, cleared_length, cleared_seats, hides_fewer, all_hide_fewer, hides_at, none_hides}

-- the items of a list by their places
pub by_places : (list : List ℕ) → list ≡ map (slice_index list) (below (length list))
by_places list = fill_by_all (slice_index list) list (length list) 0 refl (λ k less. refl)

pub taken_permutes : (list order : List ℕ) → IsPermutation (below (length list)) order → IsPermutation list (taken order list)
taken_permutes list order permutes =
    subst (λ xs. IsPermutation xs (taken order list)) (sym (by_places list)) (IsPermutation-map (slice_index list) (below (length list)) order permutes)

module _ (shape : Shape) where
  abbrev IsCard : ℕ → Type 0
  IsCard id = id < length shape.faces

  abbrev IsShort : Place × List ℕ → Type 0
  IsShort at = references_in at ≤ most_in_mem

  place_is : (loc : ℕ) (p : Place) → slice_get shape.places loc ≡ Some p → p ≡ get_or shape.places loc p
  place_is loc p is = sym (get_or_from_slice_get shape.places loc p p is)

  old_ids : (table : Table) (loc : ℕ) → IsSound shape table → loc < length table.lists → All IsCard (list_at table loc)
  old_ids table loc sound within = All-get_or (All IsCard) table.lists loc [] within sound.ids

  -- another list in a location, in which each card counts as before, and fewer marks
  list_sound : (table : Table) (loc : ℕ) (p : Place) (new : List ℕ) (marks : List (List ℕ)) → IsSound shape table → slice_get shape.places loc ≡ Some p →
      All IsCard new → ((id : ℕ) → times_in id (p, new) ≡ times_in id (p, list_at table loc)) → IsShort (p, new) →
      references shape (with_list table loc new) ≤ most_references → length marks ≡ length table.marks → All (AreSeats shape.players) marks →
      Fewer table.marks marks → HidesMarked shape marks (p, new) →
      IsSound shape (record { lists = slice_set table.lists loc new; numbers = table.numbers; marks = marks })
  list_sound table loc p new marks sound is cards same short together long seats fewer hides =
      let within = slice_get_within shape.places loc p is in
      let count = sound.locations in
      let within' : loc < length table.lists = omega arith in
      let at = place_is loc p is in
      record {
        locations = length-set table.lists loc new ∙ sound.locations;
        amounts = sound.amounts;
        ids = All-set (All IsCard) table.lists loc new cards sound.ids;
        once = λ id card.
            let sum = sum-set (times_in id) shape.places table.lists loc p (list_at table loc) new within within' at (get_or-any table.lists loc [] within') in
            let one = sound.once id card in
            let equal = same id in
            omega arith;
        mems = subst (All IsShort) (sym (zip-set shape.places table.lists loc p new within at))
            (All-set IsShort (zip shape.places table.lists) loc (p, new) short sound.mems);
        together = together;
        clamped = sound.clamped;
        marked = long ∙ sound.marked;
        seats = seats;
        hidden = subst (All (HidesMarked shape marks)) (sym (zip-set shape.places table.lists loc p new within at))
            (All-set (HidesMarked shape marks) (zip shape.places table.lists) loc (p, new) hides
            (all_hide_fewer shape table.marks marks fewer (zip shape.places table.lists) sound.hidden));
      }

  -- a card taken out of its place and added to a location of cards
  moved_sound : (table : Table) (id loc : ℕ) (q : Place) (add : List ℕ → List ℕ) → IsSound shape table → IsCard id → slice_get shape.places loc ≡ Some q →
      is_mem q.kind ≡ false → ((f : ℕ → ℕ) (xs : List ℕ) → sum_by f (add xs) ≡ sum_by f xs + f id) → ((P : ℕ → Type 0) (xs : List ℕ) → All P xs → P id → All P (add xs)) →
      IsSound shape (set_marks id [] (with_list (without shape id table) loc (add (list_at (without shape id table) loc))))
  moved_sound table id loc q add sound card is2 held2 adds added =
      let one = sound.once id card in
      let f = found id shape.places table.lists (omega arith) in
      let from = loc_of shape table id in
      let p = f.0 in
      let within : from < length shape.places = f.1 in
      let within' : from < length table.lists = f.2 in
      let is : p ≡ get_or shape.places from p = f.3 in
      let held = f.4 in
      let index = index_found id (get_or table.lists from []) f.5 in
      let at = (place_of shape table id).1 in
      let old = get_or table.lists from [] in
      let lists1 = slice_set table.lists from (remove old at) in
      let old2 = get_or lists1 loc [] in
      let within2 = slice_get_within shape.places loc q is2 in
      let at2 = place_is loc q is2 in
      let count = sound.locations in
      let within2' : loc < length table.lists = omega arith in
      let longer : loc < length lists1 = subst (λ k. loc < k) (sym (length-set table.lists from (remove old at))) within2' in
      let ids1 : All (All IsCard) lists1 = All-set (All IsCard) table.lists from (remove old at) (All-append IsCard _ _ (All-take IsCard at old (old_ids table from sound within')) (All-drop IsCard (suc at) old (old_ids table from sound within'))) sound.ids in
      let none : (xs : List ℕ) → references_in (p, xs) ≡ 0 = λ xs. cond-false (is_mem p.kind) (length xs) 0 held in
      let none2 : (xs : List ℕ) → references_in (q, xs) ≡ 0 = λ xs. cond-false (is_mem q.kind) (length xs) 0 held2 in
      let short1 : All IsShort (zip shape.places lists1) =
      subst (All IsShort) (sym (zip-set shape.places table.lists from p (remove old at) within is))
      (All-set IsShort (zip shape.places table.lists) from (p, remove old at) (let h = none (remove old at) in omega arith) sound.mems) in
      let sum1 = sum-set references_in shape.places table.lists from p old (remove old at) within within' is (get_or-any table.lists from [] within') in
      let sum2 = sum-set references_in shape.places lists1 loc q old2 (add old2) within2 longer at2 (get_or-any lists1 loc [] longer) in
      let a = none old in
      let b = none (remove old at) in
      let c = none2 old2 in
      let d = none2 (add old2) in
      let before = sound.together in
      let marks = slice_set table.marks id [] in
      let hidden0 = all_hide_fewer shape table.marks marks (set_fewer table.marks id) (zip shape.places table.lists) sound.hidden in
      let hidden1 : All (HidesMarked shape marks) (zip shape.places lists1) =
      subst (All (HidesMarked shape marks)) (sym (zip-set shape.places table.lists from p (remove old at) within is))
      (All-set (HidesMarked shape marks) (zip shape.places table.lists) from (p, remove old at)
      (λ free. let hides = hides_at shape marks table.lists from p hidden0 within within' is free in
      All-append (Hides shape marks p) _ _ (All-take (Hides shape marks p) at old hides) (All-drop (Hides shape marks p) (suc at) old hides)) hidden0) in
      record {
        locations = length-set lists1 loc (add old2) ∙ length-set table.lists from (remove old at) ∙ sound.locations;
        amounts = sound.amounts;
        ids = All-set (All IsCard) lists1 loc (add old2) (added IsCard old2 (All-get_or (All IsCard) lists1 loc [] longer ids1) card) ids1;
        once = λ other is-card.
            moved_keeps id other add (adds (hit other)) shape.places table.lists from at loc p q within within' is held index.0 index.1 within2 within2' at2 held2
            ∙ sound.once other is-card;
        mems = subst (All IsShort) (sym (zip-set shape.places lists1 loc q (add old2) within2 at2))
            (All-set IsShort (zip shape.places lists1) loc (q, add old2) (omega arith) short1);
        together = omega arith;
        clamped = sound.clamped;
        marked = length-set table.marks id [] ∙ sound.marked;
        seats = All-set (AreSeats shape.players) table.marks id [] (no_seats shape.players) sound.seats;
        hidden = subst (All (HidesMarked shape marks)) (sym (zip-set shape.places lists1 loc q (add old2) within2 at2))
            (All-set (HidesMarked shape marks) (zip shape.places lists1) loc (q, add old2)
            (λ free. added (Hides shape marks q) old2 (hides_at shape marks lists1 loc q hidden1 within2 longer at2 free)
            (none_hides shape marks q id (set_none table.marks id))) hidden1);
      }

  pub put_top_sound : (table : Table) (id loc : ℕ) (q : Place) → IsSound shape table → IsCard id → slice_get shape.places loc ≡ Some q → is_mem q.kind ≡ false →
      IsSound shape (put_top shape id loc table)
  put_top_sound table id loc q sound card is held =
      moved_sound table id loc q (λ xs. xs ++ id ∷ []) sound card is held (λ f xs. sum_by_push f xs id) (λ P xs all is'. All-push P xs id all is')

  pub put_bottom_sound : (table : Table) (id loc : ℕ) (q : Place) → IsSound shape table → IsCard id → slice_get shape.places loc ≡ Some q → is_mem q.kind ≡ false →
      IsSound shape (put_bottom shape id loc table)
  put_bottom_sound table id loc q sound card is held =
      moved_sound table id loc q (λ xs. id ∷ xs) sound card is held (λ f xs. let h = sum_by-cons f id xs in omega arith) (λ P xs all is'. All-cons P id xs is' all)

  -- references count for no card
  mem_counts : (p : Place) → is_mem p.kind ≡ true → (id : ℕ) (xs ys : List ℕ) → times_in id (p, xs) ≡ times_in id (p, ys)
  mem_counts p mem id xs ys = cond-true (is_mem p.kind) 0 _ mem ∙ sym (cond-true (is_mem p.kind) 0 _ mem)

  -- another list of references
  noted_sound : (table : Table) (loc : ℕ) (p : Place) (new : List ℕ) → IsSound shape table → slice_get shape.places loc ≡ Some p → is_mem p.kind ≡ true → All IsCard new →
      length new ≤ most_in_mem → references shape table + length new ≤ most_references + length (list_at table loc) → IsSound shape (with_list table loc new)
  noted_sound table loc p new sound is mem cards short room =
      let within = slice_get_within shape.places loc p is in
      let count = sound.locations in
      let within' : loc < length table.lists = omega arith in
      let sum = sum-set references_in shape.places table.lists loc p (list_at table loc) new within within' (place_is loc p is) (get_or-any table.lists loc [] within') in
      let a : references_in (p, new) ≡ length new = cond-true (is_mem p.kind) (length new) 0 mem in
      let b : references_in (p, list_at table loc) ≡ length (list_at table loc) = cond-true (is_mem p.kind) (length (list_at table loc)) 0 mem in
      list_sound table loc p new table.marks sound is cards (λ id. mem_counts p mem id new (list_at table loc)) (omega arith) (omega arith)
      refl sound.seats (λ id P all. all) (λ free. absurd (true≢false (sym mem ∙ free)))

  room_for : (table : Table) (loc : ℕ) → has_room shape loc table ≡ true → (length (list_at table loc) < most_in_mem) × (references shape table < most_references)
  room_for table loc is =
      let h = both_true (nat_lt (length (list_at table loc)) most_in_mem) (nat_lt (references shape table) most_references) is in
      (ltb-true (length (list_at table loc)) most_in_mem h.0, ltb-true (references shape table) most_references h.1)

  if_sound : (b : Bool) (t t' : Table) → (b ≡ true → IsSound shape t) → IsSound shape t' → IsSound shape (if b then t else t')
  if_sound true t t' on sound = on refl
  if_sound false t t' on sound = sound

  pub remember_top_sound : (table : Table) (id loc : ℕ) (p : Place) → IsSound shape table → IsCard id → slice_get shape.places loc ≡ Some p → is_mem p.kind ≡ true →
      IsSound shape (remember_top shape id loc table)
  remember_top_sound table id loc p sound card is mem =
      if_sound (has_room shape loc table) (onto id loc table) table (λ room.
      let r = room_for table loc room in
      let few = r.0 in
      let less = r.1 in
      let within = slice_get_within shape.places loc p is in
      let count = sound.locations in
      let longer : length (list_at table loc ++ id ∷ []) ≡ length (list_at table loc) + 1 = length-append (list_at table loc) (id ∷ []) in
      noted_sound table loc p (list_at table loc ++ id ∷ []) sound is mem
      (All-push IsCard (list_at table loc) id (old_ids table loc sound (omega arith)) card) (omega arith) (omega arith)) sound

  pub remember_bottom_sound : (table : Table) (id loc : ℕ) (p : Place) → IsSound shape table → IsCard id → slice_get shape.places loc ≡ Some p → is_mem p.kind ≡ true →
      IsSound shape (remember_bottom shape id loc table)
  remember_bottom_sound table id loc p sound card is mem =
      if_sound (has_room shape loc table) (under id loc table) table (λ room.
      let r = room_for table loc room in
      let few = r.0 in
      let less = r.1 in
      let within = slice_get_within shape.places loc p is in
      let count = sound.locations in
      noted_sound table loc p (id ∷ list_at table loc) sound is mem
      (All-cons IsCard id (list_at table loc) card (old_ids table loc sound (omega arith))) (omega arith) (omega arith)) sound

  pub number_sound : (table : Table) (num : ℕ) (value : ℤ) → IsSound shape table → IsWithinClamp value → IsSound shape (set_number num value table)
  number_sound table num value sound within =
      record {
        locations = sound.locations;
        amounts = length-set table.numbers num value ∙ sound.amounts;
        ids = sound.ids;
        once = sound.once;
        mems = sound.mems;
        together = sound.together;
        clamped = All-set IsWithinClamp table.numbers num value within sound.clamped;
        marked = sound.marked;
        seats = sound.seats;
        hidden = sound.hidden;
      }

  pub cleared_sound : (table : Table) (ids : List ℕ) → IsSound shape table →
      IsSound shape (record { lists = table.lists; numbers = table.numbers; marks = cleared ids table.marks })
  cleared_sound table ids sound =
      record {
        locations = sound.locations;
        amounts = sound.amounts;
        ids = sound.ids;
        once = sound.once;
        mems = sound.mems;
        together = sound.together;
        clamped = sound.clamped;
        marked = cleared_length ids table.marks ∙ sound.marked;
        seats = cleared_seats shape.players ids table.marks sound.seats;
        hidden = all_hide_fewer shape table.marks (cleared ids table.marks) (cleared_fewer ids table.marks) (zip shape.places table.lists) sound.hidden;
      }

  -- a list without one card is no longer, and its cards are cards
  less_face : (id : ℕ) (list : List ℕ) → All IsCard list → (length (without_face shape id list) ≤ length list) × All IsCard (without_face shape id list)
  less_face id [] all = (omega arith, all)
  less_face id (n ∷ list) all =
      less_at (face_eq (face_at shape n) (face_at shape id)) (less_face id list (All-tail IsCard n list all)) where
        less_at : (b : Bool) → (length (without_face shape id list) ≤ length list) × All IsCard (without_face shape id list) →
            (length (if b then list else n ∷ without_face shape id list) ≤ suc (length list)) × All IsCard (if b then list else n ∷ without_face shape id list)
        less_at true rest = (omega arith, All-tail IsCard n list all)
        less_at false rest = let h = rest.0 in (omega arith, All-cons IsCard n (without_face shape id list) (All-head IsCard n list all) rest.1)

  turned_round : (list : List ℕ) → All IsCard list → All IsCard (reverse list)
  turned_round list all = All-permutation IsCard list (reverse list) (IsPermutation-reverse list) all

  pub forget_sound : (table : Table) (id loc : ℕ) (p : Place) → IsSound shape table → slice_get shape.places loc ≡ Some p → is_mem p.kind ≡ true →
      IsSound shape (forget_in shape id loc table)
  forget_sound table id loc p sound is mem =
      let within = slice_get_within shape.places loc p is in
      let count = sound.locations in
      let within' : loc < length table.lists = omega arith in
      let list = list_at table loc in
      let less = less_face id (reverse list) (turned_round list (old_ids table loc sound within')) in
      let shorter = less.0 in
      let a = length-reverse list in
      let b = length-reverse (without_face shape id (reverse list)) in
      let few : length list ≤ most_in_mem =
      let h = All-get_or (IsShort) (zip shape.places table.lists) loc (p, list) (length-zip shape.places table.lists loc within within') sound.mems in
      let at = ap references_in (zip-get shape.places table.lists loc p list within within' (place_is loc p is) (get_or-any table.lists loc [] within')) in
      let refs : references_in (p, list) ≡ length list = cond-true (is_mem p.kind) (length list) 0 mem in
      omega arith in
      let before = sound.together in
      noted_sound table loc p (reverse (without_face shape id (reverse list))) sound is mem
      (turned_round (without_face shape id (reverse list)) less.1) (omega arith) (omega arith)

  pub reorder_sound : (table : Table) (loc : ℕ) (order : List ℕ) (p : Place) → IsSound shape table → slice_get shape.places loc ≡ Some p →
      IsPermutation (below (length (list_at table loc))) order → IsSound shape (reorder loc order table)
  reorder_sound table loc order p sound is permutes =
      let within = slice_get_within shape.places loc p is in
      let count = sound.locations in
      let within' : loc < length table.lists = omega arith in
      let list = list_at table loc in
      let new = taken order list in
      let moved = taken_permutes list order permutes in
      let refs : references_in (p, new) ≡ references_in (p, list) = ap (λ n. cond {A = ℕ} (is_mem p.kind) n 0) (length_permutation list new moved) in
      let short : references_in (p, list) ≤ most_in_mem =
      let h = All-get_or IsShort (zip shape.places table.lists) loc (p, list) (length-zip shape.places table.lists loc within within') sound.mems in
      let at = ap references_in (zip-get shape.places table.lists loc p list within within' (place_is loc p is) (get_or-any table.lists loc [] within')) in
      omega arith in
      let sum = sum-set references_in shape.places table.lists loc p list new within within' (place_is loc p is) (get_or-any table.lists loc [] within') in
      let before = sound.together in
      let marks = cleared list table.marks in
      let fewer = cleared_fewer list table.marks in
      list_sound table loc p new marks sound is (All-permutation IsCard list new moved (old_ids table loc sound within'))
      (λ id. ap (λ n. cond {A = ℕ} (is_mem p.kind) 0 n) (sum_by-IsPermutation (λ other. cond {A = ℕ} (other == id) 1 0) list new moved))
      (omega arith) (omega arith) (cleared_length list table.marks) (cleared_seats shape.players list table.marks sound.seats) fewer
      (λ free. All-permutation (Hides shape marks p) list new moved
      (hides_fewer shape table.marks marks fewer p list (hides_at shape table.marks table.lists loc p sound.hidden within within' (place_is loc p is) free)))
