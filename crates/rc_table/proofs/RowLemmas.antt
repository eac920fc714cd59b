-- Rows and the lists that they hold.
use Rattle.std.proofs.Common.{◌≡◌, ℕ, zero, suc, ◌+◌, ◌-◌, ◌<◌, ◌≤◌, List, [], ◌∷◌, ◌++◌, length, map, take, drop, get_or, set, refl, sym, ap, ap₂, ◌∙◌, subst, arith, Vec, Global}
use Rattle.std.specs.Vec.{with_items}
use Rattle.std.specs.List.{insert, remove}
use Rattle.std.proofs.lemmas.List.{drop-drop, drop-take, take-take, drop_at, take-append-le, take_all, take_at, drop_all, append_assoc, append-nil, set_split, get_or_default, length-take-le, length-drop, length-map, length-append, length-set, get_or-map, map-set, set-get_or, take-set-le, drop-set-lt, drop-set-add, take_more_set, with_items_is}
use lib.Seq.{paste}
use Rattle.std.proofs.lemmas.List.Edits.{length-paste, take-paste}
use borrow.Rule.Slice.PartMut.{put_mid}
use Rattle.std.proofs.lemmas.Slice.{take-put_mid_below, drop-put_mid}
use Rattle.rc_table.specs.Rows.{Lists}
use Rattle.rc_table.specs.RowsSeen.{list_in, room_of, AreRows}
use Rattle.rc_table.specs.declared.rows.Row.{Row}

abbrev pub lists_of : List (List ℕ) → List ℕ → Lists
lists_of all room = record { all = all; room = room }

abbrev pub rows_seen : List Row → List ℕ → Lists
rows_seen rows ids = lists_of (map (list_in ids) rows) (map room_of rows)

-- a row with another count
abbrev pub counting : Row → ℕ → Row
counting row count = record { from = row.from; count = count; room = row.room }

abbrev pub items_of : Vec ℕ Global → List ℕ
items_of list = list.items

-- WHERE ROWS LIE

before_end : (rows : List Row) (from end : ℕ) → AreRows rows from end → from ≤ end
before_end [] from end are = omega (arith, are)
before_end (row ∷ rows) from end are = let rest = before_end rows (from + row.room) end are.3 in omega (arith, rest)

pub record IsWithin (row : Row) (from end : ℕ) : Type 0 where
  pub begins : from ≤ row.from
  pub few : row.count ≤ row.room
  pub small : row.room ≤ 65535
  pub ends : row.from + row.room ≤ end

-- each row lies between the ends
pub row_within : (rows : List Row) (from end : ℕ) → AreRows rows from end → (at : ℕ) (d : Row) → at < length rows → IsWithin (get_or rows at d) from end
row_within [] from end are at d within = absurd (omega (arith, within))
row_within (row ∷ rows) from end are zero d within =
    let rest = before_end rows (from + row.room) end are.3 in
    record {
      begins = omega (arith, are.0);
      few = are.1;
      small = are.2;
      ends = omega (arith, are.0, rest);
    }
row_within (row ∷ rows) from end are (suc at) d within =
    let rest = row_within rows (from + row.room) end are.3 at d (omega (arith, within)) in
    record {
      begins = let begins = rest.begins in omega (arith, begins);
      few = rest.few;
      small = rest.small;
      ends = rest.ends;
    }

-- a row with another count
pub still_rows : (rows : List Row) (from end : ℕ) → AreRows rows from end → (at : ℕ) (row d : Row) → at < length rows →
    row.from ≡ (get_or rows at d).from → row.room ≡ (get_or rows at d).room → row.count ≤ row.room → AreRows (set rows at row) from end
still_rows [] from end are at row d within same fits few = absurd (omega (arith, within))
still_rows (first ∷ rows) from end are zero row d within same fits few =
    (same ∙ are.0, few, subst (λ room. room ≤ 65535) (sym fits) are.2, subst (λ room. AreRows rows (from + room) end) (sym fits) are.3)
still_rows (first ∷ rows) from end are (suc at) row d within same fits few =
    (are.0, are.1, are.2, still_rows rows (from + first.room) end are.3 at row d (omega (arith, within)) same fits few)

-- a row more
pub rows_more : (rows : List Row) (from end : ℕ) (row : Row) → AreRows rows from end → row.from ≡ end → row.count ≤ row.room → row.room ≤ 65535 →
    AreRows (rows ++ row ∷ []) from (end + row.room)
rows_more [] from end row are begins few small = (begins ∙ sym are, few, small, ap (λ n. n + row.room) are)
rows_more (first ∷ rows) from end row are begins few small =
    (are.0, are.1, are.2, rows_more rows (from + first.room) end row are.3 begins few small)

-- rows with the same room end at the same place
pub same_ends : (rows rows' : List Row) (from end end' : ℕ) → AreRows rows from end → AreRows rows' from end' → map room_of rows ≡ map room_of rows' → end ≡ end'
same_ends [] [] from end end' are are' same = sym are ∙ are'
same_ends [] (row' ∷ rows') from end end' are are' same = let long = ap length same in absurd (omega (arith, long))
same_ends (row ∷ rows) [] from end end' are are' same = let long = ap length same in absurd (omega (arith, long))
same_ends (row ∷ rows) (row' ∷ rows') from end end' are are' same =
    same_ends rows rows' (from + row.room) end end' are.3
    (subst (λ room. AreRows rows' (from + room) end') (sym (ap (λ room. get_or room 0 0) same)) are'.3)
    (ap (drop 1) same)

-- WHAT ROWS HOLD

module _ (ids ids' : List ℕ) where
  -- where the ids from a place on stay, so do the lists there
  rows_behind : (rows : List Row) (from end : ℕ) → AreRows rows from end → drop from ids' ≡ drop from ids → map (list_in ids') rows ≡ map (list_in ids) rows
  rows_behind [] from end are same = refl
  rows_behind (row ∷ rows) from end are same =
      ap₂ (λ list lists. list ∷ lists)
      (ap (λ n. take row.count (drop n ids')) are.0 ∙ ap (take row.count) same ∙ sym (ap (λ n. take row.count (drop n ids)) are.0))
      (rows_behind rows (from + row.room) end are.3
      (sym (drop-drop row.room from ids') ∙ ap (drop row.room) same ∙ drop-drop row.room from ids))

  -- where the ids up to a place stay, so does a list that ends there
  list_before : (row : Row) (to : ℕ) → row.from + row.count ≤ to → take to ids' ≡ take to ids → list_in ids' row ≡ list_in ids row
  list_before row to fits same =
      sym (drop-take row.from row.count ids')
      ∙ ap (drop row.from)
      (sym (take-take (row.from + row.count) to ids' fits) ∙ ap (take (row.from + row.count)) same ∙ take-take (row.from + row.count) to ids fits)
      ∙ drop-take row.from row.count ids

  -- where the ids before and behind a row stay, so do all other lists
  pub row_written : (rows : List Row) (from end : ℕ) → AreRows rows from end → (at : ℕ) (row d : Row) → at < length rows →
      row.from ≡ (get_or rows at d).from → take row.from ids' ≡ take row.from ids →
      drop (row.from + (get_or rows at d).room) ids' ≡ drop (row.from + (get_or rows at d).room) ids →
      map (list_in ids') (set rows at row) ≡ set (map (list_in ids) rows) at (list_in ids' row)
  row_written [] from end are at row d within same before behind = absurd (omega (arith, within))
  row_written (first ∷ rows) from end are zero row d within same before behind =
      ap (λ lists. list_in ids' row ∷ lists)
      (rows_behind rows (from + first.room) end are.3
      (subst (λ n. drop (n + first.room) ids' ≡ drop (n + first.room) ids) (same ∙ are.0) behind))
  row_written (first ∷ rows) from end are (suc at) row d within same before behind =
      let less : at < length rows = omega (arith, within) in
      let begins = (row_within rows (from + first.room) end are.3 at d less).begins in
      ap₂ (λ list lists. list ∷ lists)
      (list_before first row.from (omega (arith, are.0, are.1, begins, same)) before)
      (row_written rows (from + first.room) end are.3 at row d less same before behind)

-- the list of a row
pub list_of_row : (rows : List Row) (ids : List ℕ) (at : ℕ) (d : Row) → at < length rows → get_or (map (list_in ids) rows) at [] ≡ list_in ids (get_or rows at d)
list_of_row rows ids at d within = get_or-map (list_in ids) rows at d [] within

pub room_of_row : (rows : List Row) (at : ℕ) (d : Row) → at < length rows → get_or (map room_of rows) at 0 ≡ (get_or rows at d).room
room_of_row rows at d within = get_or-map room_of rows at d 0 within

-- a list is as long as its row counts
pub list_long : (ids : List ℕ) (row : Row) (from : ℕ) → IsWithin row from (length ids) → length (list_in ids row) ≡ row.count
list_long ids row from is =
    let left = length-drop row.from ids in
    let few = is.few in
    let ends = is.ends in
    length-take-le row.count (drop row.from ids) (omega (arith, left, few, ends))

same_rooms : (rows : List Row) (at : ℕ) (row d : Row) → at < length rows → row.room ≡ (get_or rows at d).room → map room_of (set rows at row) ≡ map room_of rows
same_rooms rows at row d within same =
    map-set room_of rows at row
    ∙ ap (set (map room_of rows) at) (same ∙ sym (room_of_row rows at d within))
    ∙ set-get_or (map room_of rows) at 0

-- WRITES

-- what a part of a list that is written over holds
part_there : (ids part : List ℕ) (from count long : ℕ) → from ≤ length ids → count ≤ length part →
    take count (drop from (put_mid from long ids part)) ≡ take count part
part_there ids part from count long fits few =
    ap (take count) (drop_at (take from ids) (part ++ drop long (drop from ids)) from (length-take-le from ids fits)) ∙ take-append-le count part (drop long (drop from ids)) few

length-put : (ids part : List ℕ) (from long : ℕ) → from + long ≤ length ids → long ≡ length part → length (put_mid from long ids part) ≡ length ids
length-put ids part from long fits same =
    let whole = length-append (take from ids) (part ++ drop long (drop from ids)) in
    let rest = length-append part (drop long (drop from ids)) in
    let before = length-take-le from ids (omega (arith, fits)) in
    let behind = length-drop long (drop from ids) in
    let left = length-drop from ids in
    omega (arith, whole, rest, before, behind, left, fits, same)

-- rows that show these lists, and one of them
module _ (all_rows : List Row) (ids : Vec ℕ Global) (now : Lists) (view : rows_seen all_rows ids.items ≡ now) (are : AreRows all_rows 0 (length ids.items)) (at : ℕ)
    (there : at < length now.all) where
  pub within : at < length all_rows
  within = subst (λ n. at < n) (ap (λ (lists : Lists). length lists.all) (sym view) ∙ length-map all_rows (list_in ids.items)) there

  module _ (held : Row) (is : held ≡ get_or all_rows at held) where
    pub lies : IsWithin held 0 (length ids.items)
    lies = subst (λ held_row. IsWithin held_row 0 (length ids.items)) (sym is) (row_within all_rows 0 (length ids.items) are at held within)

    pub list_is : get_or now.all at [] ≡ list_in ids.items held
    list_is = sym (ap (λ (lists : Lists). get_or lists.all at []) view) ∙ list_of_row all_rows ids.items at held within ∙ ap (list_in ids.items) (sym is)

    pub count_is : length (get_or now.all at []) ≡ held.count
    count_is = ap length list_is ∙ list_long ids.items held 0 lies

    pub room_is : get_or now.room at 0 ≡ held.room
    room_is = sym (ap (λ (lists : Lists). get_or lists.room at 0) view) ∙ room_of_row all_rows at held within ∙ ap room_of (sym is)

    -- the part that is the list
    pub part_is : (whole : List ℕ) (n : ℕ) → whole ≡ ids.items → n ≡ held.count → take n (drop held.from whole) ≡ get_or now.all at []
    part_is whole n same long = ap₂ (λ n ids. take n (drop held.from ids)) long same ∙ sym list_is

    -- a part within the room lies within the ids
    pub part_ends : (whole : List ℕ) (n : ℕ) → whole ≡ ids.items → n ≤ held.room → held.from + n ≤ length whole
    part_ends whole n same few =
        let long = ap length same in
        let ends = lies.ends in
        omega (arith, long, ends, few)

    module _ (row : Row) (begins : row.from ≡ held.from) (fits : row.room ≡ held.room) (few : row.count ≤ row.room) where
      pub still : AreRows (set all_rows at row) 0 (length ids.items)
      still = still_rows all_rows 0 (length ids.items) are at row held within (begins ∙ ap (λ (row : Row). row.from) is) (fits ∙ ap (λ (row : Row). row.room) is) few

      same_around : (ids' list : List ℕ) → take row.from ids' ≡ take row.from ids.items → drop (row.from + held.room) ids' ≡ drop (row.from + held.room) ids.items →
          list_in ids' row ≡ list → rows_seen (set all_rows at row) ids' ≡ lists_of (set now.all at list) now.room
      same_around ids' list before behind holds =
          let room : held.room ≡ (get_or all_rows at held).room = ap (λ (row : Row). row.room) is in
          ap₂ lists_of
          (row_written ids.items ids' all_rows 0 (length ids.items) are at row held within (begins ∙ ap (λ (row : Row). row.from) is) before
          (subst (λ n. drop (row.from + n) ids' ≡ drop (row.from + n) ids.items) room behind)
          ∙ ap₂ (λ lists list. set lists at list) (ap (λ (lists : Lists). lists.all) view) holds)
          (same_rooms all_rows at row held within (fits ∙ room) ∙ ap (λ (lists : Lists). lists.room) view)

      -- after a part was written that begins with it
      pub written : (whole part list : List ℕ) (long : ℕ) → whole ≡ ids.items → row.count ≤ length part → long ≡ length part → long ≤ row.room →
          take row.count part ≡ list →
          (rows_seen (set all_rows at row) (with_items ids (put_mid row.from long whole part)).items ≡ lists_of (set now.all at list) now.room)
          × AreRows (set all_rows at row) 0 (length (with_items ids (put_mid row.from long whole part)).items)
      written whole part list long same covers each short holds =
          let ends = lies.ends in
          let end : row.from + long ≤ length ids.items = omega (arith, begins, fits, short, ends) in
          let put : put_mid row.from long whole part ≡ put_mid row.from long ids.items part = ap (λ ids. put_mid row.from long ids part) same in
          let as_long = length-put ids.items part row.from long end each in
          let items = with_items_is ids (put_mid row.from long whole part) (ap length put ∙ as_long ∙ sym ids.ok.0) ∙ put in (
            ap (rows_seen (set all_rows at row)) items
                ∙ same_around (put_mid row.from long ids.items part) list
                (take-put_mid_below row.from long ids.items part row.from (omega arith) (omega (arith, end)))
                (drop-put_mid row.from long ids.items part (row.from + held.room) (omega (arith, short, fits)) (omega (arith, end)) (sym each))
                (part_there ids.items part row.from row.count long (omega (arith, end)) covers ∙ holds),
            subst (AreRows (set all_rows at row) 0) (sym (ap length items ∙ as_long)) still,
          )

      -- after an id was put behind its last one
      pub put_last : (id : ℕ) → row.count ≡ held.count + 1 →
          (rows_seen (set all_rows at row) (set ids.items (held.from + held.count) id) ≡ lists_of (set now.all at (get_or now.all at [] ++ id ∷ [])) now.room)
          × AreRows (set all_rows at row) 0 (length (set ids.items (held.from + held.count) id))
      put_last id more =
          let ends = lies.ends in
          let left = length-drop held.from ids.items in
          let last = held.from + held.count in (
            same_around (set ids.items last id) (get_or now.all at [] ++ id ∷ [])
                (take-set-le row.from ids.items last id (omega (arith, begins)))
                (drop-set-lt (row.from + held.room) ids.items last id (omega (arith, begins, fits, few, more)))
                (ap₂ (λ from count. take count (drop from (set ids.items last id))) begins more
                ∙ ap (take (held.count + 1)) (drop-set-add held.from ids.items held.count id)
                ∙ take_more_set (drop held.from ids.items) held.count id (omega (arith, left, ends, fits, few, more))
                ∙ ap (λ list. list ++ id ∷ []) (sym list_is)),
            subst (AreRows (set all_rows at row) 0) (sym (length-set ids.items last id)) still,
          )

    -- after an id was taken out of it
    pub taken_out : (place : ℕ) (whole new : List ℕ) → whole ≡ ids.items →
        length new ≡ length (take (held.from + held.count - held.from) (drop held.from whole)) →
        take (length (take (held.from + held.count - held.from) (drop held.from whole)) - 1) new ≡ remove (take (held.from + held.count - held.from) (drop held.from whole)) place →
        (rows_seen (set all_rows at (counting held (held.count - 1))) (with_items ids (put_mid held.from (held.from + held.count - held.from) whole new)).items
        ≡ lists_of (set now.all at (remove (get_or now.all at []) place)) now.room)
        × AreRows (set all_rows at (counting held (held.count - 1))) 0 (length (with_items ids (put_mid held.from (held.from + held.count - held.from) whole new)).items)
    taken_out place whole new same as_long left =
        let few = lies.few in
        let part = part_is whole (held.from + held.count - held.from) same (omega arith) in
        let long : length (take (held.from + held.count - held.from) (drop held.from whole)) ≡ held.count = ap length part ∙ count_is in
        written (counting held (held.count - 1)) refl refl (omega (arith, few)) whole new (remove (get_or now.all at []) place) (held.from + held.count - held.from) same
        (omega (arith, as_long, long)) (omega (arith, as_long, long)) (omega (arith, few))
        (ap (λ k. take (k - 1) new) (sym long) ∙ left ∙ ap (λ list. remove list place) part)

    -- after an id was put into it
    pub inserted : (place id : ℕ) (whole new : List ℕ) → whole ≡ ids.items → held.count < held.room →
        length new ≡ length (take (held.from + (held.count + 1) - held.from) (drop held.from whole)) →
        new ≡ insert (take (length (take (held.from + (held.count + 1) - held.from) (drop held.from whole)) - 1) (take (held.from + (held.count + 1) - held.from) (drop held.from whole))) place id →
        (rows_seen (set all_rows at (counting held (held.count + 1))) (with_items ids (put_mid held.from (held.from + (held.count + 1) - held.from) whole new)).items
        ≡ lists_of (set now.all at (insert (get_or now.all at []) place id)) now.room)
        × AreRows (set all_rows at (counting held (held.count + 1))) 0 (length (with_items ids (put_mid held.from (held.from + (held.count + 1) - held.from) whole new)).items)
    inserted place id whole new same less as_long is_new =
        let n = held.from + (held.count + 1) - held.from in
        let ends = part_ends whole (held.count + 1) same (omega (arith, less)) in
        let behind = length-drop held.from whole in
        let long : length (take n (drop held.from whole)) ≡ held.count + 1 = length-take-le n (drop held.from whole) (omega (arith, ends, behind)) ∙ omega arith in
        let front : take (length (take n (drop held.from whole)) - 1) (take n (drop held.from whole)) ≡ get_or now.all at [] =
        ap (λ k. take (k - 1) (take n (drop held.from whole))) long
        ∙ take-take (held.count + 1 - 1) n (drop held.from whole) (omega arith)
        ∙ part_is whole (held.count + 1 - 1) same (omega arith) in
        written (counting held (held.count + 1)) refl refl (omega (arith, less)) whole new (insert (get_or now.all at []) place id) n same
        (omega (arith, as_long, long)) (omega (arith, as_long, long)) (omega (arith, less))
        (take_all (held.count + 1) new (omega (arith, as_long, long)) ∙ is_new ∙ ap (λ list. insert list place id) front)

-- a list has no more than there is room for
pub list_has_room : (all_rows : List Row) (ids : Vec ℕ Global) (now : Lists) → rows_seen all_rows ids.items ≡ now → AreRows all_rows 0 (length ids.items) → (at : ℕ) → at < length now.all →
    length (get_or now.all at []) ≤ get_or now.room at 0
list_has_room all_rows ids now view are at there =
    let none : Row = record { from = 0; count = 0; room = 0 } in
    let held = get_or all_rows at none in
    let is = get_or_default all_rows at none held (within all_rows ids now view are at there) in
    let count = count_is all_rows ids now view are at there held is in
    let room = room_is all_rows ids now view are at there held is in
    let few = (lies all_rows ids now view are at there held is).few in
    omega (arith, count, room, few)

-- where there is a row there is a list
pub there_is : (all_rows : List Row) (ids : Vec ℕ Global) (now : Lists) → rows_seen all_rows ids.items ≡ now → (at : ℕ) → at < length all_rows → at < length now.all
there_is all_rows ids now view at = subst (λ n. at < n) (sym (length-map all_rows (list_in ids.items)) ∙ ap (λ (lists : Lists). length lists.all) view)

-- AN ID THAT IS PUT IN

-- those from a place on are moved up by one, and the last one is lost
pub moved_up : (row : List ℕ) (place id : ℕ) → place < length row - 1 →
    set (paste row (place + 1) (drop place row) (length row - 1 - place)) place id ≡ insert (take (length row - 1) row) place id
moved_up row place id within =
    let last = length row - 1 in
    let front = take (place + 1) row in
    let middle = take (last - place) (drop place row) in
    let back = drop (place + 1 + (last - place)) row in
    let whole = front ++ middle ++ back in
    let left = length-drop place row in
    let long : length whole ≡ length row = length-paste row (place + 1) (drop place row) (last - place) (omega (arith, within)) (omega (arith, within, left)) in
    let front_long : length front ≡ suc place = length-take-le (place + 1) row (omega (arith, within)) ∙ omega arith in
    let parts = append_assoc front middle back in
    let before : take place whole ≡ take place (take last row) =
    sym (take-take place (suc place) whole (omega arith))
    ∙ ap (take place) (ap (take (suc place)) parts ∙ take_at front (middle ++ back) (suc place) front_long)
    ∙ take-take place (place + 1) row (omega arith)
    ∙ sym (take-take place last row (omega (arith, within))) in
    let behind : drop (suc place) whole ≡ drop place (take last row) =
    ap (drop (suc place)) parts
    ∙ drop_at front (middle ++ back) (suc place) front_long
    ∙ ap (λ rest. middle ++ rest) (drop_all (place + 1 + (last - place)) row (omega (arith, within)))
    ∙ append-nil middle
    ∙ sym (drop-take place (last - place) row)
    ∙ ap (λ n. drop place (take n row)) (let all : place + (last - place) ≡ last = omega (arith, within) in all) in
    set_split whole place id (omega (arith, within, long)) ∙ ap₂ (λ before behind. before ++ id ∷ behind) before behind

length_few : (row : List ℕ) (place : ℕ) → length row - 1 ≤ place → length (take (length row - 1) row) ≤ place
length_few row place last = let long = length-take-le (length row - 1) row (omega arith) in omega (arith, long, last)

-- those behind a place are moved down by one, and what the last place holds then no longer counts
pub moved_down : (row : List ℕ) (place : ℕ) → place + 1 < length row →
    take (length row - 1) (paste row place (drop (place + 1) row) (length row - (place + 1))) ≡ remove row place
moved_down row place more =
    let n = length row - (place + 1) in
    let left = length-drop (place + 1) row in
    let last : length row - 1 ≡ place + n = omega (arith, more) in
    let next : place + 1 ≡ suc place = omega arith in
    ap (λ k. take k (paste row place (drop (place + 1) row) n)) last
    ∙ take-paste row place (drop (place + 1) row) n (omega (arith, more)) (omega (arith, left))
    ∙ ap (λ list. take place row ++ list) (take_all n (drop (place + 1) row) (omega (arith, left)) ∙ ap (λ k. drop k row) next)

-- the last one is taken out
pub last_out : (row : List ℕ) (place : ℕ) → place < length row → length row ≤ place + 1 → take (length row - 1) row ≡ remove row place
last_out row place there last =
    let is : length row - 1 ≡ place = omega (arith, there, last) in
    ap (λ k. take k row) is
    ∙ sym (append-nil (take place row))
    ∙ ap (λ list. take place row ++ list) (sym (drop_all (suc place) row (omega (arith, last))))

-- it takes the last place
pub put_at_end : (row : List ℕ) (place id : ℕ) → place < length row → length row - 1 ≤ place → set row place id ≡ insert (take (length row - 1) row) place id
put_at_end row place id within last =
    set_split row place id within
    ∙ ap₂ (λ before behind. before ++ id ∷ behind)
    (sym (take-take place (length row - 1) row (omega (arith, within, last))))
    (drop_all (suc place) row (omega (arith, within, last)) ∙ sym (drop_all place (take (length row - 1) row) (length_few row place last)))
