-- How many cards and references a sound table holds: each card once, and references within their limits.
use Rattle.std.proofs.Common.{◌≡◌, ℕ, zero, suc, ◌+◌, ◌<◌, ◌≤◌, Bool, true, false, cond, ◌==◌, if◌then◌else◌, inl, inr, List, [], ◌∷◌, ◌++◌, length, map, get_or, slice_get, subst, sum_by, zip, Some, refl, sym, ap, ap₂, ◌∙◌, arith, length-append}
use Rattle.std.specs.Prelude.{All, count_by}
use Rattle.std.specs.List.{AllByRecursion, insert}
use Rattle.std.proofs.lemmas.Bool.{cases_lt, cond-true}
use Rattle.std.proofs.lemmas.List.{get_or_past, get_or-set_same, length-set}
use Rattle.std.proofs.lemmas.List.Elements.{recursion_from_All}
use Rattle.std.proofs.lemmas.List.FromFn.{length-range_with_len}
use Rattle.std.proofs.lemmas.List.Sums.{sum_by-cons}
use Rattle.rc_base.specs.Numbers.{below}
use Rattle.rc_deck.proofs.EachLemmas.{append_each}
use Rattle.rc_sheet_spec.specs.WellFormed.{is_mem}
use Rattle.rc_play_spec.specs.Shape.{Place, Shape, holds_references}
use Rattle.rc_play_spec.specs.Table.{Table, IsSound, list_at, times_in, references_in, has_room, onto, under, remember_top, remember_bottom}
use Rattle.rc_play_spec.proofs.Counting.{passing, same, passing-is, passing-append, passing-all, each_once}
use Rattle.rc_table.specs.Shape.{IsShape}
use Rattle.rc_table.specs.Laid.{room_in, rooms}
use Rattle.rc_table.specs.Rows.{HaveRoom}
use Rattle.rc_table.specs.Restored.{put_at}
use Rattle.rc_table.proofs.PutBack.{one_longer}

-- what the locations of cards hold
abbrev cards_in : List Place → List (List ℕ) → List ℕ
cards_in [] lists = []
cards_in (place ∷ places) [] = []
cards_in (place ∷ places) (list ∷ lists) = cond (is_mem place.kind) [] list ++ cards_in places lists

pub times_here : (id : ℕ) (m : Bool) (list : List ℕ) →
    cond m 0 (count_by (λ other. other == id) list) ≡ passing (same id) (cond m [] list)
times_here id true list = refl
times_here id false list = sym (passing-is (same id) list)

times_counted : (id : ℕ) (places : List Place) (lists : List (List ℕ)) → sum_by (times_in id) (zip places lists) ≡ passing (same id) (cards_in places lists)
times_counted id [] lists = refl
times_counted id (place ∷ places) [] = refl
times_counted id (place ∷ places) (list ∷ lists) =
    sum_by-cons (times_in id) (place, list) (zip places lists)
    ∙ ap₂ ◌+◌ (times_here id (is_mem place.kind) list) (times_counted id places lists)
    ∙ sym (passing-append (same id) (cond (is_mem place.kind) [] list) (cards_in places lists))

pub each_here : (n : ℕ) (m : Bool) (list : List ℕ) → All (λ id. id < n) list →
    AllByRecursion (λ id. id < n) (cond m [] list)
each_here n true list all = tt
each_here n false list all = recursion_from_All (λ id. id < n) list all

each_in : (n : ℕ) (places : List Place) (lists : List (List ℕ)) → AllByRecursion (All (λ id. id < n)) lists → AllByRecursion (λ id. id < n) (cards_in places lists)
each_in n [] lists all = tt
each_in n (place ∷ places) [] all = tt
each_in n (place ∷ places) (list ∷ lists) all =
    append_each (λ id. id < n) (cond (is_mem place.kind) [] list) (cards_in places lists) (each_here n (is_mem place.kind) list all.0) (each_in n places lists all.1)

-- as many as there are cards
cards_held : (shape : Shape) (table : Table) → IsSound shape table → length (cards_in shape.places table.lists) ≡ length shape.faces
cards_held shape table sound =
    let n = length shape.faces in
    let cards = cards_in shape.places table.lists in
    sym (passing-all cards)
    ∙ each_once (λ id. true) cards n (each_in n shape.places table.lists (recursion_from_All (All (λ id. id < n)) table.lists sound.ids))
    (λ id less. sym (times_counted id shape.places table.lists) ∙ sound.once id less)
    ∙ passing-all (below n) ∙ length-range_with_len 0 n

abbrev few : Place × List ℕ → Type 0
few at = references_in at ≤ 512

-- a list is no longer than a number that is no smaller than that of the cards, nor than 512 where the list is of references
short_here : (most : ℕ) (m : Bool) (list : List ℕ) → length (cond m [] list) ≤ most → cond m (length list) 0 ≤ 512 → (m ≡ true → 512 ≤ most) → length list ≤ most
short_here most true list cards notes mem = let least = mem refl in omega (arith, notes, least)
short_here most false list cards notes mem = cards

list_short : (most : ℕ) (places : List Place) (lists : List (List ℕ)) (loc : ℕ) → length lists ≡ length places → AllByRecursion few (zip places lists) →
    length (cards_in places lists) ≤ most → ((p : Place) → slice_get places loc ≡ Some p → is_mem p.kind ≡ true → 512 ≤ most) → loc < length lists →
    length (get_or lists loc []) ≤ most
list_short most [] lists loc same all cards mem within = absurd (omega (arith, same, within))
list_short most (place ∷ places) [] loc same all cards mem within = absurd (omega (arith, within))
list_short most (place ∷ places) (list ∷ lists) zero same all cards mem within =
    let n = length-append (cond (is_mem place.kind) [] list) (cards_in places lists) in
    short_here most (is_mem place.kind) list (omega (arith, n, cards)) all.0 (mem place refl)
list_short most (place ∷ places) (list ∷ lists) (suc loc) same all cards mem within =
    let n = length-append (cond (is_mem place.kind) [] list) (cards_in places lists) in
    list_short most places lists loc (omega (arith, same)) all.1 (omega (arith, n, cards)) mem (omega (arith, within))

-- the most that a location may hold
cards_fit_here : (n : ℕ) (b : Bool) → n ≤ 512 → n ≤ (if b then 512 else n)
cards_fit_here n true le = le
cards_fit_here n false le = omega arith

few_here : (n : ℕ) (b : Bool) → n ≤ 512 → (if b then 512 else n) ≤ 512
few_here n true le = omega arith
few_here n false le = le

room_here : (shape : Shape) (places : List Place) (loc : ℕ) → loc < length places →
    get_or (map (λ place. room_in shape (Some place)) places) loc 0 ≡ room_in shape (slice_get places loc)
room_here shape [] loc within = absurd (omega (arith, within))
room_here shape (place ∷ places) zero within = refl
room_here shape (place ∷ places) (suc loc) within = room_here shape places loc (omega (arith, within))

pub room_at : (shape : Shape) (loc : ℕ) → loc < length shape.places → get_or (rooms shape) loc 0 ≡ room_in shape (slice_get shape.places loc)
room_at shape loc within = room_here shape shape.places loc within

pub room_few : (shape : Shape) → IsShape shape → (loc : ℕ) → loc < length shape.places → get_or (rooms shape) loc 0 ≤ 512
room_few shape limits loc within =
    let is = room_at shape loc within in
    let few = few_here (length shape.faces) (holds_references (slice_get shape.places loc)) limits.cards in
    omega (arith, is, few)

module _ (shape : Shape) (table : Table) (sound : IsSound shape table) (limits : IsShape shape) where
  few_each : AllByRecursion few (zip shape.places table.lists)
  few_each = recursion_from_All few (zip shape.places table.lists) sound.mems

  list_within : (most : ℕ) → length shape.faces ≤ most → (loc : ℕ) →
      ((p : Place) → slice_get shape.places loc ≡ Some p → is_mem p.kind ≡ true → 512 ≤ most) → length (list_at table loc) ≤ most
  list_within most all loc mem =
      let cards = cards_held shape table sound in
      elim (cases_lt loc (length table.lists)) [
        | inl within ↦ list_short most shape.places table.lists loc sound.locations few_each (omega (arith, cards, all)) mem within
        | inr past ↦ let none = ap length (get_or_past table.lists loc [] past) in omega (arith, none)
      ]

  pub few_in_list : (loc : ℕ) → length (list_at table loc) ≤ 512
  few_in_list loc = list_within 512 limits.cards loc (λ p is mem. omega arith)

  pub list_fits : (loc : ℕ) → loc < length shape.places → length (list_at table loc) ≤ get_or (rooms shape) loc 0
  list_fits loc within =
      let place = slice_get shape.places loc in
      let room = room_at shape loc within in
      let few = list_within (room_in shape place) (cards_fit_here (length shape.faces) (holds_references place) limits.cards) loc
      (λ p is mem.
      let all = cond-true (holds_references place) 512 (length shape.faces) (ap holds_references is ∙ mem) in
      omega (arith, all)) in
      omega (arith, room, few)

-- where there is room for what a shape needs, there is for each list of a sound table
pub all_fit : (shape : Shape) (table : Table) → IsSound shape table → IsShape shape → (room : List ℕ) → room ≡ rooms shape → HaveRoom table.lists room
all_fit shape table sound limits room fits loc within =
    let most = list_fits shape table sound limits loc (omega (arith, within, sound.locations)) in
    let same = ap (λ room. get_or room loc 0) fits in
    omega (arith, most, same)

-- where a sound table has one more at a place of a location, there was room for it
pub one_more_fits : (shape : Shape) (table : Table) (id loc place : ℕ) → IsShape shape → loc < length table.lists →
    IsSound shape (put_at id loc place table) → length (list_at table loc) < get_or (rooms shape) loc 0
one_more_fits shape table id loc place limits within sound =
    let list = insert (list_at table loc) place id in
    let same = length-set table.lists loc list in
    let most = list_fits shape (put_at id loc place table) sound limits loc (omega (arith, within, same, sound.locations)) in
    let is = ap length (get_or-set_same table.lists loc list [] within) in
    let longer = one_longer (list_at table loc) place id in
    omega (arith, most, is, longer)

-- what is remembered where there is room
pub noted_top : (shape : Shape) (table : Table) (id loc : ℕ) → has_room shape loc table ≡ true → IsSound shape (remember_top shape id loc table) →
    IsSound shape (onto id loc table)
noted_top shape table id loc room = subst (IsSound shape) (cond-true (has_room shape loc table) (onto id loc table) table room)

pub noted_bottom : (shape : Shape) (table : Table) (id loc : ℕ) → has_room shape loc table ≡ true → IsSound shape (remember_bottom shape id loc table) →
    IsSound shape (under id loc table)
noted_bottom shape table id loc room = subst (IsSound shape) (cond-true (has_room shape loc table) (under id loc table) table room)
