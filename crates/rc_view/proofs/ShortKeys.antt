-- The bytes by which a view is known are few: each card stands once in the locations of cards, and references are few.
use Rattle.std.proofs.Common.{◌≡◌, ℕ, ◌+◌, ◌*◌, ◌<◌, ◌≤◌, Bool, true, false, cond, List, [], ◌∷◌, ◌++◌, length, map, get_or, sum_by, zip, Some, refl, sym, ap₂, ◌∙◌, true≢false, arith, length-append}
use Rattle.std.specs.Prelude.{All, flat_map}
use Rattle.std.specs.Int.{w16, w32, to_le_bytes}
use Rattle.std.specs.List.{AllByRecursion}
use Rattle.std.proofs.lemmas.List.{length-map}
use Rattle.std.proofs.lemmas.List.Concat.{length-flat_map}
use Rattle.std.proofs.lemmas.List.Elements.{recursion_from_All}
use Rattle.std.proofs.lemmas.List.FromFn.{length-range_with_len}
use Rattle.std.proofs.lemmas.List.Sums.{sum_by-cons, sum_by-le}
use Rattle.rc_base.specs.Numbers.{below}
use Rattle.rc_deck.proofs.EachLemmas.{append_each}
use Rattle.rc_sheet_spec.specs.WellFormed.{is_mem}
use Rattle.rc_play_spec.specs.Control.{Control}
use Rattle.rc_play_spec.specs.Shape.{Place, Shape, face_number}
use Rattle.rc_play_spec.specs.Sees.{sees_place}
use Rattle.rc_play_spec.specs.Table.{Table, IsSound, times_in, references_in}
use Rattle.rc_play_spec.specs.View.{known_face, sight_of, sights_of}
use Rattle.rc_play_spec.proofs.Counting.{passing, same, passing-append, passing-all, each_once}
use Rattle.rc_play_spec.proofs.Filled.{mem_kind}
use Rattle.rc_table.proofs.Held.{times_here, each_here}
use Rattle.rc_view.specs.Key.{frame_key, control_key, number_key, known_places, place_key, sight_key}
use Rattle.rc_view.specs.Laws.{KeysAreShort}
use Rattle.rc_view.proofs.KeyLemmas.{places-few}

-- the cards that stand in a location, and no references
abbrev cards_at : Place × List ℕ → List ℕ
cards_at at = cond (is_mem at.0.kind) [] at.1

times_counted : (id : ℕ) (ats : List (Place × List ℕ)) →
    sum_by (times_in id) ats ≡ passing (same id) (flat_map cards_at ats)
times_counted id [] = refl
times_counted id (at ∷ ats) =
    sum_by-cons (times_in id) at ats
    ∙ ap₂ ◌+◌ (times_here id (is_mem at.0.kind) at.1) (times_counted id ats)
    ∙ sym (passing-append (same id) (cards_at at) (flat_map cards_at ats))

each_in : (n : ℕ) (places : List Place) (lists : List (List ℕ)) → AllByRecursion (All (λ id. id < n)) lists →
    AllByRecursion (λ id. id < n) (flat_map cards_at (zip places lists))
each_in n [] lists all = tt
each_in n (place ∷ places) [] all = tt
each_in n (place ∷ places) (list ∷ lists) all =
    append_each (λ id. id < n) (cards_at (place, list)) (flat_map cards_at (zip places lists))
    (each_here n (is_mem place.kind) list all.0) (each_in n places lists all.1)

-- as many as there are cards
cards_held : (shape : Shape) (table : Table) → IsSound shape table →
    length (flat_map cards_at (zip shape.places table.lists)) ≡ length shape.faces
cards_held shape table sound =
    let n = length shape.faces in
    let ats = zip shape.places table.lists in
    let cards = flat_map cards_at ats in
    sym (passing-all cards)
    ∙ each_once (λ id. true) cards n
    (each_in n shape.places table.lists (recursion_from_All (All (λ id. id < n)) table.lists sound.ids))
    (λ id less. sym (times_counted id ats) ∙ sound.once id less)
    ∙ passing-all (below n) ∙ length-range_with_len 0 n

-- keys of at most so many bytes, one behind the other
keys_long : {X : Type 0} (key : X → List ℕ) (n : ℕ) → ((x : X) → length (key x) ≤ n) → (xs : List X) →
    length (flat_map key xs) ≤ length xs * n
keys_long key n long xs =
    let sum = length-flat_map key xs in
    let le = sum_by-le (λ x. length (key x)) n xs (λ k d less. long (get_or xs k d)) in
    omega (arith, sum, le)

control_long : (control : Control) → length (control_key control) ≤ 6 + length control.made * 4 + length control.frames * 5
control_long control =
    let counts = flat_map (to_le_bytes w32) control.made in
    let frames = flat_map frame_key control.frames in
    let made = keys_long (to_le_bytes w32) 4 (λ n. omega arith) control.made in
    let frame_bytes = keys_long frame_key 5 (λ frame. omega arith) control.frames in
    let both = length-append counts (length control.frames ∷ frames) in
    omega (arith, made, frame_bytes, both)

module _ (shape : Shape) (marks : List (List ℕ)) (seat : ℕ) where
  faces_long : (ids : List ℕ) → length (sight_key (sight_of shape marks seat true ids)) ≤ 2 + length ids * 2
  faces_long ids =
      let numbers = map (face_number shape) ids in
      let long = keys_long (to_le_bytes w16) 2 (λ n. omega arith) numbers in
      let many = length-map ids (face_number shape) in
      omega (arith, long, many)

  known_long : (ids : List ℕ) → length (sight_key (sight_of shape marks seat false ids)) ≤ 4 + length ids * 4
  known_long ids =
      let os = map (known_face shape marks seat) ids in
      let known = known_places 0 os in
      let long = keys_long place_key 4 (λ place. omega arith) known in
      let few = places-few 0 os in
      let many = length-map ids (known_face shape marks seat) in
      omega (arith, long, few, many)

  -- two bytes for a reference, and at most four for a card
  sight_long : (m seen : Bool) (ids : List ℕ) → (m ≡ true → seen ≡ true) →
      length (sight_key (sight_of shape marks seat seen ids)) ≤ 4 + cond m (length ids) 0 * 2 + length (cond m [] ids) * 4
  sight_long true true ids sees = let long = faces_long ids in omega (arith, long)
  sight_long true false ids sees = absurd (true≢false (sym (sees refl)))
  sight_long false true ids sees = let long = faces_long ids in omega (arith, long)
  sight_long false false ids sees = let long = known_long ids in omega (arith, long)

  sights_long : (places : List Place) (lists : List (List ℕ)) → length lists ≡ length places →
      length (flat_map sight_key (sights_of shape marks seat places lists))
      ≤ length places * 4 + sum_by references_in (zip places lists) * 2 + length (flat_map cards_at (zip places lists)) * 4
  sights_long [] [] fit = omega arith
  sights_long [] (ids ∷ lists) fit = absurd (omega (arith, fit))
  sights_long (place ∷ places) [] fit = absurd (omega (arith, fit))
  sights_long (place ∷ places) (ids ∷ lists) fit =
      let sight = sight_of shape marks seat (sees_place shape seat (Some place)) ids in
      let here = sight_long (is_mem place.kind) (sees_place shape seat (Some place)) ids
      (mem_kind shape seat place.kind place.class place.owner) in
      let rest = sights_long places lists (omega (arith, fit)) in
      let bytes = length-append (sight_key sight) (flat_map sight_key (sights_of shape marks seat places lists)) in
      let references = sum_by-cons references_in (place, ids) (zip places lists) in
      let cards = length-append (cards_at (place, ids)) (flat_map cards_at (zip places lists)) in
      omega (arith, here, rest, bytes, references, cards)

pub keys_are_short : KeysAreShort
keys_are_short shape seat table control limits sound few made =
    let sights = flat_map sight_key (sights_of shape table.marks seat shape.places table.lists) in
    let numbers = flat_map number_key table.numbers in
    let beside = control_long control in
    let values = keys_long number_key 4 (λ number. omega arith) table.numbers in
    let seen = sights_long shape table.marks seat shape.places table.lists sound.locations in
    let cards = cards_held shape table sound in
    let first = length-append (control_key control) (numbers ++ sights) in
    let second = length-append numbers sights in
    omega (
      arith,
      beside,
      values,
      seen,
      cards,
      first,
      second,
      few,
      made,
      sound.amounts,
      sound.together,
      limits.players,
      limits.locations,
      limits.numbers,
      limits.cards,
    )
