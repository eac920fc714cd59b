-- What is seen of a sound table has the table's shape, and a key.
use Rattle.std.proofs.Common.{◌≡◌, ℕ, ◌+◌, ◌<◌, ◌≤◌, ◌^◌, not, if◌then◌else◌, Bool, true, false, List, [], ◌∷◌, length, map, Option, Some, None, arith}
use Rattle.std.specs.List.{AllByRecursion}
use Rattle.std.proofs.lemmas.List.{length-map}
use Rattle.std.proofs.lemmas.List.Elements.{All-from_recursion, recursion_from_All, All-from_get_or}
use Rattle.std.proofs.lemmas.List.Sums.{prefix_len-le-length}
use Rattle.rc_play_spec.specs.Control.{Control}
use Rattle.rc_play_spec.specs.Shape.{Place, Shape, face_eq, face_at, face_number}
use Rattle.rc_play_spec.specs.Sees.{sees_place}
use Rattle.rc_play_spec.specs.Table.{Table, IsSound, is_marked}
use Rattle.rc_play_spec.specs.View.{Sight, with_faces, partly, known_face, sight_of, sights_of, view_of}
use Rattle.rc_table.specs.Shape.{IsShape}
use Rattle.rc_table.proofs.Held.{few_in_list}
use Rattle.rc_view.specs.Key.{IsShort, HasKey, known_places}
use Rattle.rc_view.specs.Laws.{HasControlKey, IsSightIn, AreSightsIn, IsViewIn}

module _ (shape : Shape) (limits : IsShape shape) where
  number_below : (id : ℕ) → face_number shape id < 2 ^ 16
  number_below id =
      let few = prefix_len-le-length (λ face. not (face_eq (face_at shape id) face)) shape.faces in
      omega (arith, few, limits.cards)

  numbers_below : (ids : List ℕ) → AllByRecursion (λ n. n < 2 ^ 16) (map (face_number shape) ids)
  numbers_below [] = tt
  numbers_below (id ∷ ids) = (number_below id, numbers_below ids)

  known_step : (b : Bool) (at id : ℕ) (os : List (Option ℕ)) → AllByRecursion (λ known. known.1 < 2 ^ 16) (known_places (at + 1) os) →
      AllByRecursion (λ known. known.1 < 2 ^ 16) (known_places at ((if b then Some (face_number shape id) else None) ∷ os))
  known_step true at id os rest = (number_below id, rest)
  known_step false at id os rest = rest

  known_below : (marks : List (List ℕ)) (seat at : ℕ) (ids : List ℕ) →
      AllByRecursion (λ known. known.1 < 2 ^ 16) (known_places at (map (known_face shape marks seat) ids))
  known_below marks seat at [] = tt
  known_below marks seat at (id ∷ ids) =
      known_step (is_marked marks seat id) at id (map (known_face shape marks seat) ids) (known_below marks seat (at + 1) ids)

  sight_in : (marks : List (List ℕ)) (seat : ℕ) (seen : Bool) (ids : List ℕ) → length ids ≤ 512 → IsSightIn seen (sight_of shape marks seat seen ids)
  sight_in marks seat true ids few =
      let long = length-map ids (face_number shape) in
      (omega (arith, long, few), All-from_recursion (λ n. n < 2 ^ 16) (map (face_number shape) ids) (numbers_below ids))
  sight_in marks seat false ids few =
      let long = length-map ids (known_face shape marks seat) in
      (omega (arith, long, few), All-from_recursion (λ known. known.1 < 2 ^ 16) (known_places 0 (map (known_face shape marks seat) ids)) (known_below marks seat 0 ids))

  sights_in : (marks : List (List ℕ)) (seat : ℕ) (places : List Place) (lists : List (List ℕ)) → length lists ≡ length places →
      AllByRecursion (λ ids. length ids ≤ 512) lists → AreSightsIn shape seat places (sights_of shape marks seat places lists)
  sights_in marks seat [] [] same few = tt
  sights_in marks seat [] (ids ∷ lists) same few = absurd (omega (arith, same))
  sights_in marks seat (place ∷ places) [] same few = absurd (omega (arith, same))
  sights_in marks seat (place ∷ places) (ids ∷ lists) same few =
      (sight_in marks seat (sees_place shape seat (Some place)) ids few.0, sights_in marks seat places lists (omega (arith, same)) few.1)

  table_sights_in : (seat : ℕ) (table : Table) → IsSound shape table → AreSightsIn shape seat shape.places (sights_of shape table.marks seat shape.places table.lists)
  table_sights_in seat table sound =
      sights_in table.marks seat shape.places table.lists sound.locations
      (recursion_from_All (λ ids. length ids ≤ 512) table.lists
      (All-from_get_or (λ ids. length ids ≤ 512) table.lists [] (λ loc within. few_in_list shape table sound limits loc)))

short_sight : (seen : Bool) (sight : Sight) → IsSightIn seen sight → IsShort sight
short_sight true (with_faces numbers) is = is.0
short_sight true (partly os) is = absurd is
short_sight false (with_faces numbers) is = absurd is
short_sight false (partly os) is = is.0

short_sights : (shape : Shape) (seat : ℕ) (places : List Place) (sights : List Sight) → AreSightsIn shape seat places sights → AllByRecursion IsShort sights
short_sights shape seat [] [] are = tt
short_sights shape seat [] (sight ∷ sights) are = absurd are
short_sights shape seat (place ∷ places) [] are = absurd are
short_sights shape seat (place ∷ places) (sight ∷ sights) are =
    (short_sight (sees_place shape seat (Some place)) sight are.0, short_sights shape seat places sights are.1)

pub view_is_in : (shape : Shape) (seat : ℕ) (table : Table) (control : Control) → IsShape shape → IsSound shape table → HasControlKey control →
    length control.made ≡ shape.players → IsViewIn shape (view_of shape seat table control)
view_is_in shape seat table control limits sound has each = record {
  control = has;
  each_made = each;
  each_number = sound.amounts;
  clamped = sound.clamped;
  sights = table_sights_in shape limits seat table sound;
}

pub view_has_key : (shape : Shape) (seat : ℕ) (table : Table) (control : Control) → IsShape shape → IsSound shape table →
    HasKey (view_of shape seat table control)
view_has_key shape seat table control limits sound = record {
  numbers = sound.clamped;
  sights = let sights = sights_of shape table.marks seat shape.places table.lists in
      All-from_recursion IsShort sights (short_sights shape seat shape.places sights (table_sights_in shape limits seat table sound));
}
