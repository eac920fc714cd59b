-- What is seen of a sound table may stand in a log.
use Rattle.std.proofs.Common.{◌≡◌, ℕ, ◌<◌, ◌≤◌, ◌&&◌, if◌then◌else◌, Bool, true, false, true≢false, List, [], ◌∷◌, length, map, Some, None, ◌⊎◌, inl, inr, refl, sym, ap, ap₂, ◌∙◌, arith}
use Rattle.std.specs.Prelude.{All}
use Rattle.std.specs.List.{AllByRecursion, position_or_len}
use Rattle.std.proofs.lemmas.Bool.{cases_lt, lt-ltb}
use Rattle.std.proofs.lemmas.Bool.Decides.{Decides-eqb}
use Rattle.std.proofs.lemmas.List.Elements.{recursion_from_All}
use Rattle.std.proofs.lemmas.List.Sums.{fails_before_first}
use Rattle.rc_play_spec.specs.Shape.{Place, Shape, face_eq, face_at, face_number}
use Rattle.rc_play_spec.specs.Sees.{sees_place}
use Rattle.rc_play_spec.specs.Table.{Table, IsSound, is_marked}
use Rattle.rc_play_spec.specs.View.{known_face, sight_of, sights_of}
use Rattle.rc_play_spec.proofs.Faces.{face_eq_self, same_face}
use Rattle.rc_log_spec.specs.Fields.{is_face}
use Rattle.rc_log_spec.specs.Log.{IsCard, IsSight, ArePlaces}

module _ (shape : Shape) where
  abbrev IsId : ℕ → Type 0
  IsId id = id < length shape.faces

  -- a card's own face is found, if no earlier one is
  number_within : (id : ℕ) → IsId id → (face_number shape id < length shape.faces) ⊎ (length shape.faces ≤ face_number shape id) → IsId (face_number shape id)
  number_within id less (inl found) = found
  number_within id less (inr none) =
      absurd (true≢false (sym (face_eq_self (face_at shape id)) ∙ fails_before_first (face_eq (face_at shape id)) shape.faces id [] (omega (arith, less, none))))

  is_number : (id : ℕ) → IsId id → is_face shape (face_number shape id) ≡ true
  is_number id less =
      let n = face_number shape id in
      let again : face_number shape n ≡ n = ap (λ face. position_or_len (face_eq face) shape.faces) (same_face shape id) in
      ap₂ ◌&&◌ (lt-ltb n (length shape.faces) (number_within id less (cases_lt n (length shape.faces)))) ((Decides-eqb (face_number shape n) n).1 again)

  faces_count : (ids : List ℕ) → AllByRecursion IsId ids → AllByRecursion (IsCard shape true) (map (λ n. Some n) (map (face_number shape) ids))
  faces_count [] all = tt
  faces_count (id ∷ ids) all = (is_number id all.0, faces_count ids all.1)

  card_counts : (known : Bool) (id : ℕ) → IsId id → IsCard shape false (if known then Some (face_number shape id) else None)
  card_counts true id less = is_number id less
  card_counts false id less = refl

  cards_count : (marks : List (List ℕ)) (seat : ℕ) (ids : List ℕ) → AllByRecursion IsId ids → AllByRecursion (IsCard shape false) (map (known_face shape marks seat) ids)
  cards_count marks seat [] all = tt
  cards_count marks seat (id ∷ ids) all = (card_counts (is_marked marks seat id) id all.0, cards_count marks seat ids all.1)

  sight_counts : (marks : List (List ℕ)) (seat : ℕ) (seen : Bool) (ids : List ℕ) → AllByRecursion IsId ids → IsSight shape seen (sight_of shape marks seat seen ids)
  sight_counts marks seat true ids all = (tt, faces_count ids all)
  sight_counts marks seat false ids all = (tt, cards_count marks seat ids all)

  sights_count : (marks : List (List ℕ)) (seat : ℕ) (places : List Place) (lists : List (List ℕ)) → length lists ≡ length places →
      AllByRecursion (All IsId) lists → ArePlaces shape seat places (sights_of shape marks seat places lists)
  sights_count marks seat [] [] same all = tt
  sights_count marks seat [] (ids ∷ lists) same all = absurd (omega (arith, same))
  sights_count marks seat (place ∷ places) [] same all = absurd (omega (arith, same))
  sights_count marks seat (place ∷ places) (ids ∷ lists) same all = (
    sight_counts marks seat (sees_place shape seat (Some place)) ids (recursion_from_All IsId ids all.0),
    sights_count marks seat places lists (omega (arith, same)) all.1,
  )

  pub table_counts : (seat : ℕ) (table : Table) → IsSound shape table → ArePlaces shape seat shape.places (sights_of shape table.marks seat shape.places table.lists)
  table_counts seat table sound = sights_count table.marks seat shape.places table.lists sound.locations (recursion_from_All (All IsId) table.lists sound.ids)
