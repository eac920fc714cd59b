-- Views are equal exactly where states are alike.
use Rattle.std.proofs.Common.{◌≡◌, ℕ, zero, suc, Bool, true, false, List, [], ◌∷◌, length, map, slice_get, Option, Some, None, if◌then◌else◌, refl, sym, ap, ap₂, ◌∙◌, true≢false}
use Rattle.std.specs.Prelude.{option_map}
use Rattle.std.proofs.lemmas.List.{length-map}
use Rattle.std.proofs.lemmas.Option.{slice_get-map}
use Rattle.rc_base.specs.Deck.{Face}
use Rattle.std.specs.List.{position_or_len}
use Rattle.rc_play_spec.specs.Control.{Control}
use Rattle.rc_play_spec.specs.Shape.{Place, Shape, face_eq, face_at, face_number}
use Rattle.rc_play_spec.specs.Sees.{sees_place}
use Rattle.rc_play_spec.specs.Table.{Table, is_marked}
use Rattle.rc_play_spec.specs.View.{Sight, with_faces, partly, known_face, sight_of, sights_of, view_of}
use Rattle.rc_play_spec.specs.Alike.{face_in, marked_face, marked_in, IsAlike}
use Rattle.rc_play_spec.proofs.Faces.{same_face}

-- lists with the same items in the same places
same_list : {X : Type 0} (xs ys : List X) → ((k : ℕ) → slice_get xs k ≡ slice_get ys k) → xs ≡ ys
same_list [] [] e = refl
same_list [] (y ∷ ys) e = let h : None ≡ Some y = e 0 in absurd (cc)
same_list (x ∷ xs) [] e = let h : Some x ≡ None = e 0 in absurd (cc)
same_list (x ∷ xs) (y ∷ ys) e =
    let h : Some x ≡ Some y = e 0 in
    let same : x ≡ y = cc in
    ap₂ ◌∷◌ same (same_list xs ys (λ k. e (suc k)))

module _ (shape : Shape) (seat : ℕ) where
  abbrev face_of : ℕ → Face
  face_of id = face_at shape id

  -- what is seen of the list of a location
  abbrev sight_at : List (List ℕ) → Option Place → List ℕ → Sight
  sight_at marks p ids = sight_of shape marks seat (sees_place shape seat p) ids

  get_sight : (marks : List (List ℕ)) (ps : List Place) (lists : List (List ℕ)) (k : ℕ) →
      slice_get (sights_of shape marks seat ps lists) k ≡ option_map (sight_at marks (slice_get ps k)) (slice_get lists k)
  get_sight marks ps [] k = refl
  get_sight marks [] (ids ∷ lists) zero = refl
  get_sight marks [] (ids ∷ lists) (suc k) = get_sight marks [] lists k
  get_sight marks (p ∷ ps) (ids ∷ lists) zero = refl
  get_sight marks (p ∷ ps) (ids ∷ lists) (suc k) = get_sight marks ps lists k

  -- equal faces have equal numbers, and the other way round
  number_of_face : (o o' : Option ℕ) → option_map face_of o ≡ option_map face_of o' → option_map (face_number shape) o ≡ option_map (face_number shape) o'
  number_of_face o o' e = to_number o ∙ ap (option_map (λ face. position_or_len (face_eq face) shape.faces)) e ∙ sym (to_number o') where
    to_number : (o : Option ℕ) → option_map (face_number shape) o ≡ option_map (λ face. position_or_len (face_eq face) shape.faces) (option_map face_of o)
    to_number None = refl
    to_number (Some id) = refl

  face_of_number : (o o' : Option ℕ) → option_map (face_number shape) o ≡ option_map (face_number shape) o' → option_map face_of o ≡ option_map face_of o'
  face_of_number o o' e = sym (to_face o) ∙ ap (option_map face_of) e ∙ to_face o' where
    to_face : (o : Option ℕ) → option_map face_of (option_map (face_number shape) o) ≡ option_map face_of o
    to_face None = refl
    to_face (Some id) = ap Some (same_face shape id)

  same_numbers : (ids ids' : List ℕ) → ((k : ℕ) → face_in shape k (Some ids) ≡ face_in shape k (Some ids')) → map (face_number shape) ids ≡ map (face_number shape) ids'
  same_numbers ids ids' e =
      same_list (map (face_number shape) ids) (map (face_number shape) ids') (λ k.
      slice_get-map (face_number shape) ids k ∙ number_of_face (slice_get ids k) (slice_get ids' k) (e k) ∙ sym (slice_get-map (face_number shape) ids' k))

  same_faces : (ids ids' : List ℕ) → map (face_number shape) ids ≡ map (face_number shape) ids' → (k : ℕ) → face_in shape k (Some ids) ≡ face_in shape k (Some ids')
  same_faces ids ids' e k =
      face_of_number (slice_get ids k) (slice_get ids' k)
      (sym (slice_get-map (face_number shape) ids k) ∙ ap (λ ns. slice_get ns k) e ∙ slice_get-map (face_number shape) ids' k)

  -- of a place that is known or isn't, the number in place of the face, and the other way round
  known_step : (b : Bool) (id : ℕ) → (if b then Some (face_number shape id) else None)
      ≡ option_map (λ face. position_or_len (face_eq face) shape.faces) (if b then Some (face_at shape id) else None)
  known_step true id = refl
  known_step false id = refl

  marked_step : (b : Bool) (id : ℕ) → (if b then Some (face_at shape id) else None) ≡ option_map face_of (if b then Some (face_number shape id) else None)
  marked_step true id = ap Some (sym (same_face shape id))
  marked_step false id = refl

  known_of : (marks : List (List ℕ)) (o : Option ℕ) →
      option_map (known_face shape marks seat) o
      ≡ option_map (option_map (λ face. position_or_len (face_eq face) shape.faces)) (option_map (marked_face shape marks seat) o)
  known_of marks None = refl
  known_of marks (Some id) = ap Some (known_step (is_marked marks seat id) id)

  marked_of : (marks : List (List ℕ)) (o : Option ℕ) →
      option_map (marked_face shape marks seat) o ≡ option_map (option_map face_of) (option_map (known_face shape marks seat) o)
  marked_of marks None = refl
  marked_of marks (Some id) = ap Some (marked_step (is_marked marks seat id) id)

  same_known : (marks marks' : List (List ℕ)) (ids ids' : List ℕ) →
      ((k : ℕ) → marked_in shape marks seat k (Some ids) ≡ marked_in shape marks' seat k (Some ids')) →
      map (known_face shape marks seat) ids ≡ map (known_face shape marks' seat) ids'
  same_known marks marks' ids ids' e =
      same_list (map (known_face shape marks seat) ids) (map (known_face shape marks' seat) ids') (λ k.
      slice_get-map (known_face shape marks seat) ids k ∙ known_of marks (slice_get ids k)
      ∙ ap (option_map (option_map (λ face. position_or_len (face_eq face) shape.faces))) (e k)
      ∙ sym (known_of marks' (slice_get ids' k)) ∙ sym (slice_get-map (known_face shape marks' seat) ids' k))

  same_marked : (marks marks' : List (List ℕ)) (ids ids' : List ℕ) → map (known_face shape marks seat) ids ≡ map (known_face shape marks' seat) ids' →
      (k : ℕ) → marked_in shape marks seat k (Some ids) ≡ marked_in shape marks' seat k (Some ids')
  same_marked marks marks' ids ids' e k =
      marked_of marks (slice_get ids k)
      ∙ ap (option_map (option_map face_of))
      (sym (slice_get-map (known_face shape marks seat) ids k) ∙ ap (λ os. slice_get os k) e ∙ slice_get-map (known_face shape marks' seat) ids' k)
      ∙ sym (marked_of marks' (slice_get ids' k))

  -- of one location
  module _ (marks marks' : List (List ℕ)) where
    same_sight : (b : Bool) (o o' : Option (List ℕ)) → option_map (λ ids. length ids) o ≡ option_map (λ ids. length ids) o' →
        (b ≡ true → (k : ℕ) → face_in shape k o ≡ face_in shape k o') → (b ≡ false → (k : ℕ) → marked_in shape marks seat k o ≡ marked_in shape marks' seat k o') →
        option_map (sight_of shape marks seat b) o ≡ option_map (sight_of shape marks' seat b) o'
    same_sight b None None lengths faces known = refl
    same_sight b None (Some ids') lengths faces known = absurd (cc)
    same_sight b (Some ids) None lengths faces known = absurd (cc)
    same_sight true (Some ids) (Some ids') lengths faces known = ap (λ ns. Some (with_faces ns)) (same_numbers ids ids' (faces refl))
    same_sight false (Some ids) (Some ids') lengths faces known = ap (λ os. Some (partly os)) (same_known marks marks' ids ids' (known refl))

    sight_lengths : (b : Bool) (o o' : Option (List ℕ)) → option_map (sight_of shape marks seat b) o ≡ option_map (sight_of shape marks' seat b) o' →
        option_map (λ ids. length ids) o ≡ option_map (λ ids. length ids) o'
    sight_lengths b None None e = refl
    sight_lengths b None (Some ids') e = absurd (cc)
    sight_lengths b (Some ids) None e = absurd (cc)
    sight_lengths true (Some ids) (Some ids') e =
        let same : map (face_number shape) ids ≡ map (face_number shape) ids' = cc in
        ap Some (sym (length-map ids (face_number shape)) ∙ ap length same ∙ length-map ids' (face_number shape))
    sight_lengths false (Some ids) (Some ids') e =
        let same : map (known_face shape marks seat) ids ≡ map (known_face shape marks' seat) ids' = cc in
        ap Some (sym (length-map ids (known_face shape marks seat)) ∙ ap length same ∙ length-map ids' (known_face shape marks' seat))

    sight_faces : (b : Bool) (o o' : Option (List ℕ)) → option_map (sight_of shape marks seat b) o ≡ option_map (sight_of shape marks' seat b) o' → b ≡ true →
        (k : ℕ) → face_in shape k o ≡ face_in shape k o'
    sight_faces b None None e is k = refl
    sight_faces b None (Some ids') e is k = absurd (cc)
    sight_faces b (Some ids) None e is k = absurd (cc)
    sight_faces true (Some ids) (Some ids') e is k =
        let same : map (face_number shape) ids ≡ map (face_number shape) ids' = cc in same_faces ids ids' same k
    sight_faces false (Some ids) (Some ids') e is k = absurd (true≢false (sym is))

    sight_marks : (b : Bool) (o o' : Option (List ℕ)) → option_map (sight_of shape marks seat b) o ≡ option_map (sight_of shape marks' seat b) o' → b ≡ false →
        (k : ℕ) → marked_in shape marks seat k o ≡ marked_in shape marks' seat k o'
    sight_marks b None None e is k = refl
    sight_marks b None (Some ids') e is k = absurd (cc)
    sight_marks b (Some ids) None e is k = absurd (cc)
    sight_marks false (Some ids) (Some ids') e is k =
        let same : map (known_face shape marks seat) ids ≡ map (known_face shape marks' seat) ids' = cc in same_marked marks marks' ids ids' same k
    sight_marks true (Some ids) (Some ids') e is k = absurd (true≢false is)

  pub equal_views : (table table' : Table) (control control' : Control) → IsAlike shape seat table table' control control' →
      view_of shape seat table control ≡ view_of shape seat table' control'
  equal_views table table' control control' alike =
      let sights = same_list (sights_of shape table.marks seat shape.places table.lists) (sights_of shape table'.marks seat shape.places table'.lists) (λ k.
      get_sight table.marks shape.places table.lists k
      ∙ same_sight table.marks table'.marks (sees_place shape seat (slice_get shape.places k)) (slice_get table.lists k) (slice_get table'.lists k) (alike.lengths k)
      (λ is j. alike.faces k j is) (λ is j. alike.marks k j is)
      ∙ sym (get_sight table'.marks shape.places table'.lists k)) in
      ap₂ (λ c n. record { seat = seat; control = c; numbers = n; sights = sights_of shape table.marks seat shape.places table.lists }) alike.controls alike.numbers
      ∙ ap (λ s. record { seat = seat; control = control'; numbers = table'.numbers; sights = s }) sights

  pub alike_states : (table table' : Table) (control control' : Control) → view_of shape seat table control ≡ view_of shape seat table' control' →
      IsAlike shape seat table table' control control'
  alike_states table table' control control' e =
      let same = λ (k : ℕ).
      sym (get_sight table.marks shape.places table.lists k) ∙ ap (λ view. slice_get view.sights k) e ∙ get_sight table'.marks shape.places table'.lists k in
      record {
        controls = ap (λ view. view.control) e;
        numbers = ap (λ view. view.numbers) e;
        lengths = λ loc. sight_lengths table.marks table'.marks (sees_place shape seat (slice_get shape.places loc)) (slice_get table.lists loc) (slice_get table'.lists loc) (same loc);
        faces = λ loc k is.
            sight_faces table.marks table'.marks (sees_place shape seat (slice_get shape.places loc)) (slice_get table.lists loc) (slice_get table'.lists loc) (same loc) is k;
        marks = λ loc k is.
            sight_marks table.marks table'.marks (sees_place shape seat (slice_get shape.places loc)) (slice_get table.lists loc) (slice_get table'.lists loc) (same loc) is k;
      }
