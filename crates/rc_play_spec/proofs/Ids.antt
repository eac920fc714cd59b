-- The ids that seen card places take are different, and have the faces that are seen there.
use Rattle.std.proofs.Common.{◌≡◌, ℕ, zero, suc, ◌+◌, ◌<◌, ◌≤◌, ◌==◌, Bool, true, false, not, if◌then◌else◌, List, [], ◌∷◌, length, get_or, map, refl, sym, ap, ap₂, ◌∙◌, true≢false, ⊎_elim, arith}
use Rattle.std.specs.Prelude.{count_by, slice_index, All, AllPairs}
use Rattle.std.specs.List.{list_any, position_or_len}
use Rattle.std.proofs.lemmas.Bool.{cases_order}
use Rattle.std.proofs.lemmas.Bool.Decides.{Decides-eqb}
use Rattle.std.proofs.lemmas.List.FromFn.{get_or-range_with_len, length-range_with_len}
use Rattle.std.proofs.lemmas.List.Elements.{All-filter, filter_passes, All-cons, All-nil}
use Rattle.std.proofs.lemmas.List.Kept.{AllPairs-filter}
use Rattle.std.proofs.lemmas.List.Sums.{length-filter}
use Rattle.rc_base.specs.Numbers.{below}
use Rattle.rc_base.specs.Deck.{Face}
use Rattle.rc_play_spec.specs.Shape.{Shape, face_at, face_eq, face_number}
use Rattle.rc_play_spec.specs.Redraw.{ids_of, seen_ids, unused}
use Rattle.rc_play_spec.proofs.Faces.{same_face, face_eq_self}
use Rattle.rc_play_spec.proofs.Counting.{one_if, passing, same, passing-is, none_if, self, some_passes, none_passes, kept, left_out, once_below}

-- an id's face has a number that isn't above it, and this is its own number
first_step : (b : Bool) (n id : ℕ) → n ≤ id → (if not b then 1 + n else zero) ≤ suc id
first_step true n id le = omega arith
first_step false n id le = omega (arith, le)

first_here : (b : Bool) (n : ℕ) → b ≡ true → (if not b then 1 + n else zero) ≤ 0
first_here true n e = omega arith
first_here false n e = absurd (true≢false (sym e))

first_place-le : (x : Face) (faces : List Face) (id : ℕ) → id < length faces → get_or faces id [] ≡ x → position_or_len (face_eq x) faces ≤ id
first_place-le x [] id less is = absurd (omega (arith, less))
first_place-le x (y ∷ faces) zero less is = first_here (face_eq x y) (position_or_len (face_eq x) faces) (ap (face_eq x) is ∙ face_eq_self x)
first_place-le x (y ∷ faces) (suc id) less is =
    first_step (face_eq x y) (position_or_len (face_eq x) faces) id (first_place-le x faces id (omega (arith, less)) is)

pub below_within : (n : ℕ) → All (λ i. i < n) (below n)
below_within n k d less =
    let len = length-range_with_len 0 n in
    let l : k < n = omega (arith, len, less) in
    let e = get_or-range_with_len 0 n k d l in omega (arith, e, l)

pub below_pairs : (n : ℕ) → AllPairs (λ a b. a < b) (below n)
below_pairs n j k d before less =
    let len = length-range_with_len 0 n in
    let l : k < n = omega (arith, len, less) in
    let e = get_or-range_with_len 0 n k d l in
    let e' = get_or-range_with_len 0 n j d (omega (arith, before, l)) in omega (arith, e, e', before)

module _ (shape : Shape) where
  abbrev pub face_no : ℕ → ℕ
  face_no id = face_number shape id

  pub face_no-lt : (id : ℕ) → id < length shape.faces → face_no id < length shape.faces
  face_no-lt id less = let h = first_place-le (face_at shape id) shape.faces id less refl in omega (arith, h, less)

  pub face_no-self : (id : ℕ) → face_no (face_no id) ≡ face_no id
  face_no-self id = ap (λ face. position_or_len (face_eq face) shape.faces) (same_face shape id)

  pub nth-face : (f k : ℕ) → k < length (ids_of shape f) → face_no (slice_index (ids_of shape f) k) ≡ f
  nth-face f k less = (Decides-eqb (face_no (slice_index (ids_of shape f) k)) f).0 (filter_passes (λ id. face_no id == f) (below (length shape.faces)) k 0 less)

  pub nth-lt : (f k : ℕ) → k < length (ids_of shape f) → slice_index (ids_of shape f) k < length shape.faces
  nth-lt f k less = All-filter (λ id. face_no id == f) (λ id. id < length shape.faces) (below (length shape.faces)) (below_within (length shape.faces)) k 0 less

  pub nth-before : (f j k : ℕ) → j < k → k < length (ids_of shape f) → slice_index (ids_of shape f) j < slice_index (ids_of shape f) k
  nth-before f j k before less =
      AllPairs-filter (λ a b. a < b) (λ id. face_no id == f) (below (length shape.faces)) (below_pairs (length shape.faces)) j k 0 before less

  -- an id is at one place among the ids of its face, and among those of no other
  nth-place : (f j k : ℕ) → j < length (ids_of shape f) → k < length (ids_of shape f) → slice_index (ids_of shape f) j ≡ slice_index (ids_of shape f) k → j ≡ k
  nth-place f j k j-less k-less e =
      ⊎_elim (λ is. is)
      (λ r. ⊎_elim
      (λ before. let h = nth-before f j k before k-less in absurd (omega (arith, h, e)))
      (λ before. let h = nth-before f k j before j-less in absurd (omega (arith, h, e))) r)
      (cases_order j k)

  -- there are enough ids of each face
  abbrev pub Fits : List ℕ → List ℕ → Type 0
  Fits before fs = (f : ℕ) → passing (same f) before + passing (same f) fs ≤ length (ids_of shape f)

  pub fits-rest : (before : List ℕ) (f : ℕ) (fs : List ℕ) → Fits before (f ∷ fs) → Fits (f ∷ before) fs
  fits-rest before f fs fits g = let h = fits g in omega (arith, h)

  pub fits-here : (before : List ℕ) (f : ℕ) (fs : List ℕ) → Fits before (f ∷ fs) → count_by (λ g. g == f) before < length (ids_of shape f)
  fits-here before f fs fits =
      let h = fits f in let s = self f in let e = passing-is (same f) before in omega (arith, h, s, e)

  pub seen_ids-faces : (before fs : List ℕ) → Fits before fs → map face_no (seen_ids shape before fs) ≡ fs
  seen_ids-faces before [] fits = refl
  seen_ids-faces before (f ∷ fs) fits =
      ap₂ ◌∷◌ (nth-face f (count_by (λ g. g == f) before) (fits-here before f fs fits))
      (seen_ids-faces (f ∷ before) fs (fits-rest before f fs fits))

  pub seen_ids-within : (before fs : List ℕ) → Fits before fs → All (λ id. id < length shape.faces) (seen_ids shape before fs)
  seen_ids-within before [] fits = All-nil (λ id. id < length shape.faces)
  seen_ids-within before (f ∷ fs) fits =
      All-cons (λ id. id < length shape.faces) (slice_index (ids_of shape f) (count_by (λ g. g == f) before)) (seen_ids shape (f ∷ before) fs)
      (nth-lt f (count_by (λ g. g == f) before) (fits-here before f fs fits))
      (seen_ids-within (f ∷ before) fs (fits-rest before f fs fits))

  -- what was taken before isn't taken again
  module _ (f r : ℕ) (r-less : r < length (ids_of shape f)) where
    pub differs : (f' k : ℕ) → k < length (ids_of shape f') → (f' ≡ f → r < k) → slice_index (ids_of shape f') k ≡ slice_index (ids_of shape f) r → ⊥
    differs f' k k-less after e =
        let is : f' ≡ f = sym (nth-face f' k k-less) ∙ ap face_no e ∙ nth-face f r r-less in
        let l = after is in
        let len = ap (λ g. length (ids_of shape g)) is in
        let e' : slice_index (ids_of shape f) k ≡ slice_index (ids_of shape f) r = ap (λ g. slice_index (ids_of shape g) k) (sym is) ∙ e in
        let place = nth-place f k r (omega (arith, k-less, len)) r-less e' in omega (arith, l, place)

    not_again : (before fs : List ℕ) → Fits before fs → r < passing (same f) before → passing (same (slice_index (ids_of shape f) r)) (seen_ids shape before fs) ≡ 0
    not_again before [] fits taken = refl
    not_again before (g ∷ fs) fits taken =
        let k = count_by (λ h. h == g) before in
        let later : g ≡ f → r < k =
        λ is. let e = ap (λ h. passing (same h) before) is in let c = passing-is (same g) before in omega (arith, taken, e, c) in
        let here = none_if (slice_index (ids_of shape g) k == slice_index (ids_of shape f) r)
        (λ t. differs g k (fits-here before g fs fits) later ((Decides-eqb (slice_index (ids_of shape g) k) (slice_index (ids_of shape f) r)).0 t)) in
        let rest = not_again (g ∷ before) fs (fits-rest before g fs fits) (omega (arith, taken)) in omega (arith, here, rest)

  once_step : (id : ℕ) (before : List ℕ) (f : ℕ) (fs : List ℕ) → Fits before (f ∷ fs) → passing (same id) (seen_ids shape (f ∷ before) fs) ≤ 1 →
      (b : Bool) → (slice_index (ids_of shape f) (count_by (λ g. g == f) before) == id) ≡ b →
      one_if b + passing (same id) (seen_ids shape (f ∷ before) fs) ≤ 1
  once_step id before f fs fits rest true e =
      let k = count_by (λ g. g == f) before in
      let is = (Decides-eqb (slice_index (ids_of shape f) k) id).0 e in
      let s = self f in let c = passing-is (same f) before in
      let none = not_again f k (fits-here before f fs fits) (f ∷ before) fs (fits-rest before f fs fits) (omega (arith, s, c)) in
      let none' = sym (ap (λ i. passing (same i) (seen_ids shape (f ∷ before) fs)) is) ∙ none in omega (arith, none')
  once_step id before f fs fits rest false e = omega (arith, rest)

  seen_ids-once : (id : ℕ) (before fs : List ℕ) → Fits before fs → passing (same id) (seen_ids shape before fs) ≤ 1
  seen_ids-once id before [] fits = omega arith
  seen_ids-once id before (f ∷ fs) fits =
      once_step id before f fs fits (seen_ids-once id (f ∷ before) fs (fits-rest before f fs fits))
      (slice_index (ids_of shape f) (count_by (λ g. g == f) before) == id) refl

  -- each id is among those or among the others
  others_step : (id : ℕ) → id < length shape.faces → (used : List ℕ) → passing (same id) used ≤ 1 → (b : Bool) → list_any (λ other. other == id) used ≡ b →
      passing (same id) used + passing (same id) (unused shape used) ≡ 1
  others_step id less used once true e =
      let some = some_passes (same id) used e in
      let none = left_out (λ i. not (list_any (λ other. other == i) used)) id (ap not e) (below (length shape.faces)) in omega (arith, once, some, none)
  others_step id less used once false e =
      let none = none_passes (same id) used e in
      let rest = kept (λ i. not (list_any (λ other. other == i) used)) id (ap not e) (below (length shape.faces)) in
      let one = once_below id (length shape.faces) less in omega (arith, none, rest, one)

  pub seen_or_other : (fs : List ℕ) → Fits [] fs → (id : ℕ) → id < length shape.faces →
      passing (same id) (seen_ids shape [] fs) + passing (same id) (unused shape (seen_ids shape [] fs)) ≡ 1
  seen_or_other fs fits id less =
      others_step id less (seen_ids shape [] fs) (seen_ids-once id [] fs fits) (list_any (λ other. other == id) (seen_ids shape [] fs)) refl

  pub unused-within : (used : List ℕ) → All (λ id. id < length shape.faces) (unused shape used)
  unused-within used = All-filter (λ id. not (list_any (λ other. other == id) used)) (λ id. id < length shape.faces) (below (length shape.faces)) (below_within (length shape.faces))

  pub ids_of-length : (f : ℕ) → length (ids_of shape f) ≡ passing (λ id. face_no id == f) (below (length shape.faces))
  ids_of-length f = length-filter (λ id. face_no id == f) (below (length shape.faces)) ∙ sym (passing-is (λ id. face_no id == f) (below (length shape.faces)))
