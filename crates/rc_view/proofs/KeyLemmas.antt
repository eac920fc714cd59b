-- The bytes of views tell them apart.
use Rattle.std.proofs.Common.{All, None, ◌≡◌, ℕ, ◌+◌, ◌<◌, ◌≤◌, ◌^◌, Bool, true, false, List, [], ◌∷◌, ◌++◌, length, drop, get_or, Option, Some, ℤ, w16, w32, refl, sym, ap, ap₂, ◌∙◌, subst, arith}
use Rattle.std.specs.Prelude.{flat_map}
use Rattle.std.specs.Int.{to_le_bytes}
use Rattle.std.specs.List.{AllByRecursion}
use Rattle.std.proofs.lemmas.List.{append_assoc, append-nil}
use Rattle.std.proofs.lemmas.List.Elements.{recursion_from_All}
use Rattle.rc_base.specs.Clamp.{IsWithinClamp}
use Rattle.rc_play_spec.specs.Control.{Control, Frame}
use Rattle.rc_play_spec.specs.Shape.{Place, Shape}
use Rattle.rc_play_spec.specs.Sees.{sees_place}
use Rattle.rc_play_spec.specs.View.{Sight, with_faces, partly, View}
use Rattle.rc_view.specs.Key.{number_key, frame_key, control_key, known_places, place_key, sight_key, key_of}
use Rattle.rc_view.specs.Laws.{HasFrameKey, HasControlKey, IsSightIn, AreSightsIn, IsViewIn, KeysTellViews}
use Rattle.rc_view.proofs.Telling.{Tells, two_tell, four_tell, numbers_tell, lists_tell, none_told, direction_told}

abbrev frame_of : ℕ → ℕ → Bool → Option ℕ → Frame
frame_of stage member back named = record { stage = stage; member = member; back = back; named = named }

frames_equal : (a b : Frame) → a.stage ≡ b.stage → a.member ≡ b.member → a.back ≡ b.back → a.named ≡ b.named → a ≡ b
frames_equal a b stage member back named =
    ap₂ (λ s m. frame_of s m a.back a.named) stage member ∙ ap₂ (λ d n. frame_of b.stage b.member d n) back named

frames_tell : (a b : Frame) → HasFrameKey a → HasFrameKey b → Tells frame_key a b
frames_tell a b has has' r s e =
    let stage = two_tell a.stage b.stage has.stage has'.stage _ _ e in (
      frames_equal a b stage.0 (ap (λ bytes. get_or bytes 0 0) stage.1)
          (direction_told a.back b.back (ap (λ bytes. get_or bytes 1 0) stage.1))
          (none_told a.named b.named has.named has'.named (ap (λ bytes. get_or bytes 2 0) stage.1)),
      ap (drop 3) stage.1,
    )

abbrev control_of : Option ℕ → List Frame → ℕ → List ℕ → Control
control_of site frames turn made = record { site = site; frames = frames; turn = turn; made = made }

controls_equal : (a b : Control) → a.site ≡ b.site → a.frames ≡ b.frames → a.turn ≡ b.turn → a.made ≡ b.made → a ≡ b
controls_equal a b site frames turn made =
    ap₂ (λ s f. control_of s f a.turn a.made) site frames ∙ ap₂ (λ t m. control_of b.site b.frames t m) turn made

controls_tell : (a b : Control) → HasControlKey a → HasControlKey b → length a.made ≡ length b.made → Tells control_key a b
controls_tell a b has has' same r s e =
    let made : Control → List ℕ = λ c. flat_map (to_le_bytes w32) c.made in
    let open_frames : Control → List ℕ = λ c. length c.frames ∷ flat_map frame_key c.frames in
    let site = none_told a.site b.site has.site has'.site (ap (λ bytes. get_or bytes 0 0) e) in
    let turn = four_tell a.turn b.turn has.turn has'.turn (made a ++ open_frames a ++ r) (made b ++ open_frames b ++ s) (ap (drop 1) e) in
    let counts = lists_tell (to_le_bytes w32) (λ n. n < 2 ^ 32) four_tell a.made b.made same (recursion_from_All (λ n. n < 2 ^ 32) a.made has.made)
    (recursion_from_All (λ n. n < 2 ^ 32) b.made has'.made) (open_frames a ++ r) (open_frames b ++ s)
    (sym (append_assoc (made a) (open_frames a) r) ∙ turn.1 ∙ append_assoc (made b) (open_frames b) s) in
    let frames = lists_tell frame_key HasFrameKey frames_tell a.frames b.frames (ap (λ bytes. get_or bytes 0 0) counts.1)
    (recursion_from_All HasFrameKey a.frames has.frames) (recursion_from_All HasFrameKey b.frames has'.frames) r s (ap (drop 1) counts.1) in
    (controls_equal a b site frames.0 turn.0 counts.0, frames.1)

faces_tell : (xs ys : List ℕ) → length xs ≤ 512 → length ys ≤ 512 → AllByRecursion (λ n. n < 2 ^ 16) xs → AllByRecursion (λ n. n < 2 ^ 16) ys →
    (r s : List ℕ) → sight_key (with_faces xs) ++ r ≡ sight_key (with_faces ys) ++ s → (xs ≡ ys) × (r ≡ s)
faces_tell xs ys few few' all all' r s e =
    let long = two_tell (length xs) (length ys) (omega (arith, few)) (omega (arith, few')) (flat_map (to_le_bytes w16) xs ++ r) (flat_map (to_le_bytes w16) ys ++ s) e in
    lists_tell (to_le_bytes w16) (λ n. n < 2 ^ 16) two_tell xs ys long.0 all all' r s long.1

-- known places
places_tell : (a b : ℕ × ℕ) → (a.0 < 2 ^ 16) × (a.1 < 2 ^ 16) → (b.0 < 2 ^ 16) × (b.1 < 2 ^ 16) → Tells place_key a b
places_tell a b is is' r s e =
    let first = two_tell a.0 b.0 is.0 is'.0 (to_le_bytes w16 a.1 ++ r) (to_le_bytes w16 b.1 ++ s)
    (sym (append_assoc (to_le_bytes w16 a.0) (to_le_bytes w16 a.1) r) ∙ e ∙ append_assoc (to_le_bytes w16 b.0) (to_le_bytes w16 b.1) s) in
    let second = two_tell a.1 b.1 is.1 is'.1 r s first.1 in
    (ap₂ (λ x y. (x, y)) first.0 second.0, second.1)

places-within : (at end : ℕ) (os : List (Option ℕ)) → at + length os ≤ end → AllByRecursion (λ known. (at ≤ known.0) × (known.0 < end)) (known_places at os)
places-within at end [] le = tt
places-within at end (Some f ∷ os) le = ((omega arith, omega (arith, le)), later at end (known_places (at + 1) os) (places-within (at + 1) end os (omega (arith, le)))) where
  later : (at end : ℕ) (xs : List (ℕ × ℕ)) → AllByRecursion (λ known. (at + 1 ≤ known.0) × (known.0 < end)) xs → AllByRecursion (λ known. (at ≤ known.0) × (known.0 < end)) xs
  later at end [] all = tt
  later at end (x ∷ xs) all = let l = all.0.0 in ((omega (arith, l), all.0.1), later at end xs all.1)
places-within at end (None ∷ os) le = later at end (known_places (at + 1) os) (places-within (at + 1) end os (omega (arith, le))) where
  later : (at end : ℕ) (xs : List (ℕ × ℕ)) → AllByRecursion (λ known. (at + 1 ≤ known.0) × (known.0 < end)) xs → AllByRecursion (λ known. (at ≤ known.0) × (known.0 < end)) xs
  later at end [] all = tt
  later at end (x ∷ xs) all = let l = all.0.0 in ((omega (arith, l), all.0.1), later at end xs all.1)

-- a list whose first place isn't known doesn't begin with it
not-first : (at end f : ℕ) (rest xs : List (ℕ × ℕ)) → AllByRecursion (λ known. (at + 1 ≤ known.0) × (known.0 < end)) xs → (at, f) ∷ rest ≡ xs → ⊥
not-first at end f rest [] all e = let h : (at, f) ∷ rest ≡ [] = e in absurd (cc)
not-first at end f rest (x ∷ xs) all e =
    let first : at ≡ x.0 = ap (λ ys. (get_or {A = ℕ × ℕ} ys 0 (0, 0)).0) e in
    let l = all.0.0 in omega (arith, first, l)

places_told : (at : ℕ) (os os' : List (Option ℕ)) → length os ≡ length os' → known_places at os ≡ known_places at os' → os ≡ os'
places_told at [] [] len e = refl
places_told at [] (o' ∷ os') len e = absurd (omega (arith, len))
places_told at (o ∷ os) [] len e = absurd (omega (arith, len))
places_told at (Some f ∷ os) (Some f' ∷ os') len e =
    let first : f ≡ f' = ap (λ ys. (get_or {A = ℕ × ℕ} ys 0 (0, 0)).1) e in
    ap₂ ◌∷◌ (ap Some first) (places_told (at + 1) os os' (omega (arith, len)) (ap (drop 1) e))
places_told at (Some f ∷ os) (None ∷ os') len e =
    absurd (not-first at (at + 1 + length os') f (known_places (at + 1) os) (known_places (at + 1) os') (places-within (at + 1) (at + 1 + length os') os' (omega arith)) e)
places_told at (None ∷ os) (Some f' ∷ os') len e =
    absurd (not-first at (at + 1 + length os) f' (known_places (at + 1) os') (known_places (at + 1) os) (places-within (at + 1) (at + 1 + length os) os (omega arith)) (sym e))
places_told at (None ∷ os) (None ∷ os') len e = ap (λ rest. None ∷ rest) (places_told (at + 1) os os' (omega (arith, len)) e)

places-fit : (os : List (Option ℕ)) → length os ≤ 512 → AllByRecursion (λ known. known.1 < 2 ^ 16) (known_places 0 os) →
    AllByRecursion (λ known. (known.0 < 2 ^ 16) × (known.1 < 2 ^ 16)) (known_places 0 os)
places-fit os few all = both (known_places 0 os) (places-within 0 512 os (omega (arith, few))) all where
  both : (xs : List (ℕ × ℕ)) → AllByRecursion (λ known. (0 ≤ known.0) × (known.0 < 512)) xs → AllByRecursion (λ known. known.1 < 2 ^ 16) xs →
      AllByRecursion (λ known. (known.0 < 2 ^ 16) × (known.1 < 2 ^ 16)) xs
  both [] all all' = tt
  both (x ∷ xs) all all' = let l = all.0.1 in ((omega (arith, l), all'.0), both xs all.1 all'.1)

pub places-few : (at : ℕ) (os : List (Option ℕ)) → length (known_places at os) ≤ length os
places-few at [] = omega arith
places-few at (Some f ∷ os) = let h = places-few (at + 1) os in omega (arith, h)
places-few at (None ∷ os) = let h = places-few (at + 1) os in omega (arith, h)

known_tell : (os os' : List (Option ℕ)) → length os ≤ 512 → length os' ≤ 512 → All (λ known. known.1 < 2 ^ 16) (known_places 0 os) →
    All (λ known. known.1 < 2 ^ 16) (known_places 0 os') → (r s : List ℕ) → sight_key (partly os) ++ r ≡ sight_key (partly os') ++ s → (os ≡ os') × (r ≡ s)
known_tell os os' few few' all all' r s e =
    let places = known_places 0 os in
    let places' = known_places 0 os' in
    let count : List (ℕ × ℕ) → List ℕ = λ ps. to_le_bytes w16 (length ps) ++ flat_map place_key ps in
    let long = two_tell (length os) (length os') (omega (arith, few)) (omega (arith, few')) (count places ++ r) (count places' ++ s)
    (sym (append_assoc (to_le_bytes w16 (length os)) (count places) r) ∙ e ∙ append_assoc (to_le_bytes w16 (length os')) (count places') s) in
    let fewer = places-few 0 os in
    let fewer' = places-few 0 os' in
    let many = two_tell (length places) (length places') (omega (arith, few, fewer)) (omega (arith, few', fewer')) (flat_map place_key places ++ r) (flat_map place_key places' ++ s)
    (sym (append_assoc (to_le_bytes w16 (length places)) (flat_map place_key places) r) ∙ long.1
    ∙ append_assoc (to_le_bytes w16 (length places')) (flat_map place_key places') s) in
    let known = lists_tell place_key (λ known. (known.0 < 2 ^ 16) × (known.1 < 2 ^ 16)) places_tell places places' many.0
    (places-fit os few (recursion_from_All (λ known. known.1 < 2 ^ 16) places all)) (places-fit os' few' (recursion_from_All (λ known. known.1 < 2 ^ 16) places' all')) r s many.1 in
    (places_told 0 os os' long.0 known.0, known.1)

sight_tells : (seen : Bool) (a b : Sight) → IsSightIn seen a → IsSightIn seen b → Tells sight_key a b
sight_tells true (with_faces xs) (with_faces ys) is is' r s e =
    let h = faces_tell xs ys is.0 is'.0 (recursion_from_All (λ n. n < 2 ^ 16) xs is.1) (recursion_from_All (λ n. n < 2 ^ 16) ys is'.1) r s e in
    (ap with_faces h.0, h.1)
sight_tells true (with_faces xs) (partly os) is is' r s e = absurd is'
sight_tells true (partly os) b is is' r s e = absurd is
sight_tells false (with_faces xs) b is is' r s e = absurd is
sight_tells false (partly os) (with_faces ys) is is' r s e = absurd is'
sight_tells false (partly os) (partly os') is is' r s e =
    let h = known_tell os os' is.0 is'.0 is.1 is'.1 r s e in (ap partly h.0, h.1)

module _ (shape : Shape) (seat : ℕ) where
  sights_tell : (places : List Place) (xs ys : List Sight) → AreSightsIn shape seat places xs → AreSightsIn shape seat places ys → Tells (flat_map sight_key) xs ys
  sights_tell [] [] [] are are' r s e = (refl, e)
  sights_tell [] [] (y ∷ ys) are are' r s e = absurd are'
  sights_tell [] (x ∷ xs) ys are are' r s e = absurd are
  sights_tell (place ∷ places) [] ys are are' r s e = absurd are
  sights_tell (place ∷ places) (x ∷ xs) [] are are' r s e = absurd are'
  sights_tell (place ∷ places) (x ∷ xs) (y ∷ ys) are are' r s e =
      let first = sight_tells (sees_place shape seat (Some place)) x y are.0 are'.0 (flat_map sight_key xs ++ r) (flat_map sight_key ys ++ s)
      (sym (append_assoc (sight_key x) (flat_map sight_key xs) r) ∙ e ∙ append_assoc (sight_key y) (flat_map sight_key ys) s) in
      let rest = sights_tell places xs ys are.1 are'.1 r s first.1 in
      (ap₂ ◌∷◌ first.0 rest.0, rest.1)

abbrev view_with : ℕ → Control → List ℤ → List Sight → View
view_with seat control numbers sights = record { seat = seat; control = control; numbers = numbers; sights = sights }

pub views_equal : (a b : View) → a.seat ≡ b.seat → a.control ≡ b.control → a.numbers ≡ b.numbers → a.sights ≡ b.sights → a ≡ b
views_equal a b seat control numbers sights =
    ap₂ (λ s c. view_with s c a.numbers a.sights) seat control ∙ ap₂ (λ n x. view_with b.seat b.control n x) numbers sights

views_told : (shape : Shape) (a b : View) → IsViewIn shape a → IsViewIn shape b → key_of a ≡ key_of b → a ≡ b
views_told shape a b is is' e =
    let numbers_of : View → List ℕ = λ v. flat_map number_key v.numbers in
    let sights_of : View → List ℕ = λ v. flat_map sight_key v.sights in
    let seat : a.seat ≡ b.seat = ap (λ bytes. get_or bytes 0 0) e in
    let control = controls_tell a.control b.control is.control is'.control (is.each_made ∙ sym is'.each_made) (numbers_of a ++ sights_of a)
    (numbers_of b ++ sights_of b) (ap (drop 1) e) in
    let numbers = lists_tell number_key IsWithinClamp numbers_tell a.numbers b.numbers (is.each_number ∙ sym is'.each_number)
    (recursion_from_All IsWithinClamp a.numbers is.clamped) (recursion_from_All IsWithinClamp b.numbers is'.clamped) (sights_of a) (sights_of b) control.1 in
    let are = subst (λ n. AreSightsIn shape n shape.places b.sights) (sym seat) is'.sights in
    let sights = sights_tell shape a.seat shape.places a.sights b.sights is.sights are [] []
    (append-nil (sights_of a) ∙ numbers.1 ∙ sym (append-nil (sights_of b))) in
    views_equal a b seat control.0 numbers.0 sights.0

pub keys_tell_views : KeysTellViews
keys_tell_views shape a b is is' = (views_told shape a b is is', ap key_of)
