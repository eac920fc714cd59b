-- One location more is filled.
use Rattle.std.proofs.Common.{◌≡◌, ℕ, zero, suc, ◌+◌, ◌<◌, nat_lt, if◌then◌else◌, Bool, false, List, [], ◌∷◌, ◌++◌, length, map, drop, get_or, slice_get, refl, sym, ap, ap₂, ◌∙◌, arith}
use Rattle.std.proofs.lemmas.List.{drop_more, drop-drop, length-append, length-map}
use Rattle.std.proofs.Math.ListN.{get_or-map}
use Rattle.rc_sheet_spec.specs.WellFormed.{is_mem}
use Rattle.rc_play_spec.specs.Shape.{Place, Shape, holds_references}
use Rattle.rc_play_spec.specs.View.{Sight as PureSight, View as PureView, sights_of}
use Rattle.rc_play_spec.specs.Redraw.{mems_of, faces_at, hidden_at, ids_at, seen_faces, hidden_count, filled, peeked_at, peeked}
use Rattle.rc_play_spec.specs.RedrawLaws.{IsViewOfSound}
use Rattle.rc_view.specs.Seen.{sight_seen}
use Rattle.rc_redraw.specs.Hiding.{hiding_from, pattern_of, patterns}
use Rattle.rc_view.specs.declared.sight.Sight.{Sight}

-- what is seen has a part for each location
sights_count : (shape : Shape) (marks : List (List ℕ)) (seat : ℕ) (places : List Place) (lists : List (List ℕ)) → length (sights_of shape marks seat places lists) ≡ length lists
sights_count shape marks seat places [] = refl
sights_count shape marks seat [] (ids ∷ lists) = ap suc (sights_count shape marks seat [] lists)
sights_count shape marks seat (place ∷ places) (ids ∷ lists) = ap suc (sights_count shape marks seat places lists)

pub each_seen : (shape : Shape) (view : PureView) → IsViewOfSound shape view → length view.sights ≡ length shape.places
each_seen shape view of =
    ap (λ v. length v.sights) of.2 ∙ sights_count shape of.0.marks view.seat shape.places of.0.lists ∙ of.1.locations

mem_at : (places : List Place) (i : ℕ) → i < length places → get_or (mems_of places) i false ≡ holds_references (slice_get places i)
mem_at [] i less = absurd (omega (arith, less))
mem_at (p ∷ places) zero less = refl
mem_at (p ∷ places) (suc i) less = mem_at places i (omega (arith, less))

module _ (places : List Place) (sights : List Sight) (i : ℕ) (lengths : length sights ≡ length places) (less : i < length places) (m : Bool) (s : Sight)
    (m-is : m ≡ holds_references (slice_get places i)) (s-is : s ≡ get_or sights i s) where
  abbrev rest-mems : List Bool
  rest-mems = drop (i + 1) (mems_of places)

  abbrev rest-sights : List PureSight
  rest-sights = drop (i + 1) (map sight_seen sights)

  mems-are : drop i (mems_of places) ≡ m ∷ rest-mems
  mems-are =
      let len = length-map places (λ (p : Place). is_mem p.kind) in
      drop_more (mems_of places) i false (omega (arith, less, len)) ∙ ap (λ x. x ∷ rest-mems) (mem_at places i less ∙ sym m-is)

  sights-are : drop i (map sight_seen sights) ≡ sight_seen s ∷ rest-sights
  sights-are =
      let len = length-map sights sight_seen in
      drop_more (map sight_seen sights) i (sight_seen s) (omega (arith, len, less, lengths))
      ∙ ap (λ x. x ∷ rest-sights) (get_or-map sight_seen sights i s ∙ ap sight_seen (sym s-is))

  pub faces-more : seen_faces (drop i (mems_of places)) (drop i (map sight_seen sights)) ≡ faces_at m (sight_seen s) ++ seen_faces rest-mems rest-sights
  faces-more = ap₂ seen_faces mems-are sights-are

  pub filled-more : (seen hidden : List ℕ) (a b : ℕ) →
      filled (drop i (mems_of places)) (drop i (map sight_seen sights)) (drop a seen) (drop b hidden)
      ≡ ids_at m (sight_seen s) (drop a seen) (drop b hidden)
      ∷ filled rest-mems rest-sights (drop (a + length (faces_at m (sight_seen s))) seen) (drop (b + hidden_at m (sight_seen s)) hidden)
  filled-more seen hidden a b =
      ap₂ (λ ms ss. filled ms ss (drop a seen) (drop b hidden)) mems-are sights-are
      ∙ ap₂ (λ x y. ids_at m (sight_seen s) (drop a seen) (drop b hidden) ∷ filled rest-mems rest-sights x y)
      (drop-drop (length (faces_at m (sight_seen s))) a seen) (drop-drop (hidden_at m (sight_seen s)) b hidden)

  pub hiding-more : (loc : ℕ) → hiding_from loc (drop i (mems_of places)) (drop i (map sight_seen sights))
      ≡ (if nat_lt 0 (hidden_at m (sight_seen s)) then loc ∷ [] else []) ++ hiding_from (loc + 1) rest-mems rest-sights
  hiding-more loc = ap₂ (hiding_from loc) mems-are sights-are

  pub seen-more : length (seen_faces (drop i (mems_of places)) (drop i (map sight_seen sights)))
      ≡ length (faces_at m (sight_seen s)) + length (seen_faces rest-mems rest-sights)
  seen-more = ap length faces-more ∙ length-append (faces_at m (sight_seen s)) (seen_faces rest-mems rest-sights)

  pub hidden-more : hidden_count (drop i (mems_of places)) (drop i (map sight_seen sights)) ≡ hidden_at m (sight_seen s) + hidden_count rest-mems rest-sights
  hidden-more = ap₂ hidden_count mems-are sights-are

  pub patterns-more : (seen : List ℕ) (a : ℕ) →
      patterns (drop i (mems_of places)) (drop i (map sight_seen sights)) (drop a seen)
      ≡ pattern_of m (sight_seen s) (drop a seen) ++ patterns rest-mems rest-sights (drop (a + length (faces_at m (sight_seen s))) seen)
  patterns-more seen a =
      ap₂ (λ ms ss. patterns ms ss (drop a seen)) mems-are sights-are
      ∙ ap (λ x. pattern_of m (sight_seen s) (drop a seen) ++ patterns rest-mems rest-sights x) (drop-drop (length (faces_at m (sight_seen s))) a seen)

  pub peeked-more : (seen : List ℕ) (a : ℕ) →
      peeked (drop i (mems_of places)) (drop i (map sight_seen sights)) (drop a seen)
      ≡ peeked_at m (sight_seen s) (drop a seen) ++ peeked rest-mems rest-sights (drop (a + length (faces_at m (sight_seen s))) seen)
  peeked-more seen a =
      ap₂ (λ ms ss. peeked ms ss (drop a seen)) mems-are sights-are
      ∙ ap (λ x. peeked_at m (sight_seen s) (drop a seen) ++ peeked rest-mems rest-sights x) (drop-drop (length (faces_at m (sight_seen s))) a seen)
