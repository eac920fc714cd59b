-- Sums of points.
use Rattle.std.proofs.Common.{◌≡◌, ℕ, ◌+◌, ◌<◌, List, [], ◌∷◌, ◌++◌, length, get_or, take, map, fold, pos, ◌+ℤ◌, ℤ, Bool, true, false, if◌then◌else◌, All, sym, ap, ◌∙◌, subst, arith}
use Rattle.std.proofs.lemmas.List.{take_more, map-append, length-map, get_or-map}
use Rattle.std.proofs.lemmas.Int.{ints}
use Rattle.std.proofs.lemmas.List.Sums.{fold_push}
use Rattle.rc_base.specs.Deck.{Face, fits_entry}
use Rattle.rc_deck.specs.declared.scoring.PointEntry.{PointEntry}
use Rattle.rc_base.specs.Clamp.{IsWithinClamp}
use Rattle.rc_deck.specs.Points.{entry_of, points_added}

-- the sum for a face, before it is clamped
abbrev pub sum_of : Face → List PointEntry → ℤ
sum_of face entries = fold ◌+ℤ◌ (pos 0) (map (points_added face) (map entry_of entries))

-- one more entry adds its points
pub sum_of_more : (face : Face) (entries : List PointEntry) (k : ℕ) (x : PointEntry) → k < length entries → x ≡ get_or entries k x →
    sum_of face (take (k + 1) entries) ≡ sum_of face (take k entries) +ℤ points_added face (entry_of x)
sum_of_more face entries k x lt is =
    ap (sum_of face) (take_more entries k x lt ∙ ap (λ y. take k entries ++ y ∷ []) (sym is))
    ∙ ap (λ es. fold ◌+ℤ◌ (pos 0) (map (points_added face) es)) (map-append entry_of (take k entries) (x ∷ []))
    ∙ ap (fold ◌+ℤ◌ (pos 0)) (map-append (points_added face) (map entry_of (take k entries)) (entry_of x ∷ []))
    ∙ fold_push ◌+ℤ◌ (pos 0) (map (points_added face) (map entry_of (take k entries))) (points_added face (entry_of x))

-- a number within the clamp, or none
within_if : (b : Bool) (z : ℤ) → IsWithinClamp z → IsWithinClamp (if b then z else pos 0)
within_if true z within = within
within_if false z within = (omega (arith, ints), omega (arith, ints))

-- what an entry adds is within the limits that its points are
pub IsWithinClamp-added : (face : Face) (entries whole : List PointEntry) (k : ℕ) (x : PointEntry) →
    All (λ entry. IsWithinClamp entry.points) (map entry_of whole) → entries ≡ whole → k < length entries → x ≡ get_or entries k x → IsWithinClamp (points_added face (entry_of x))
IsWithinClamp-added face entries whole k x all same lt is =
    let inside : k < length whole = omega (arith, ap length same) in
    let item : x ≡ get_or whole k x = is ∙ ap (λ es. get_or es k x) same in
    let short : k < length (map entry_of whole) = omega (arith, length-map whole entry_of) in
    let here = get_or-map entry_of whole k x (entry_of x) inside ∙ ap entry_of (sym item) in
    within_if (fits_entry (entry_of x) face) x.points (subst (λ entry. IsWithinClamp entry.points) here (all k (entry_of x) short))
