-- Sights of one location after another.
use Rattle.std.proofs.Common.{◌≡◌, ℕ, zero, suc, ◌+◌, ◌<◌, List, [], ◌∷◌, ◌++◌, length, take, get_or, slice_get, ap, refl, subst, arith}
use Rattle.rc_play_spec.specs.Shape.{Place, Shape}
use Rattle.rc_play_spec.specs.Sees.{sees_place}
use Rattle.rc_play_spec.specs.View.{sight_of, sights_of}

sights_more : (shape : Shape) (marks : List (List ℕ)) (seat : ℕ) (places : List Place) (lists : List (List ℕ)) (n : ℕ) → n < length lists → length lists ≡ length places →
    sights_of shape marks seat places (take (suc n) lists)
    ≡ sights_of shape marks seat places (take n lists) ++ sight_of shape marks seat (sees_place shape seat (slice_get places n)) (get_or lists n []) ∷ []
sights_more shape marks seat places [] n within same = absurd (omega (arith, within))
sights_more shape marks seat [] (ids ∷ lists) n within same = absurd (omega (arith, same))
sights_more shape marks seat (place ∷ places) (ids ∷ lists) zero within same = refl
sights_more shape marks seat (place ∷ places) (ids ∷ lists) (suc n) within same =
    ap (λ rest. sight_of shape marks seat (sees_place shape seat (slice_get (place ∷ places) 0)) ids ∷ rest)
    (sights_more shape marks seat places lists n (omega (arith, within)) (omega (arith, same)))

-- what is seen of one more location
pub sights_next : (shape : Shape) (marks : List (List ℕ)) (seat : ℕ) (places : List Place) (lists : List (List ℕ)) (n : ℕ) → n < length lists → length lists ≡ length places →
    sights_of shape marks seat places (take (n + 1) lists)
    ≡ sights_of shape marks seat places (take n lists) ++ sight_of shape marks seat (sees_place shape seat (slice_get places n)) (get_or lists n []) ∷ []
sights_next shape marks seat places lists n within same =
    let next : suc n ≡ n + 1 = omega arith in
    subst (λ m. sights_of shape marks seat places (take m lists)
    ≡ sights_of shape marks seat places (take n lists) ++ sight_of shape marks seat (sees_place shape seat (slice_get places n)) (get_or lists n []) ∷ [])
    next (sights_more shape marks seat places lists n within same)
