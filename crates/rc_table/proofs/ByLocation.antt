-- How many references there are, location by location.
use Rattle.std.proofs.Common.{◌≡◌, ℕ, zero, suc, ◌+◌, ◌<◌, cond, List, [], ◌∷◌, length, get_or, drop, slice_get, sum_by, zip, subst, arith}
use Rattle.std.proofs.lemmas.List.Sums.{sum_by-cons}
use Rattle.rc_play_spec.specs.Shape.{Place, holds_references}
use Rattle.rc_play_spec.specs.Table.{references_in}

-- references in the locations from one on
references_next : (places : List Place) (lists : List (List ℕ)) (loc : ℕ) → loc < length places → length lists ≡ length places →
    sum_by references_in (zip (drop loc places) (drop loc lists))
    ≡ cond (holds_references (slice_get places loc)) (length (get_or lists loc [])) 0
    + sum_by references_in (zip (drop (suc loc) places) (drop (suc loc) lists))
references_next [] lists loc within same = absurd (omega (arith, within))
references_next (place ∷ places) [] loc within same = absurd (omega (arith, same))
references_next (place ∷ places) (list ∷ lists) zero within same = sum_by-cons references_in (place, list) (zip places lists)
references_next (place ∷ places) (list ∷ lists) (suc loc) within same = references_next places lists loc (omega (arith, within)) (omega (arith, same))

pub references_here : (places : List Place) (lists : List (List ℕ)) (loc : ℕ) → loc < length places → length lists ≡ length places →
    sum_by references_in (zip (drop loc places) (drop loc lists))
    ≡ cond (holds_references (slice_get places loc)) (length (get_or lists loc [])) 0
    + sum_by references_in (zip (drop (loc + 1) places) (drop (loc + 1) lists))
references_here places lists loc within same =
    let next : suc loc ≡ loc + 1 = omega arith in
    subst (λ n. sum_by references_in (zip (drop loc places) (drop loc lists))
    ≡ cond (holds_references (slice_get places loc)) (length (get_or lists loc [])) 0
    + sum_by references_in (zip (drop n places) (drop n lists))) next (references_next places lists loc within same)
