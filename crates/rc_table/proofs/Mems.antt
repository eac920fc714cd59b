-- How many locations hold references, and how many references those can hold.
use Rattle.std.proofs.Common.{◌≡◌, ℕ, zero, suc, ◌+◌, ◌*◌, ◌<◌, ◌≤◌, nat_lt, Bool, true, false, cond, List, [], ◌∷◌, length, map, get_or, slice_get, drop, sum_by, zip, arith}
use Rattle.std.specs.List.{AllByRecursion}
use Rattle.std.proofs.lemmas.Bool.Decides.{nat_tests}
use Rattle.std.proofs.lemmas.List.{at_drop_more}
use Rattle.std.proofs.lemmas.List.Elements.{recursion_from_All}
use Rattle.std.proofs.lemmas.List.Sums.{sum_by-cons}
use Rattle.rc_sheet_spec.specs.WellFormed.{is_mem}
use Rattle.rc_play_spec.specs.Shape.{Place as PurePlace, Shape, holds_references}
use Rattle.rc_play_spec.specs.Table.{Table, IsSound, list_at, references, references_in}
use Rattle.rc_table.specs.declared.place.Place.{Place}
use Rattle.rc_table.specs.Places.{place_seen}
use Rattle.rc_table.specs.Shape.{mems_among, mems_here}

-- counting them one by one
pub mems_on : (other : Place) (places : List Place) (i n count whole : ℕ) → i < length places → n ≡ mems_here (place_seen (get_or places i other)) →
    count + mems_among (map place_seen (drop i places)) ≡ whole → count + n + mems_among (map place_seen (drop (i + 1) places)) ≡ whole
mems_on other places i n count whole lt is told =
    let e = at_drop_more (λ places. mems_among (map place_seen places)) places i other lt in
    omega (arith, e, is, told)

abbrev few : PurePlace × List ℕ → Type 0
few at = references_in at ≤ 512

-- one location among others
few_more : (m : Bool) (n rest k : ℕ) → cond m n 0 ≤ 512 → rest ≤ 512 * k → cond m n 0 + rest ≤ 512 * (cond m 1 0 + k)
few_more true n rest k le all = omega (arith, le, all)
few_more false n rest k le all = omega (arith, le, all)

less_here : (m : Bool) (n rest k : ℕ) → m ≡ true → n < 512 → rest ≤ 512 * k → cond m n 0 + rest < 512 * (cond m 1 0 + k)
less_here true n rest k is lt all = omega (arith, lt, all)
less_here false n rest k is lt all = absurd cc

less_more : (m : Bool) (n rest k : ℕ) → cond m n 0 ≤ 512 → rest < 512 * k → cond m n 0 + rest < 512 * (cond m 1 0 + k)
less_more true n rest k le all = omega (arith, le, all)
less_more false n rest k le all = omega (arith, le, all)

-- no more than 512 in each, and fewer in all where one of them has fewer
few_in : (places : List PurePlace) (lists : List (List ℕ)) → AllByRecursion few (zip places lists) →
    sum_by references_in (zip places lists) ≤ 512 * mems_among places
few_in [] lists all = omega arith
few_in (place ∷ places) [] all = omega arith
few_in (place ∷ places) (list ∷ lists) all =
    let e = sum_by-cons references_in (place, list) (zip places lists) in
    let le = few_more (is_mem place.kind) (length list) (sum_by references_in (zip places lists)) (mems_among places) all.0 (few_in places lists all.1) in
    omega (arith, e, le)

less_in : (places : List PurePlace) (lists : List (List ℕ)) (loc : ℕ) → length lists ≡ length places → AllByRecursion few (zip places lists) →
    holds_references (slice_get places loc) ≡ true → length (get_or lists loc []) < 512 → sum_by references_in (zip places lists) < 512 * mems_among places
less_in [] lists loc same all holds room = absurd cc
less_in (place ∷ places) [] loc same all holds room = absurd (omega (arith, same))
less_in (place ∷ places) (list ∷ lists) zero same all holds room =
    let e = sum_by-cons references_in (place, list) (zip places lists) in
    let lt = less_here (is_mem place.kind) (length list) (sum_by references_in (zip places lists)) (mems_among places) holds room (few_in places lists all.1) in
    omega (arith, e, lt)
less_in (place ∷ places) (list ∷ lists) (suc loc) same all holds room =
    let e = sum_by-cons references_in (place, list) (zip places lists) in
    let lt = less_more (is_mem place.kind) (length list) (sum_by references_in (zip places lists)) (mems_among places) all.0
    (less_in places lists loc (omega (arith, same)) all.1 holds room) in
    omega (arith, e, lt)

-- so two of them never hold all that there may be, where one has room
pub room_of_two : (shape : Shape) (table : Table) (loc : ℕ) → IsSound shape table → holds_references (slice_get shape.places loc) ≡ true → mems_among shape.places ≤ 2 →
    length (list_at table loc) < 512 → true ≡ nat_lt (references shape table) 1024
room_of_two shape table loc sound holds two room =
    let lt = less_in shape.places table.lists loc sound.locations (recursion_from_All few (zip shape.places table.lists) sound.mems) holds room in
    let all : references shape table < 1024 = omega (arith, lt, two) in
    grind (arith, nat_tests, all)
