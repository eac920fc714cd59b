-- A card that stands in a table is found at its place.
use Rattle.std.proofs.Common.{◌≡◌, ℕ, suc, ◌+◌, ◌<◌, ◌==◌, not, ◌&&◌, ◌||◌, Bool, true, false, cond, if◌then◌else◌, List, [], ◌∷◌, length, get_or, count_by, sum_by, zip, refl, sym, ap, subst, true≢false, arith}
use Rattle.std.specs.List.{list_any, position_or_len}
use Rattle.std.proofs.lemmas.Bool.{eqb-true}
use Rattle.std.proofs.lemmas.List.Sums.{sum_by-cons, passes_at_first}
use Rattle.rc_sheet_spec.specs.WellFormed.{is_mem}
use Rattle.rc_play_spec.specs.Shape.{Place}
use Rattle.rc_play_spec.specs.Table.{times_in, index_in, holds_card}

abbrev is_it : ℕ → ℕ → Bool
is_it id other = other == id

-- a card that no item is doesn't count
count_at : (id n : ℕ) (list : List ℕ) → (list_any (is_it id) list ≡ false → count_by (is_it id) list ≡ 0) → (b : Bool) → (n == id) ≡ b →
    (b || list_any (is_it id) list) ≡ false → count_by (is_it id) (n ∷ list) ≡ 0
count_at id n list rest true is none = absurd (true≢false none)
count_at id n list rest false is none =
    let no_more = rest none in
    let here : cond {A = ℕ} (is_it id n) 1 0 ≡ 0 = ap (λ b. cond {A = ℕ} b 1 0) is in
    let more = sum_by-cons (λ m. cond (is_it id m) 1 0) n list in
    omega arith

count_none : (id : ℕ) (list : List ℕ) → list_any (is_it id) list ≡ false → count_by (is_it id) list ≡ 0
count_none id [] none = refl
count_none id (n ∷ list) none = count_at id n list (count_none id list) (n == id) refl none

-- a location of references, or without the card, doesn't count
none_there : (m c : Bool) (count : ℕ) → (not m && c) ≡ false → (c ≡ false → count ≡ 0) → cond m 0 count ≡ 0
none_there true c count is none = refl
none_there false true count is none = absurd (true≢false is)
none_there false false count is none = none refl

both_hold : (m c : Bool) → (not m && c) ≡ true → (m ≡ false) × (c ≡ true)
both_hold true c is = absurd (true≢false (sym is))
both_hold false c is = (refl, is)

-- the location that is found
abbrev pub Found : ℕ → List Place → List (List ℕ) → ℕ → Type 0
Found id places lists loc =
    (p : Place) × (loc < length places) × (loc < length lists) × (p ≡ get_or places loc p) × (is_mem p.kind ≡ false)
    × (list_any (is_it id) (get_or lists loc []) ≡ true)

found_here : (id : ℕ) (place : Place) (places : List Place) (list : List ℕ) (lists : List (List ℕ)) →
    (0 < sum_by (times_in id) (zip places lists) → Found id places lists (position_or_len (holds_card id) (zip places lists))) →
    0 < sum_by (times_in id) (zip (place ∷ places) (list ∷ lists)) → (b : Bool) → holds_card id (place, list) ≡ b →
    Found id (place ∷ places) (list ∷ lists) (if not b then 1 + position_or_len (holds_card id) (zip places lists) else 0)
found_here id place places list lists rest some true is =
    let h = both_hold (is_mem place.kind) (list_any (is_it id) list) is in (place, omega arith, omega arith, refl, h.0, h.1)
found_here id place places list lists rest some false is =
    let none = none_there (is_mem place.kind) (list_any (is_it id) list) (count_by (is_it id) list) is (count_none id list) in
    let sum = sum_by-cons (times_in id) (place, list) (zip places lists) in
    let left : 0 < sum_by (times_in id) (zip places lists) = omega arith in
    let f = rest left in
    let n = position_or_len (holds_card id) (zip places lists) in
    let e : suc n ≡ 1 + n = omega arith in
    let short = f.1 in
    let short' = f.2 in
    subst (Found id (place ∷ places) (list ∷ lists)) e (f.0, omega arith, omega arith, f.3, f.4, f.5)

pub found : (id : ℕ) (places : List Place) (lists : List (List ℕ)) → 0 < sum_by (times_in id) (zip places lists) →
    Found id places lists (position_or_len (holds_card id) (zip places lists))
found id [] lists some = absurd (omega arith)
found id (place ∷ places) [] some = absurd (omega arith)
found id (place ∷ places) (list ∷ lists) some = found_here id place places list lists (found id places lists) some (holds_card id (place, list)) refl

-- and its place there
within_at : (id : ℕ) (list : List ℕ) → (list_any (is_it id) list ≡ true → position_or_len (is_it id) list < length list) → (b : Bool) →
    (b || list_any (is_it id) list) ≡ true → (if not b then 1 + position_or_len (is_it id) list else 0) < suc (length list)
within_at id list rest true is = omega arith
within_at id list rest false is = let more = rest is in omega arith

index_within : (id : ℕ) (list : List ℕ) → list_any (is_it id) list ≡ true → position_or_len (is_it id) list < length list
index_within id [] is = absurd (true≢false (sym is))
index_within id (n ∷ list) is = within_at id list (index_within id list) (n == id) is

pub index_found : (id : ℕ) (list : List ℕ) → list_any (is_it id) list ≡ true → (index_in id list < length list) × (get_or list (index_in id list) 0 ≡ id)
index_found id list is =
    let within = index_within id list is in
    (within, eqb-true (get_or list (index_in id list) 0) id (passes_at_first (is_it id) list 0 within))
