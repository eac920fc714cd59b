-- Bytes of marks.
use Rattle.std.proofs.Common.{◌≡◌, ℕ, zero, suc, ◌+◌, ◌<◌, ◌==◌, Bool, true, false, List, [], ◌∷◌, length, drop, get_or, set, map, replicate, refl, sym, ap, ap₂, ◌∙◌, arith}
use Rattle.std.specs.Prelude.{filter, All}
use Rattle.std.specs.List.{list_any}
use Rattle.std.proofs.lemmas.List.Kept.{AllPairs-filter}
use Rattle.rc_base.specs.Numbers.{below}
use Rattle.rc_play_spec.specs.Table.{AreSeats, is_marked, cleared}
use Rattle.rc_play_spec.proofs.Counting.{kept, left_out, once_below}
use Rattle.rc_play_spec.proofs.SmallestLemmas.{is-used, not-used}
use Rattle.rc_play_spec.proofs.Ids.{below_pairs}
use Rattle.rc_table.specs.Marks.{has_bit, seats_in}

pub none_set : (n id : ℕ) → map seats_in (replicate n 0) ≡ set (map seats_in (replicate n 0)) id []
none_set zero id = refl
none_set (suc n) zero = refl
none_set (suc n) (suc id) = ap (λ rest. [] ∷ rest) (none_set n id)

pub none_seats : (n : ℕ) → map seats_in (replicate n 0) ≡ replicate n []
none_seats zero = refl
none_seats (suc n) = ap (λ rest. [] ∷ rest) (none_seats n)

pub set_seats : (bytes : List ℕ) (id byte : ℕ) → map seats_in (set bytes id byte) ≡ set (map seats_in bytes) id (seats_in byte)
set_seats [] id byte = refl
set_seats (b ∷ bytes) zero byte = refl
set_seats (b ∷ bytes) (suc id) byte = ap (λ rest. seats_in b ∷ rest) (set_seats bytes id byte)

pub all_zero : (bytes : List ℕ) → ((k : ℕ) → k < length bytes → get_or bytes k 0 ≡ 0) → bytes ≡ replicate (length bytes) 0
all_zero [] each = refl
all_zero (b ∷ bytes) each = ap₂ ◌∷◌ (each 0 (omega arith)) (all_zero bytes (λ k less. each (suc k) (omega (arith, less))))

pub cleared_step : (ids : List ℕ) (marks : List (List ℕ)) (i d : ℕ) → i < length ids → cleared (drop i ids) marks ≡ cleared (drop (i + 1) ids) (set marks (get_or ids i d) [])
cleared_step [] marks i d less = absurd (omega (arith, less))
cleared_step (id ∷ ids) marks zero d less = refl
cleared_step (id ∷ ids) marks (suc i) d less =
    let next : suc (i + 1) ≡ suc i + 1 = omega arith in
    cleared_step ids marks i d (omega (arith, less)) ∙ ap (λ k. cleared (drop k (id ∷ ids)) (set marks (get_or ids i d) [])) next

pub none_cleared : (ids : List ℕ) (n : ℕ) → cleared ids (map seats_in (replicate n 0)) ≡ map seats_in (replicate n 0)
none_cleared [] n = refl
none_cleared (id ∷ ids) n = ap (cleared ids) (sym (none_set n id)) ∙ none_cleared ids n

-- a seat that is among those of a byte
in-below : (q : ℕ → Bool) (seat n : ℕ) → seat < n → list_any (λ other. other == seat) (filter q (below n)) ≡ q seat
in-below q seat n less = at (q seat) refl where
  at : (b : Bool) → q seat ≡ b → list_any (λ other. other == seat) (filter q (below n)) ≡ b
  at true e =
      let there = kept q seat e (below n) ∙ once_below seat n less in
      is-used seat (filter q (below n)) (omega (arith, there))
  at false e = not-used seat (filter q (below n)) (left_out q seat e (below n))

pub bit_is : (byte seat : ℕ) → seat < 8 → list_any (λ other. other == seat) (seats_in byte) ≡ has_bit byte seat
bit_is byte seat less = in-below (has_bit byte) seat 8 less

pub marked_is : (bytes : List ℕ) (id seat d : ℕ) → id < length bytes → seat < 8 → is_marked (map seats_in bytes) seat id ≡ has_bit (get_or bytes id d) seat
marked_is [] id seat d less less' = absurd (omega (arith, less))
marked_is (b ∷ bytes) zero seat d less less' = bit_is b seat less'
marked_is (b ∷ bytes) (suc id) seat d less less' = marked_is bytes id seat d (omega (arith, less)) less'

pub none_marked_in : (n id seat : ℕ) → is_marked (map seats_in (replicate n 0)) seat id ≡ false
none_marked_in zero id seat = refl
none_marked_in (suc n) zero seat = refl
none_marked_in (suc n) (suc id) seat = none_marked_in n id seat

pub seats_are : (players byte : ℕ) → All (λ seat. seat < players) (seats_in byte) → AreSeats players (seats_in byte)
seats_are players byte within = record { ascending = AllPairs-filter (λ a b. a < b) (has_bit byte) (below 8) (below_pairs 8); within = within }
