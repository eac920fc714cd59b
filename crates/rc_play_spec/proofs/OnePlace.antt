-- A card of a sound table stands in one place.
use Rattle.std.proofs.Common.{◌≡◌, ℕ, zero, suc, ◌+◌, ◌<◌, ◌≤◌, false, List, [], ◌∷◌, length, get_or, slice_set, sum_by, zip, sym, ap, ◌∙◌, subst, arith, length-set, ⊎_elim, ◌++◌, slice_get, refl}
use Rattle.std.proofs.lemmas.Bool.{cases_order, cond-false}
use Rattle.std.proofs.lemmas.Bool.Decides.{Decides-eqb}
use Rattle.std.proofs.lemmas.List.{get_or-set_other}
use Rattle.std.proofs.lemmas.Option.{slice_get_within, get_or_from_slice_get}
use Rattle.rc_sheet_spec.specs.WellFormed.{is_mem}
use Rattle.rc_play_spec.specs.Shape.{Place, Shape}
use Rattle.rc_play_spec.specs.Table.{Table, list_at, times_in, IsSound}
use Rattle.rc_play_spec.specs.Bound.{HoldsCards}
use Rattle.rc_play_spec.proofs.Counting.{one_if, passing, same, passing-is}
use Rattle.rc_play_spec.proofs.TableLemmas.{sum-set, get_or-any}
use Rattle.rc_play_spec.specs.Scene.{Vars}
use Rattle.rc_play_spec.specs.Value.{player_bound, player_of}

-- an item counts at each of its places
counts : (id : ℕ) (xs : List ℕ) (k : ℕ) → k < length xs → get_or xs k 0 ≡ id → 1 ≤ passing (same id) xs
counts id [] k less is = absurd (omega (arith, less))
counts id (x ∷ xs) zero less is = let here = ap one_if ((Decides-eqb x id).1 is) in omega (arith, here)
counts id (x ∷ xs) (suc k) less is = let rest = counts id xs k (omega (arith, less)) is in omega (arith, rest)

counts_twice : (id : ℕ) (xs : List ℕ) (j k : ℕ) → j < k → k < length xs → get_or xs j 0 ≡ id → get_or xs k 0 ≡ id → 2 ≤ passing (same id) xs
counts_twice id [] j k before less is is' = absurd (omega (arith, less))
counts_twice id (x ∷ xs) j zero before less is is' = absurd (omega (arith, before))
counts_twice id (x ∷ xs) zero (suc k) before less is is' =
    let here = ap one_if ((Decides-eqb x id).1 is) in
    let rest = counts id xs k (omega (arith, less)) is' in
    omega (arith, here, rest)
counts_twice id (x ∷ xs) (suc j) (suc k) before less is is' =
    let rest = counts_twice id xs j k (omega (arith, before)) (omega (arith, less)) is is' in omega (arith, rest)

times-held : (id : ℕ) (p : Place) (list : List ℕ) → is_mem p.kind ≡ false → times_in id (p, list) ≡ passing (same id) list
times-held id p list held = cond-false _ _ _ held ∙ sym (passing-is (same id) list)

module _ (shape : Shape) (id : ℕ) where
  -- a location's part of how often a card stands in all of them
  less_one : (lists : List (List ℕ)) (l : ℕ) → HoldsCards shape l → length lists ≡ length shape.places →
      sum_by (times_in id) (zip shape.places (slice_set lists l [])) + passing (same id) (get_or lists l [])
      ≡ sum_by (times_in id) (zip shape.places lists)
  less_one lists l h count =
      let p = h.0 in
      let within = slice_get_within shape.places l p h.1 in
      let within' : l < length lists = omega (arith, count, within) in
      let at = sym (get_or_from_slice_get shape.places l p p h.1) in
      let out = sum-set (times_in id) shape.places lists l p (get_or lists l []) [] within within' at (get_or-any lists l [] within') in
      let old = times-held id p (get_or lists l []) h.2 in
      let none = times-held id p [] h.2 in
      omega (arith, out, old, none)

  -- and that of two
  less_two : (lists : List (List ℕ)) (l m : ℕ) → HoldsCards shape l → HoldsCards shape m → (l ≡ m → ⊥) → length lists ≡ length shape.places →
      passing (same id) (get_or lists l []) + passing (same id) (get_or lists m []) ≤ sum_by (times_in id) (zip shape.places lists)
  less_two lists l m h h' differ count =
      let a = less_one lists l h count in
      let b = less_one (slice_set lists l []) m h' (length-set lists l [] ∙ count) in
      let c = ap (passing (same id)) (get_or-set_other lists l m [] [] (λ e. differ (sym e))) in
      omega (arith, a, b, c)

module _ (shape : Shape) (table : Table) (sound : IsSound shape table) where
  pub is_card : (l k : ℕ) → HoldsCards shape l → k < length (list_at table l) → get_or (list_at table l) k 0 < length shape.faces
  is_card l k h less =
      let within = slice_get_within shape.places l h.0 h.1 in
      let count = sound.locations in
      let within' : l < length table.lists = omega (arith, count, within) in
      sound.ids l [] within' k 0 less

  pub one_location : (id l m j k : ℕ) → HoldsCards shape l → HoldsCards shape m → j < length (list_at table l) → k < length (list_at table m) →
      get_or (list_at table l) j 0 ≡ id → get_or (list_at table m) k 0 ≡ id → (l ≡ m → ⊥) → ⊥
  one_location id l m j k h h' less less' is is' differ =
      let card : id < length shape.faces = subst (λ i. i < length shape.faces) is (is_card l j h less) in
      let one = sound.once id card in
      let sum = less_two shape id table.lists l m h h' differ sound.locations in
      let a = counts id (list_at table l) j less is in
      let b = counts id (list_at table m) k less' is' in
      omega (arith, one, sum, a, b)

  one_index : (id l j k : ℕ) → HoldsCards shape l → k < length (list_at table l) →
      get_or (list_at table l) j 0 ≡ id → get_or (list_at table l) k 0 ≡ id → j < k → ⊥
  one_index id l j k h less is is' before =
      let card : id < length shape.faces = subst (λ i. i < length shape.faces) is' (is_card l k h less) in
      let one = sound.once id card in
      let sum = less_one shape id table.lists l h sound.locations in
      let two = counts_twice id (list_at table l) j k before less is is' in
      omega (arith, one, sum, two)

  same_index : (id l j k : ℕ) → HoldsCards shape l → j < length (list_at table l) → k < length (list_at table l) →
      get_or (list_at table l) j 0 ≡ id → get_or (list_at table l) k 0 ≡ id → j ≡ k
  same_index id l j k h less less' is is' =
      ⊎_elim (λ e. e)
      (λ r. ⊎_elim
      (λ before. absurd (one_index id l j k h less' is is' before))
      (λ before. absurd (one_index id l k j h less is' is before)) r)
      (cases_order j k)

  same_location : (id l m j k : ℕ) → HoldsCards shape l → HoldsCards shape m → j < length (list_at table l) → k < length (list_at table m) →
      get_or (list_at table l) j 0 ≡ id → get_or (list_at table m) k 0 ≡ id → l ≡ m
  same_location id l m j k h h' less less' is is' =
      ⊎_elim (λ e. e)
      (λ r. absurd (one_location id l m j k h h' less less' is is'
      (λ e. ⊎_elim (λ before. omega (arith, e, before)) (λ before. omega (arith, e, before)) r)))
      (cases_order l m)

  pub one_place : (id l m j k : ℕ) → HoldsCards shape l → HoldsCards shape m → j < length (list_at table l) → k < length (list_at table m) →
      get_or (list_at table l) j 0 ≡ id → get_or (list_at table m) k 0 ≡ id → (l ≡ m) × (j ≡ k)
  one_place id l m j k h h' less less' is is' =
      let e = same_location id l m j k h h' less less' is is' in (
        e,
        same_index id l j k h less (subst (λ n. k < length (list_at table n)) (sym e) less') is
            (ap (λ n. get_or (list_at table n) k 0) e ∙ is'),
      )

-- the innermost variable
pub innermost_player : (vars : Vars) (player : ℕ) →
    player_of (slice_get (vars ++ player_bound player ∷ []) (length vars)) ≡ player
innermost_player [] player = refl
innermost_player (bind ∷ vars) player = innermost_player vars player
