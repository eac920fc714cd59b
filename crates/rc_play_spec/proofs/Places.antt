-- Where a location stands among all.
use Rattle.std.proofs.Common.{◌≡◌, ℕ, zero, suc, ◌+◌, ◌<◌, ◌&&◌, nat_lt, Bool, true, false, if◌then◌else◌, List, [], ◌∷◌, ◌++◌, map, slice_get, take, Option, Some, None, refl, sym, ap, ap₂, ◌∙◌, true≢false, subst, arith, zero-add}
use Rattle.std.specs.Prelude.{flat_map, option_map}
use Rattle.std.specs.List.{range_with_len}
use Rattle.std.proofs.lemmas.Bool.{ltb-true, lt-ltb}
use Rattle.std.proofs.lemmas.List.Sums.{sum_by-cons}
use Rattle.rc_sheet_spec.specs.Sheet.{Class, game_class, player_class, team_class, LocName, Sheet}
use Rattle.rc_sheet_spec.specs.WellFormed.{owner_count}
use Rattle.rc_play_spec.specs.Owners.{class_eq, place_among}
use Rattle.rc_play_spec.specs.Shape.{places_of, first_loc}
use Rattle.rc_play_spec.proofs.Faces.{both_true}

pub class_eq_equal : (a b : Class) → class_eq a b ≡ true → a ≡ b
class_eq_equal game_class game_class e = refl
class_eq_equal game_class player_class e = absurd (true≢false (sym e))
class_eq_equal game_class team_class e = absurd (true≢false (sym e))
class_eq_equal player_class game_class e = absurd (true≢false (sym e))
class_eq_equal player_class player_class e = refl
class_eq_equal player_class team_class e = absurd (true≢false (sym e))
class_eq_equal team_class game_class e = absurd (true≢false (sym e))
class_eq_equal team_class player_class e = absurd (true≢false (sym e))
class_eq_equal team_class team_class e = refl

class_eq_self : (a : Class) → class_eq a a ≡ true
class_eq_self game_class = refl
class_eq_self player_class = refl
class_eq_self team_class = refl

-- behind n made by counting up
get_counted : {X : Type 0} (make : ℕ → X) (more : List X) (a n k : ℕ) → k < n →
    slice_get (map make (range_with_len a n) ++ more) k ≡ Some (make (a + k))
get_counted make more a zero k lt = absurd (omega arith)
get_counted make more a (suc n) zero lt = ap (λ m. Some (make m)) (omega arith)
get_counted make more a (suc n) (suc k) lt =
    get_counted make more (a + 1) n k (omega arith) ∙ ap (λ m. Some (make m)) (omega arith)

get_behind : {X : Type 0} (make : ℕ → X) (more : List X) (a n k m : ℕ) → m ≡ n + k →
    slice_get (map make (range_with_len a n) ++ more) m ≡ slice_get more k
get_behind make more a zero k m e = ap (slice_get more) (omega (arith, e))
get_behind make more a (suc n) k zero e = absurd (omega (arith, e))
get_behind make more a (suc n) k (suc m) e = get_behind make more (a + 1) n k m (omega (arith, e))

-- a location's name, and its place
abbrev pub Stands : Sheet → Class → List LocName → ℕ → ℕ → ℕ → Type 0
Stands sheet class locs name owner n =
    (l : LocName) × (slice_get locs name ≡ Some l) × (l.class ≡ class)
    × (slice_get (flat_map (places_of sheet) locs) n ≡ Some (record { kind = l.kind; class = l.class; owner = owner }))

place_here : (sheet : Sheet) (class : Class) (l : LocName) (locs : List LocName) (owner n : ℕ) (b : Bool) →
    (class_eq l.class class && nat_lt owner (owner_count sheet l.class)) ≡ b → (if b then Some owner else None) ≡ Some n →
    Stands sheet class (l ∷ locs) 0 owner n
place_here sheet class l locs owner n false is e = absurd (cc)
place_here sheet class l locs owner n true is e =
    let h = both_true (class_eq l.class class) (nat_lt owner (owner_count sheet l.class)) is in
    let same : owner ≡ n = cc in (
      l,
      refl,
      class_eq_equal l.class class h.0,
      subst (λ k. slice_get (flat_map (places_of sheet) (l ∷ locs)) k ≡ Some (record { kind = l.kind; class = l.class; owner = owner })) same
          (get_counted (λ o. record { kind = l.kind; class = l.class; owner = o }) (flat_map (places_of sheet) locs) 0 (owner_count sheet l.class) owner
          (ltb-true owner (owner_count sheet l.class) h.1) ∙ ap (λ k. Some (record { kind = l.kind; class = l.class; owner = k })) (zero-add owner)),
    )

place_behind : (sheet : Sheet) (class : Class) (l : LocName) (locs : List LocName) (name owner n : ℕ) →
    ((k : ℕ) → place_among sheet class (map (λ l. l.class) locs) name owner ≡ Some k → Stands sheet class locs name owner k) →
    (o : Option ℕ) → place_among sheet class (map (λ l. l.class) locs) name owner ≡ o → option_map (λ k. owner_count sheet l.class + k) o ≡ Some n →
    Stands sheet class (l ∷ locs) (suc name) owner n
place_behind sheet class l locs name owner n rest None is e = absurd (cc)
place_behind sheet class l locs name owner n rest (Some k) is e =
    let same : owner_count sheet l.class + k ≡ n = cc in
    let h = rest k is in (
      h.0,
      h.1,
      h.2,
      get_behind (λ o. record { kind = l.kind; class = l.class; owner = o }) (flat_map (places_of sheet) locs) 0 (owner_count sheet l.class) k n (sym same) ∙ h.3,
    )

pub place_stands : (sheet : Sheet) (class : Class) (locs : List LocName) (name owner n : ℕ) →
    place_among sheet class (map (λ l. l.class) locs) name owner ≡ Some n → Stands sheet class locs name owner n
place_stands sheet class [] name owner n e = absurd (cc)
place_stands sheet class (l ∷ locs) zero owner n e =
    place_here sheet class l locs owner n (class_eq l.class class && nat_lt owner (owner_count sheet l.class)) refl e
place_stands sheet class (l ∷ locs) (suc name) owner n e =
    place_behind sheet class l locs name owner n (λ k. place_stands sheet class locs name owner k)
    (place_among sheet class (map (λ l. l.class) locs) name owner) refl e

-- an owner of a name of this class is at its place
pub place_within : (sheet : Sheet) (class : Class) (locs : List LocName) (name owner : ℕ) (l : LocName) →
    slice_get locs name ≡ Some l → l.class ≡ class → owner < owner_count sheet l.class →
    place_among sheet class (map (λ l. l.class) locs) name owner ≡ Some (first_loc sheet locs name + owner)
place_within sheet class [] name owner l is same lt = absurd (cc)
place_within sheet class (l' ∷ locs) zero owner l is same lt =
    let here : l' ≡ l = cc in
    let of_class : class_eq l'.class class ≡ true = subst (λ c. class_eq l'.class c ≡ true) (ap (λ m. m.class) here ∙ same) (class_eq_self l'.class) in
    let there = lt-ltb owner (owner_count sheet l'.class) (subst (λ m. owner < owner_count sheet m.class) (sym here) lt) in
    ap₂ (λ a b. if a && b then Some owner else None) of_class there ∙ ap Some (sym (zero-add owner))
place_within sheet class (l' ∷ locs) (suc name) owner l is same lt =
    ap (option_map (λ n. owner_count sheet l'.class + n)) (place_within sheet class locs name owner l is same lt)
    ∙ ap Some (omega (arith, sum_by-cons (λ (l : LocName). owner_count sheet l.class) l' (take name locs)))
