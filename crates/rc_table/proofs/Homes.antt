-- The lists of the start, one card after another.
use Rattle.std.proofs.Common.{◌≡◌, ℕ, zero, suc, ◌+◌, ◌<◌, ◌≤◌, ◌==◌, cond, List, [], ◌∷◌, ◌++◌, length, map, get_or, set, replicate, slice_index, refl, sym, ap, ap₂, ◌∙◌, arith, append-nil}
use Rattle.std.specs.Prelude.{filter}
use Rattle.std.specs.List.{range_with_len}
use Rattle.std.proofs.lemmas.Bool.{cond-false}
use Rattle.std.proofs.lemmas.Bool.Decides.{Decides-eqb}
use Rattle.std.proofs.lemmas.List.Elements.{filter-append}
use Rattle.std.proofs.lemmas.List.FromFn.{get_or-map-range_with_len, length-range_with_len}
use Rattle.std.proofs.lemmas.List.Sums.{length-filter, count_by-le-length}
use Rattle.std.proofs.lemmas.Option.{slice_get_within}
use Rattle.rc_base.specs.Numbers.{below}
use Rattle.rc_deck.proofs.RangeLemmas.{range_push}
use Rattle.rc_play_spec.specs.Shape.{Shape}
use Rattle.rc_play_spec.specs.Bound.{HasHomes}
use Rattle.rc_play_spec.proofs.OpeningLemmas.{differs}
use Rattle.rc_table.specs.Laid.{rooms}
use Rattle.rc_table.proofs.Held.{room_at}
use Rattle.rc_table.proofs.WhereaboutLemmas.{no_references}

-- the cards below n that begin in a location
abbrev pub begun : List ℕ → ℕ → ℕ → List ℕ
begun home n loc = filter (λ id. slice_index home id == loc) (below n)

begun_push : (home : List ℕ) (n loc : ℕ) → begun home (n + 1) loc ≡ begun home n loc ++ cond (slice_index home n == loc) (n ∷ []) []
begun_push home n loc =
    let more : n + 1 ≡ suc n = omega arith in
    let last : 0 + n ≡ n = omega arith in
    ap (λ k. begun home k loc) more
    ∙ ap (filter (λ id. slice_index home id == loc)) (range_push 0 n ∙ ap (λ k. below n ++ k ∷ []) last)
    ∙ filter-append (λ id. slice_index home id == loc) (below n) (n ∷ [])

begun_here : (home : List ℕ) (n loc : ℕ) → slice_index home n ≡ loc → begun home (n + 1) loc ≡ begun home n loc ++ n ∷ []
begun_here home n loc is =
    begun_push home n loc ∙ ap (λ b. begun home n loc ++ cond b (n ∷ []) []) ((Decides-eqb (slice_index home n) loc).1 is)

begun_elsewhere : (home : List ℕ) (n loc : ℕ) → (slice_index home n ≡ loc → ⊥) → begun home (n + 1) loc ≡ begun home n loc
begun_elsewhere home n loc never =
    let h = slice_index home n in
    begun_push home n loc
    ∙ ap (λ b. begun home n loc ++ cond b (n ∷ []) []) (differs h loc (h == loc) refl never)
    ∙ append-nil (begun home n loc)

past : (home : List ℕ) (n a count : ℕ) → slice_index home n < a →
    map (begun home (n + 1)) (range_with_len a count) ≡ map (begun home n) (range_with_len a count)
past home n a zero less = refl
past home n a (suc count) less =
    ap₂ ◌∷◌ (begun_elsewhere home n a (λ same. omega (arith, less, same))) (past home n (a + 1) count (omega (arith, less)))

-- the locations from one on, with one card more
more_from : (home : List ℕ) (n a count k : ℕ) → slice_index home n ≡ a + k → k < count →
    set (map (begun home n) (range_with_len a count)) k (get_or (map (begun home n) (range_with_len a count)) k [] ++ n ∷ [])
    ≡ map (begun home (n + 1)) (range_with_len a count)
more_from home n a zero k is less = absurd (omega (arith, less))
more_from home n a (suc count) zero is less =
    ap₂ ◌∷◌ (sym (begun_here home n a (is ∙ omega arith))) (sym (past home n (a + 1) count (omega (arith, is))))
more_from home n a (suc count) (suc k) is less =
    let next : a + suc k ≡ a + 1 + k = omega arith in
    ap₂ ◌∷◌ (sym (begun_elsewhere home n a (λ same. omega (arith, is, same)))) (more_from home n (a + 1) count k (is ∙ next) (omega (arith, less)))

pub one_more : (home : List ℕ) (n count : ℕ) (lists : List (List ℕ)) → lists ≡ map (begun home n) (below count) → slice_index home n < count →
    set lists (slice_index home n) (get_or lists (slice_index home n) [] ++ n ∷ []) ≡ map (begun home (n + 1)) (below count)
one_more home n count lists are less =
    let h = slice_index home n in
    ap (λ lists. set lists h (get_or lists h [] ++ n ∷ [])) are ∙ more_from home n 0 count h (omega arith) less

pub no_card : (home : List ℕ) (a count : ℕ) → replicate count [] ≡ map (begun home 0) (range_with_len a count)
no_card home a zero = refl
no_card home a (suc count) = ap (λ lists. [] ∷ lists) (no_card home (a + 1) count)

-- no location has more than there are
pub begun_few : (home : List ℕ) (n count loc : ℕ) (lists : List (List ℕ)) → lists ≡ map (begun home n) (below count) → loc < count →
    length (get_or lists loc []) ≤ n
begun_few home n count loc lists are within =
    let here = ap (λ lists. length (get_or lists loc [])) are ∙ ap length (get_or-map-range_with_len (begun home n) 0 count loc loc [] within (omega arith)) in
    let held = length-filter (λ id. slice_index home id == loc) (below n) in
    let most = count_by-le-length (λ id. slice_index home id == loc) (below n) in
    let all = length-range_with_len 0 n in
    omega (arith, here, held, most, all)

-- a card begins in a location that is there
-- there is room for all cards where one begins
pub room_at_home : (shape : Shape) (id : ℕ) → HasHomes shape → id < length shape.faces → get_or (rooms shape) (slice_index shape.home id) 0 ≡ length shape.faces
room_at_home shape id homes card =
    let home = slice_index shape.home id in
    let at = homes.hold id 0 (omega (arith, card, homes.each)) in
    room_at shape home (slice_get_within shape.places home at.0 at.1) ∙ cond-false _ _ _ (no_references shape home at)

pub home_within : (shape : Shape) (id : ℕ) → HasHomes shape → id < length shape.faces → slice_index shape.home id < length shape.places
home_within shape id homes card =
    let at = homes.hold id 0 (omega (arith, card, homes.each)) in
    slice_get_within shape.places (slice_index shape.home id) at.0 at.1
