-- Teams that part the players: there are no more teams than players, and each team has a player whose team it is.
use Rattle.std.proofs.Common.{◌≡◌, ℕ, zero, suc, ◌+◌, ◌<◌, ◌≤◌, ◌==◌, Bool, true, false, not, ◌||◌, nat_eq, nat_lt, if◌then◌else◌, List, [], ◌∷◌, ◌++◌, ◌⊎◌, inl, inr, ⊎_elim, length, get_or, map, flat_map, refl, sym, ap, ◌∙◌, subst, arith, append_assoc, true≢false, eqb-true, ltb-true, ltb-false}
use Rattle.std.specs.Prelude.{count_by}
use Rattle.std.specs.List.{list_any, range_with_len}
use Rattle.std.proofs.lemmas.Bool.{or_parts}
use Rattle.std.proofs.lemmas.Bool.Decides.{Decides-eqb}
use Rattle.std.proofs.lemmas.List.{length-append, get_or-replicate}
use Rattle.std.proofs.lemmas.List.Folds.{list_any-append}
use Rattle.std.proofs.lemmas.List.FromFn.{get_or-map-range_with_len}
use Rattle.std.proofs.lemmas.Map.Steps.{le-length_from_below}
use Rattle.rc_base.specs.Numbers.{below}
use Rattle.rc_sheet_spec.specs.Sheet.{Teams}
use Rattle.rc_sheet_spec.specs.WellFormed.{is_among, ArePartition}
use Rattle.rc_play_spec.specs.Shape.{team_among}
use Rattle.rc_play_spec.proofs.Counting.{passing-is, none_passes}

abbrev pub players_of : Teams → List ℕ
players_of teams = flat_map (λ team. team) teams

-- a team with a player
some_player : (team : List ℕ) → (length team == 0) ≡ false → 0 < length team
some_player [] none = absurd (true≢false none)
some_player (player ∷ team) some = omega arith

-- so there are no more teams than players
pub teams_few : (teams : Teams) → list_any (λ team. length team == 0) teams ≡ false → length teams ≤ length (players_of teams)
teams_few [] some = omega arith
teams_few (team ∷ teams) some =
    let parts = or_parts (length team == 0) (list_any (λ team. length team == 0) teams) some in
    let here = some_player team parts.0 in
    let rest = teams_few teams parts.1 in
    let sum = length-append team (players_of teams) in
    omega (arith, here, rest, sum)

-- what stands among numbers stands there without one of them, or is that one
without : (q x : ℕ) (xs ys : List ℕ) → is_among q (xs ++ (x ∷ ys)) ≡ true → (nat_eq q x ≡ true) ⊎ (is_among q (xs ++ ys) ≡ true)
without q x [] ys is = by (nat_eq q x) refl is
  where
    by : (b : Bool) → nat_eq q x ≡ b → (b || is_among q ys) ≡ true → (nat_eq q x ≡ true) ⊎ (is_among q ys ≡ true)
    by true same is = inl same
    by false other is = inr is
without q x (z ∷ xs) ys is = by (nat_eq q z) is (without q x xs ys)
  where
    by : (b : Bool) → (b || is_among q (xs ++ (x ∷ ys))) ≡ true
        → (is_among q (xs ++ (x ∷ ys)) ≡ true → (nat_eq q x ≡ true) ⊎ (is_among q (xs ++ ys) ≡ true))
        → (nat_eq q x ≡ true) ⊎ ((b || is_among q (xs ++ ys)) ≡ true)
    by true is later = inr refl
    by false is later = later is

-- as many numbers as those below another, which all stand among them
module _ (n : ℕ) (flat : List ℕ) (long : length flat ≡ n) (each : (q : ℕ) → q < n → is_among q flat ≡ true) where
  -- one of them can't be left out
  not_without : (xs ys : List ℕ) (x : ℕ) → flat ≡ xs ++ (x ∷ ys) → ((q : ℕ) → q < n → is_among q (xs ++ ys) ≡ true) → ⊥
  not_without xs ys x is all =
      let least = le-length_from_below (xs ++ ys) n all in
      let a = length-append xs ys in
      let b = ap length is in
      let c = length-append xs (x ∷ ys) in omega (arith, least, a, b, c, long)

  -- so each stands once
  stands_once : (xs ys : List ℕ) (x : ℕ) → flat ≡ xs ++ (x ∷ ys) → (b : Bool) → is_among x (xs ++ ys) ≡ b → b ≡ false
  stands_once xs ys x is false none = refl
  stands_once xs ys x is true some =
      absurd (not_without xs ys x is
      (λ q less. ⊎_elim (λ same. subst (λ m. is_among m (xs ++ ys) ≡ true) (sym (eqb-true q x same)) some) (λ other. other)
      (without q x xs ys (subst (λ l. is_among q l ≡ true) is (each q less)))))

  -- and is below
  is_below : (xs ys : List ℕ) (x : ℕ) → flat ≡ xs ++ (x ∷ ys) → (b : Bool) → nat_lt x n ≡ b → x < n
  is_below xs ys x is true less = ltb-true x n less
  is_below xs ys x is false more =
      let least = ltb-false x n more in
      absurd (not_without xs ys x is
      (λ q less. ⊎_elim (λ same. let equal = eqb-true q x same in absurd (omega (arith, equal, less, least))) (λ other. other)
      (without q x xs ys (subst (λ l. is_among q l ≡ true) is (each q less)))))

  -- Each team behind others has a player who stands in none of those.
  first_team : (before : List ℕ) (teams : Teams) (t : ℕ) → flat ≡ before ++ players_of teams → list_any (λ team. length team == 0) teams ≡ false →
      t < length teams → (x : ℕ) × (x < n) × (is_among x before ≡ false) × (team_among teams x ≡ t)
  first_team before [] t is some less = absurd (omega (arith, less))
  first_team before ([] ∷ teams) t is some less = absurd (true≢false some)
  first_team before ((x ∷ team) ∷ teams) zero is some less =
      let rest = team ++ players_of teams in
      let alone = or_parts (is_among x before) (is_among x rest)
      (sym (list_any-append (nat_eq x) before rest) ∙ stands_once before rest x is (is_among x (before ++ rest)) refl) in (
        x,
        is_below before rest x is (nat_lt x n) refl,
        alone.0,
        ap (λ b. if not (b || is_among x team) then 1 + team_among teams x else 0) ((Decides-eqb x x).1 refl),
      )
  first_team before ((y ∷ team) ∷ teams) (suc t) is some less =
      let others = (or_parts (length (y ∷ team) == 0) (list_any (λ team. length team == 0) teams) some).1 in
      let later = first_team (before ++ (y ∷ team)) teams t (is ∙ sym (append_assoc before (y ∷ team) (players_of teams))) others (omega (arith, less)) in
      let apart = or_parts (is_among later.0 before) (is_among later.0 (y ∷ team)) (sym (list_any-append (nat_eq later.0) before (y ∷ team)) ∙ later.2) in (
        later.0,
        later.1,
        apart.0,
        ap (λ b. if not b then 1 + team_among teams later.0 else 0) apart.1 ∙ ap (λ k. 1 + k) later.3 ∙ (let e : 1 + t ≡ suc t = omega arith in e),
      )

-- a number that is counted once stands there
counted_there : (q : ℕ) (flat : List ℕ) → count_by (nat_eq q) flat ≡ 1 → (b : Bool) → is_among q flat ≡ b → b ≡ true
counted_there q flat one true is = refl
counted_there q flat one false is =
    let none = none_passes (nat_eq q) flat is in
    let same = passing-is (nat_eq q) flat in
    absurd (omega (arith, one, none, same))

-- each team has a player whose team it is
pub team_has_player : (players : ℕ) (teams : Teams) → ArePartition players teams → (t : ℕ) → t < length teams →
    (x : ℕ) × (x < players) × (team_among teams x ≡ t)
team_has_player players teams are t less =
    let flat = players_of teams in
    let counts : ℕ → ℕ = λ q. count_by (nat_eq q) flat in
    let each : (q : ℕ) → q < players → is_among q flat ≡ true = λ q lt.
    let counted : counts q ≡ 1 =
    sym (get_or-map-range_with_len counts 0 players q q 0 lt (let e : 0 + q ≡ q = omega arith in e))
    ∙ ap (λ ns. get_or ns q 0) are.once ∙ get_or-replicate players q 1 0 lt in
    counted_there q flat counted (is_among q flat) refl in
    let found = first_team players flat are.whole each [] teams t refl are.some less in
    (found.0, found.1, found.3)

-- what f gives for a number in a range stands among what it gives for the range
given_by : (f : ℕ → ℕ) (t x a : ℕ) (rest : List ℕ) → f x ≡ t → ((a ≡ x → ⊥) → is_among t rest ≡ true) → (b : Bool) → nat_eq t (f a) ≡ b →
    (b || is_among t rest) ≡ true
given_by f t x a rest is later true same = refl
given_by f t x a rest is later false other =
    later (λ e. true≢false (sym ((Decides-eqb t (f a)).1 (sym (ap f e ∙ is))) ∙ other))

among_given : (f : ℕ → ℕ) (t x a n : ℕ) → a ≤ x → x < a + n → f x ≡ t → is_among t (map f (range_with_len a n)) ≡ true
among_given f t x a zero le lt is = absurd (omega (arith, le, lt))
among_given f t x a (suc n) le lt is =
    given_by f t x a (map f (range_with_len (a + 1) n)) is
    (λ differ. among_given f t x (a + 1) n (omega (arith, le, differ)) (omega (arith, lt)) is) (nat_eq t (f a)) refl

pub among_below : (f : ℕ → ℕ) (t x n : ℕ) → x < n → f x ≡ t → is_among t (map f (below n)) ≡ true
among_below f t x n lt is = among_given f t x 0 n (omega arith) (omega (arith, lt)) is
