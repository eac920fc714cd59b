-- The members of the teams in the form of a sheet are those of the sheet: players, who differ, and no player is left out.
use Rattle.std.proofs.Common.{◌≡◌, ℕ, zero, suc, ◌+◌, ◌<◌, Bool, true, false, ◌||◌, ◌&&◌, List, [], ◌∷◌, ◌++◌, ◌⊎◌, inl, inr, ⊎_elim, length, map, flat_map, nat_eq, nat_lt, refl, sym, subst, ap, ap₂, ◌∙◌, arith, append_assoc, eqb-true, ltb-true, ltb-false}
use Rattle.std.specs.Prelude.{count_by, replicate}
use Rattle.std.specs.List.{list_all, AllByRecursion, range_with_len, IsDistinct}
use Rattle.std.proofs.lemmas.Bool.{or_parts}
use Rattle.std.proofs.lemmas.List.{length-append}
use Rattle.std.proofs.lemmas.List.Folds.{list_any-append}
use Rattle.std.proofs.lemmas.Map.Steps.{le-length_from_below}
use Rattle.rc_base.specs.Tree.{word, list, Trees, nil, cons}
use Rattle.rc_sheet_spec.specs.Sheet.{Teams}
use Rattle.rc_base.specs.Numbers.{below}
use Rattle.rc_sheet_spec.specs.StandsSetup.{StandsTeam, StandTeams}
use Rattle.rc_sheet_spec.specs.WellFormed.{is_among, ArePartition}
use Rattle.rc_check.specs.SecondNames.{numbers_in, team_players}
use Rattle.rc_sheet.proofs.Sound.Counts.{number_said}
use Rattle.rc_sheet.proofs.Shaped.Teams.{counted_among}
use Rattle.rc_sheet.proofs.TeamNumbers.{none_equal}

-- WHO STANDS IN A LINE

team_numbers : (team : List ℕ) (trees : Trees) → StandsTeam team trees → numbers_in trees ≡ team
team_numbers [] nil stands = refl
team_numbers [] (cons tree trees) stands = absurd stands
team_numbers (player ∷ team) nil stands = absurd stands
team_numbers (player ∷ team) (cons tree trees) stands =
    ap₂ ◌∷◌ (number_said player tree stands.0) (team_numbers team trees stands.1)

pub players_listed : (teams : Teams) (trees : Trees) → StandTeams teams trees
    → team_players trees ≡ flat_map (λ team. team) teams
players_listed [] nil stands = refl
players_listed [] (cons tree trees) stands = absurd stands
players_listed (team ∷ teams) nil stands = absurd stands
players_listed (team ∷ teams) (cons (word bytes from to) trees) stands = absurd stands.0
players_listed (team ∷ teams) (cons (list parts from to) trees) stands =
    ap₂ ◌++◌ (team_numbers team parts stands.0.1) (players_listed teams trees stands.1)

-- NONE IS LEFT OUT

-- so where each is counted once
each_there : (flat ns : List ℕ) (k : ℕ) → map (λ n. count_by (nat_eq n) flat) ns ≡ replicate k 1
    → list_all (λ n. is_among n flat) ns ≡ true
each_there flat [] k is = refl
each_there flat (n ∷ ns) zero is = absurd cc
each_there flat (n ∷ ns) (suc k) is =
    let here : count_by (nat_eq n) flat ≡ 1 = cc in
    let later : map (λ n. count_by (nat_eq n) flat) ns ≡ replicate k 1 = cc in
    ap₂ ◌&&◌ (counted_among n flat here) (each_there flat ns k later)

pub none_missing : (players : ℕ) (teams : Teams) → ArePartition players teams
    → list_all (λ n. is_among n (flat_map (λ team. team) teams)) (below players) ≡ true
none_missing players teams are = each_there (flat_map (λ team. team) teams) (below players) players are.once

-- one of those below another
one_below : (P : ℕ → Bool) (start k q : ℕ) → list_all P (range_with_len start k) ≡ true → q < k → P (start + q) ≡ true
one_below P start zero q all less = absurd (omega (arith, less))
one_below P start (suc k) zero all less =
    let same : start ≡ start + 0 = omega arith in
    subst (λ n. P n ≡ true) same (first_true (P start) (list_all P (range_with_len (start + 1) k)) all)
  where
    first_true : (a b : Bool) → (a && b) ≡ true → a ≡ true
    first_true true b is = refl
    first_true false b is = absurd cc
one_below P start (suc k) (suc q) all less =
    let same : (start + 1) + q ≡ start + suc q = omega arith in
    subst (λ n. P n ≡ true) same
    (one_below P (start + 1) k q (second_true (P start) (list_all P (range_with_len (start + 1) k)) all) (omega (arith, less)))
  where
    second_true : (a b : Bool) → (a && b) ≡ true → b ≡ true
    second_true true b is = is
    second_true false b is = absurd cc

-- EACH IS A PLAYER, AND STANDS ONCE

-- what stands among numbers stands there without one of them, or is that one
without : (q x : ℕ) (xs ys : List ℕ) → is_among q (xs ++ (x ∷ ys)) ≡ true → (nat_eq q x ≡ true) ⊎ (is_among q (xs ++ ys) ≡ true)
without q x [] ys is = by (nat_eq q x) refl is
  where
    by : (b : Bool) → nat_eq q x ≡ b → (b || is_among q ys) ≡ true → (nat_eq q x ≡ true) ⊎ (is_among q ys ≡ true)
    by true same is = inl same
    by false other is = inr is
without q x (z ∷ xs) ys is = by (nat_eq q z) is (without q x xs ys)
  where
    by : (b : Bool) → (b || is_among q (xs ++ (x ∷ ys))) ≡ true
        → (is_among q (xs ++ (x ∷ ys)) ≡ true → (nat_eq q x ≡ true) ⊎ (is_among q (xs ++ ys) ≡ true))
        → (nat_eq q x ≡ true) ⊎ ((b || is_among q (xs ++ ys)) ≡ true)
    by true is later = inr refl
    by false is later = later is

-- as many numbers as those below another, which all stand among them
module _ (n : ℕ) (flat : List ℕ) (long : length flat ≡ n) (each : (q : ℕ) → q < n → is_among q flat ≡ true) where
  -- one of them can't be left out
  not_without : (xs ys : List ℕ) (x : ℕ) → flat ≡ xs ++ (x ∷ ys) → ((q : ℕ) → q < n → is_among q (xs ++ ys) ≡ true) → ⊥
  not_without xs ys x is all =
      let least = le-length_from_below (xs ++ ys) n all in
      let a = length-append xs ys in
      let b = ap length is in
      let c = length-append xs (x ∷ ys) in omega (arith, least, a, b, c, long)

  one_alone : (xs ys : List ℕ) (x : ℕ) → flat ≡ xs ++ (x ∷ ys) → is_among x (xs ++ ys) ≡ false
  one_alone xs ys x is = by (is_among x (xs ++ ys)) refl
    where
      by : (b : Bool) → is_among x (xs ++ ys) ≡ b → b ≡ false
      by false none = refl
      by true some =
          absurd (not_without xs ys x is
          (λ q less. ⊎_elim (λ same. subst (λ m. is_among m (xs ++ ys) ≡ true) (sym (eqb-true q x same)) some) (λ other. other)
          (without q x xs ys (subst (λ l. is_among q l ≡ true) is (each q less)))))

  one_player : (xs ys : List ℕ) (x : ℕ) → flat ≡ xs ++ (x ∷ ys) → x < n
  one_player xs ys x is = by (nat_lt x n) refl
    where
      by : (b : Bool) → nat_lt x n ≡ b → x < n
      by true less = ltb-true x n less
      by false more =
          let least = ltb-false x n more in
          absurd (not_without xs ys x is
          (λ q less. ⊎_elim (λ same. let equal = eqb-true q x same in absurd (omega (arith, equal, less, least))) (λ other. other)
          (without q x xs ys (subst (λ l. is_among q l ≡ true) is (each q less)))))

  all_differ : (xs ys : List ℕ) → flat ≡ xs ++ ys → IsDistinct nat_eq ys
  unfolding IsDistinct
  all_differ xs [] is = tt
  all_differ xs (y ∷ ys) is =
      let none = one_alone xs ys y is in
      let split = or_parts (is_among y xs) (is_among y ys) (sym (list_any-append (nat_eq y) xs ys) ∙ none) in
      (none_equal y ys split.1, all_differ (xs ++ y ∷ []) ys (is ∙ sym (append_assoc xs (y ∷ []) ys)))

  all_players : (xs ys : List ℕ) → flat ≡ xs ++ ys → AllByRecursion (λ m. m < n) ys
  all_players xs [] is = tt
  all_players xs (y ∷ ys) is =
      (one_player xs ys y is, all_players (xs ++ y ∷ []) ys (is ∙ sym (append_assoc xs (y ∷ []) ys)))

-- the members of a partition
pub partition_differs : (players : ℕ) (teams : Teams) → ArePartition players teams
    → IsDistinct nat_eq (flat_map (λ team. team) teams) × AllByRecursion (λ n. n < players) (flat_map (λ team. team) teams)
partition_differs players teams are =
    let flat = flat_map (λ team. team) teams in
    let each : (q : ℕ) → q < players → is_among q flat ≡ true =
    λ q less. no_start flat q (one_below (λ n. is_among n flat) 0 players q (none_missing players teams are) less) in
    (all_differ players flat are.whole each [] flat refl, all_players players flat are.whole each [] flat refl)
  where
    no_start : (flat : List ℕ) (q : ℕ) → is_among (0 + q) flat ≡ true → is_among q flat ≡ true
    no_start flat q is = let same : 0 + q ≡ q = omega arith in subst (λ m. is_among m flat ≡ true) same is
