-- Sums over the players, from the first on.
use Rattle.std.proofs.Common.{◌≡◌, ℕ, zero, suc, ◌+◌, ◌<◌, ◌≤◌, ◌==◌, Bool, true, false, if◌then◌else◌, List, [], ◌∷◌, ◌++◌, map, fold, pos, ℤ, ◌+ℤ◌, None, inl, inr, refl, ap, ◌∙◌, arith}
use Rattle.std.proofs.lemmas.Bool.{cases_eq, cond-true, cond-false, ne_eqb}
use Rattle.std.proofs.lemmas.Bool.Decides.{Decides-eqb}
use Rattle.std.specs.Prelude.{filter, slice_index_or, sum_by}
use Rattle.std.proofs.lemmas.List.{map-append, append-nil}
use Rattle.std.proofs.lemmas.List.Elements.{filter-append}
use Rattle.std.proofs.lemmas.List.Sums.{fold_push, sum_by_push}
use Rattle.std.proofs.lemmas.Int.{ints}
use Rattle.rc_base.specs.Numbers.{below}
use Rattle.rc_deck.proofs.RangeLemmas.{below_push}
use Rattle.rc_sheet_spec.specs.Sheet.{Sheet}
use Rattle.rc_play_spec.specs.Shape.{team_in}
use Rattle.rc_rules.specs.Points.{share}

-- one item more
pub mapped_push : {X : Type 0} (f : ℕ → X) (n : ℕ) → map f (below (n + 1)) ≡ map f (below n) ++ f n ∷ []
mapped_push f n = ap (map f) (below_push n) ∙ map-append f (below n) (n ∷ [])

-- one number more in a sum
pub summed_push : (f : ℕ → ℕ) (n : ℕ) → sum_by f (below (n + 1)) ≡ sum_by f (below n) + f n
summed_push f n = ap (sum_by f) (below_push n) ∙ sum_by_push f (below n) n

-- the sum of the scores of a team's players below a number
abbrev pub sum_below : Sheet → List ℤ → ℕ → ℕ → ℤ
sum_below sheet scores team n =
    fold ◌+ℤ◌ (pos 0) (map (λ player. slice_index_or scores player (pos 0)) (filter (λ player. team_in sheet.teams player == team) (below n)))

-- one player more
pub sum_below_push : (sheet : Sheet) (scores : List ℤ) (team n : ℕ) →
    sum_below sheet scores team (n + 1) ≡ sum_below sheet scores team n +ℤ share sheet scores team n
sum_below_push sheet scores team n =
    ap (λ ns. total (filter mine ns)) (below_push n) ∙ ap total (filter-append mine (below n) (n ∷ [])) ∙ by (mine n)
  where
    mine : ℕ → Bool
    mine player = team_in sheet.teams player == team

    score : ℕ → ℤ
    score player = slice_index_or scores player (pos 0)

    total : List ℕ → ℤ
    total players = fold ◌+ℤ◌ (pos 0) (map score players)

    by : (b : Bool) →
        total (filter mine (below n) ++ (if b then n ∷ [] else [])) ≡ total (filter mine (below n)) +ℤ (if b then score n else pos 0)
    by true =
        ap (fold ◌+ℤ◌ (pos 0)) (map-append score (filter mine (below n)) (n ∷ []))
        ∙ fold_push ◌+ℤ◌ (pos 0) (map score (filter mine (below n))) (score n)
    by false = ap total (append-nil (filter mine (below n))) ∙ omega (arith, ints)

-- without teams a player's share is the score of the player's own team
share_alone : (sheet : Sheet) → sheet.teams ≡ None → (scores : List ℤ) (team player : ℕ) →
    share sheet scores team player ≡ (if player == team then slice_index_or scores player (pos 0) else pos 0)
share_alone sheet none scores team player =
    ap (λ teams. if team_in teams player == team then slice_index_or scores player (pos 0) else pos 0) none

none_alone : (sheet : Sheet) → sheet.teams ≡ None → (scores : List ℤ) (team n : ℕ) → n ≤ team → sum_below sheet scores team n ≡ pos 0
none_alone sheet none scores team zero le = refl
none_alone sheet none scores team (suc n) le =
    let score = slice_index_or scores n (pos 0) in
    let more = sum_below_push sheet scores team n in
    let before = none_alone sheet none scores team n (omega (arith, le)) in
    let last = share_alone sheet none scores team n ∙ cond-false (n == team) score (pos 0) (ne_eqb n team (λ same. omega (arith, le, same))) in
    ap (sum_below sheet scores team) (let e : suc n ≡ n + 1 = omega arith in e) ∙ omega (arith, ints, more, before, last)

-- without teams a player is alone in a team
pub sum_alone : (sheet : Sheet) → sheet.teams ≡ None → (scores : List ℤ) (team n : ℕ) → team < n →
    sum_below sheet scores team n ≡ slice_index_or scores team (pos 0)
sum_alone sheet none scores team zero less = absurd (omega (arith, less))
sum_alone sheet none scores team (suc n) less =
    let score = slice_index_or scores n (pos 0) in
    let more = sum_below_push sheet scores team n in
    ap (sum_below sheet scores team) (let e : suc n ≡ n + 1 = omega arith in e)
    ∙ elim (cases_eq n team) [
      | inl same ↦
          let before = none_alone sheet none scores team n (omega (arith, same)) in
          let last = share_alone sheet none scores team n ∙ cond-true (n == team) score (pos 0) ((Decides-eqb n team).1 same)
          ∙ ap (λ player. slice_index_or scores player (pos 0)) same in
          omega (arith, ints, more, before, last)
      | inr other ↦
          let before = sum_alone sheet none scores team n (omega (arith, less, other)) in
          let last = share_alone sheet none scores team n ∙ cond-false (n == team) score (pos 0) (ne_eqb n team other) in
          omega (arith, ints, more, before, last)
    ]

pub sum_absent : (sheet : Sheet) → sheet.teams ≡ None → (scores : List ℤ) (team : ℕ) → sheet.players ≤ team →
    sum_below sheet scores team sheet.players ≡ pos 0
sum_absent sheet none scores team le = none_alone sheet none scores team sheet.players le
