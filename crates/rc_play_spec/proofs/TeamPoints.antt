-- Rank points in a game of two teams: they are those of one of three outcomes.
use Rattle.std.proofs.Common.{◌≡◌, ℕ, ◌+◌, ◌-◌, ◌*◌, ◌<◌, ◌≤◌, ◌==◌, max, min, Bool, true, false, if◌then◌else◌, List, [], ◌∷◌, length, map, get_or, ℤ, int_lt, int_eq, refl, sym, ap, ◌∙◌, arith, true≢false}
use Rattle.std.specs.Prelude.{fold, sum_by}
use Rattle.std.specs.List.{AllByRecursion}
use Rattle.std.proofs.lemmas.Int.{ints}
use Rattle.std.proofs.lemmas.Bool.Decides.{Decides-eqb, Decides-int_eq}
use Rattle.std.proofs.lemmas.List.Sums.{sum_by-cons}
use Rattle.std.proofs.lemmas.List.FromFn.{get_or-map-range_with_len}
use Rattle.rc_base.specs.Numbers.{below}
use Rattle.rc_sheet_spec.specs.Sheet.{Best, highest, lowest, Sheet}
use Rattle.rc_play_spec.specs.Shape.{team_in}
use Rattle.rc_play_spec.specs.Scores.{team_score, is_worse, points_against, rank_points}
use Rattle.rc_play_spec.proofs.Counting.{one_if, passing, same, once_below}
use Rattle.rc_play_spec.proofs.CardLemmas.{numbers_below}
use Rattle.rc_play_spec.specs.Search.{best_for}
use Rattle.rc_play_spec.specs.SearchValue.{is_mate, most_points}
use Rattle.rc_play_spec.proofs.BestPoints.{entry, fold_most, fold_fewest, fold_above, best_among, best_entry}

-- how the one team fared against the other
pub data Outcome : Type 0 where
  lost : Outcome
  tied : Outcome
  won : Outcome

-- what it gets, and what the other gets, for each player of the opposite team
abbrev pub gets : Outcome → ℕ
gets lost = 0
gets tied = 1
gets won = 2

abbrev pub gives : Outcome → ℕ
gives lost = 2
gives tied = 1
gives won = 0

abbrev pub for_scores : Best → ℤ → ℤ → ℕ
for_scores best own other = if is_worse best other own then 2 else if int_eq other own then 1 else 0

abbrev pub Fares : Best → ℤ → ℤ → Type 0
Fares best x y = (o : Outcome) × (for_scores best x y ≡ gets o) × (for_scores best y x ≡ gives o)

-- by what comparing the scores tells
highest_by : (x y : ℤ) (a b c d : Bool) → int_lt y x ≡ a → int_eq y x ≡ b → int_lt x y ≡ c → int_eq x y ≡ d →
    (o : Outcome) × ((if a then 2 else if b then 1 else 0) ≡ gets o) × ((if c then 2 else if d then 1 else 0) ≡ gives o)
highest_by x y true b false false ea eb ec ed = (won, refl, refl)
highest_by x y false true false true ea eb ec ed = (tied, refl, refl)
highest_by x y false false true d ea eb ec ed = (lost, refl, refl)
highest_by x y true b true d ea eb ec ed = absurd (omega (arith, ints))
highest_by x y true b false true ea eb ec ed = let e : x ≡ y = (Decides-int_eq x y).0 ed in absurd (omega (arith, ints, e))
highest_by x y false true true d ea eb ec ed = let e : y ≡ x = (Decides-int_eq y x).0 eb in absurd (omega (arith, ints, e))
highest_by x y false true false false ea eb ec ed = absurd (true≢false (sym ((Decides-int_eq x y).1 (sym ((Decides-int_eq y x).0 eb))) ∙ ed))
highest_by x y false false false d ea eb ec ed = let e : y ≡ x = omega (arith, ints) in absurd (true≢false (sym ((Decides-int_eq y x).1 e) ∙ eb))

lowest_by : (x y : ℤ) (a b c d : Bool) → int_lt x y ≡ a → int_eq y x ≡ b → int_lt y x ≡ c → int_eq x y ≡ d →
    (o : Outcome) × ((if a then 2 else if b then 1 else 0) ≡ gets o) × ((if c then 2 else if d then 1 else 0) ≡ gives o)
lowest_by x y true b false false ea eb ec ed = (won, refl, refl)
lowest_by x y false true false true ea eb ec ed = (tied, refl, refl)
lowest_by x y false false true d ea eb ec ed = (lost, refl, refl)
lowest_by x y true b true d ea eb ec ed = absurd (omega (arith, ints))
lowest_by x y true b false true ea eb ec ed = let e : x ≡ y = (Decides-int_eq x y).0 ed in absurd (omega (arith, ints, e))
lowest_by x y false true true d ea eb ec ed = let e : y ≡ x = (Decides-int_eq y x).0 eb in absurd (omega (arith, ints, e))
lowest_by x y false true false false ea eb ec ed = absurd (true≢false (sym ((Decides-int_eq x y).1 (sym ((Decides-int_eq y x).0 eb))) ∙ ed))
lowest_by x y false false false d ea eb ec ed = let e : y ≡ x = omega (arith, ints) in absurd (true≢false (sym ((Decides-int_eq y x).1 e) ∙ eb))

pub fares : (best : Best) (x y : ℤ) → Fares best x y
fares highest x y = highest_by x y (int_lt y x) (int_eq y x) (int_lt x y) (int_eq x y) refl refl refl refl
fares lowest x y = lowest_by x y (int_lt x y) (int_eq y x) (int_lt y x) (int_eq x y) refl refl refl refl

-- ---- sums over the players

sum_same : (f g : ℕ → ℕ) (xs : List ℕ) → AllByRecursion (λ x. f x ≡ g x) xs → sum_by f xs ≡ sum_by g xs
sum_same f g [] all = refl
sum_same f g (x ∷ xs) all = let h = sum_same f g xs all.1 in let e = all.0 in omega (arith, h, e, sum_by-cons f x xs, sum_by-cons g x xs)

map_same : {Y : Type 0} (f g : ℕ → Y) (xs : List ℕ) → AllByRecursion (λ x. f x ≡ g x) xs → map f xs ≡ map g xs
map_same f g [] all = refl
map_same f g (x ∷ xs) all = ap (λ y. y ∷ map f xs) all.0 ∙ ap (λ ys. g x ∷ ys) (map_same f g xs all.1)

all_map : {X : Type 0} (P Q : X → Type 0) (f : (x : X) → P x → Q x) (xs : List X) → AllByRecursion P xs → AllByRecursion Q xs
all_map P Q f [] all = tt
all_map P Q f (x ∷ xs) all = (f x all.0, all_map P Q f xs all.1)

module _ (sheet : Sheet) (seat : ℕ) (plays : seat < sheet.players) (teams : (p : ℕ) → p < sheet.players → team_in sheet.teams p < 2) where
  abbrev pub mate : ℕ → Bool
  mate p = is_mate sheet seat p

  -- how many players there are of the seat's team, and of the other one
  abbrev pub own : ℕ
  own = sum_by (λ p. if mate p then 1 else 0) (below sheet.players)

  abbrev pub others : ℕ
  others = sum_by (λ p. if mate p then 0 else 1) (below sheet.players)

  scaled_own : (n : ℕ) (xs : List ℕ) → sum_by (λ p. if mate p then n else 0) xs ≡ sum_by (λ p. if mate p then 1 else 0) xs * n
  scaled_own n [] = omega arith
  scaled_own n (x ∷ xs) =
      sum_by-cons (λ p. if mate p then n else 0) x xs ∙ by (mate x) (scaled_own n xs) ∙ sym (ap (λ k. k * n) (sum_by-cons (λ p. if mate p then 1 else 0) x xs)) where
        by : (b : Bool) → sum_by (λ p. if mate p then n else 0) xs ≡ sum_by (λ p. if mate p then 1 else 0) xs * n →
            (if b then n else 0) + sum_by (λ p. if mate p then n else 0) xs ≡ ((if b then 1 else 0) + sum_by (λ p. if mate p then 1 else 0) xs) * n
        by true h = omega (arith, h)
        by false h = omega (arith, h)

  scaled_others : (n : ℕ) (xs : List ℕ) → sum_by (λ p. if mate p then 0 else n) xs ≡ sum_by (λ p. if mate p then 0 else 1) xs * n
  scaled_others n [] = omega arith
  scaled_others n (x ∷ xs) =
      sum_by-cons (λ p. if mate p then 0 else n) x xs ∙ by (mate x) (scaled_others n xs) ∙ sym (ap (λ k. k * n) (sum_by-cons (λ p. if mate p then 0 else 1) x xs)) where
        by : (b : Bool) → sum_by (λ p. if mate p then 0 else n) xs ≡ sum_by (λ p. if mate p then 0 else 1) xs * n →
            (if b then 0 else n) + sum_by (λ p. if mate p then 0 else n) xs ≡ ((if b then 0 else 1) + sum_by (λ p. if mate p then 0 else 1) xs) * n
        by true h = omega (arith, h)
        by false h = omega (arith, h)

  pub most_is : most_points sheet seat ≡ others * 2
  most_is = scaled_others 2 (below sheet.players)

  mate_itself : mate seat ≡ true
  mate_itself = (Decides-eqb (team_in sheet.teams seat) (team_in sheet.teams seat)).1 refl

  at_least : (xs : List ℕ) → passing (same seat) xs ≤ sum_by (λ p. if mate p then 1 else 0) xs
  at_least [] = omega arith
  at_least (x ∷ xs) =
      let h = by (x == seat) refl (at_least xs) in
      let e = sum_by-cons (λ p. if mate p then 1 else 0) x xs in omega (arith, h, e)
    where
      by : (b : Bool) → (x == seat) ≡ b → passing (same seat) xs ≤ sum_by (λ p. if mate p then 1 else 0) xs →
          one_if b + passing (same seat) xs ≤ (if mate x then 1 else 0) + sum_by (λ p. if mate p then 1 else 0) xs
      by true is h =
          let one : Bool → ℕ = λ b. if b then 1 else 0 in
          let e : one (mate x) ≡ one true = ap one (ap mate ((Decides-eqb x seat).0 is) ∙ mate_itself) in omega (arith, h, e)
      by false is h = omega (arith, h)

  some_own : 1 ≤ own
  some_own = let h = at_least (below sheet.players) in let one = once_below seat sheet.players plays in omega (arith, h, one)

  -- what each player has where the seat's team fared so
  abbrev pub has : Outcome → ℕ → ℕ
  has o p = if mate p then others * gets o else own * gives o

  abbrev pub points_for : Outcome → List ℕ
  points_for o = map (has o) (below sheet.players)

  has_it : (o : Outcome) (p : ℕ) → p < sheet.players → get_or (points_for o) p 0 ≡ has o p
  has_it o p lt = get_or-map-range_with_len (has o) 0 sheet.players p p 0 lt (omega arith)

  -- the other team
  module _ (scores : List ℤ) where
    abbrev pub A : ℕ
    A = team_in sheet.teams seat

    abbrev pub B : ℕ
    B = 1 - A

    abbrev pub Fared : Type 0
    Fared = Fares sheet.best (team_score sheet scores A) (team_score sheet scores B)

    pub fared : Fared
    fared = fares sheet.best (team_score sheet scores A) (team_score sheet scores B)

    -- which is that of all who are no mates
    same_team : (p : ℕ) → mate p ≡ true → team_in sheet.teams p ≡ A
    same_team p is = sym ((Decides-eqb A (team_in sheet.teams p)).0 is)

    other_team : (p : ℕ) → p < sheet.players → mate p ≡ false → team_in sheet.teams p ≡ B
    other_team p lt is =
        let differ : A ≡ team_in sheet.teams p → ⊥ = λ e. true≢false (sym ((Decides-eqb A (team_in sheet.teams p)).1 e) ∙ is) in
        let a = teams seat plays in
        let b = teams p lt in omega (arith, differ, a, b)

    apart : (A == B) ≡ false
    apart = by (A == B) refl where
      by : (b : Bool) → (A == B) ≡ b → b ≡ false
      by true is = let e = (Decides-eqb A B).0 is in let a = teams seat plays in absurd (omega (arith, e, a))
      by false is = refl

    apart_too : (B == A) ≡ false
    apart_too = by (B == A) refl where
      by : (b : Bool) → (B == A) ≡ b → b ≡ false
      by true is = let e = (Decides-eqb B A).0 is in let a = teams seat plays in absurd (omega (arith, e, a))
      by false is = refl

    none_within : (team : ℕ) → points_against sheet scores team team ≡ 0
    none_within team = ap (λ b. if b then 0 else for_scores sheet.best (team_score sheet scores team) (team_score sheet scores team)) ((Decides-eqb team team).1 refl)

    one_way : points_against sheet scores A B ≡ gets fared.0
    one_way = ap (λ b. if b then 0 else for_scores sheet.best (team_score sheet scores A) (team_score sheet scores B)) apart ∙ fared.1

    other_way : points_against sheet scores B A ≡ gives fared.0
    other_way = ap (λ b. if b then 0 else for_scores sheet.best (team_score sheet scores B) (team_score sheet scores A)) apart_too ∙ fared.2

    against_own : (q : ℕ) → q < sheet.players → points_against sheet scores A (team_in sheet.teams q) ≡ (if mate q then 0 else gets fared.0)
    against_own q lt = by (mate q) refl where
      by : (b : Bool) → mate q ≡ b → points_against sheet scores A (team_in sheet.teams q) ≡ (if b then 0 else gets fared.0)
      by true is = ap (points_against sheet scores A) (same_team q is) ∙ none_within A
      by false is = ap (points_against sheet scores A) (other_team q lt is) ∙ one_way

    against_other : (q : ℕ) → q < sheet.players → points_against sheet scores B (team_in sheet.teams q) ≡ (if mate q then gives fared.0 else 0)
    against_other q lt = by (mate q) refl where
      by : (b : Bool) → mate q ≡ b → points_against sheet scores B (team_in sheet.teams q) ≡ (if b then gives fared.0 else 0)
      by true is = ap (points_against sheet scores B) (same_team q is) ∙ other_way
      by false is = ap (points_against sheet scores B) (other_team q lt is) ∙ none_within B

    players_below : AllByRecursion (λ p. p < sheet.players) (below sheet.players)
    players_below = numbers_below 0 sheet.players sheet.players (omega arith)

    points_of : (p : ℕ) → p < sheet.players → rank_points sheet scores p ≡ has fared.0 p
    points_of p lt = by (mate p) refl where
      by : (b : Bool) → mate p ≡ b → rank_points sheet scores p ≡ (if b then others * gets fared.0 else own * gives fared.0)
      by true is =
          ap (λ team. sum_by (λ q. points_against sheet scores team (team_in sheet.teams q)) (below sheet.players)) (same_team p is)
          ∙ sum_same (λ q. points_against sheet scores A (team_in sheet.teams q)) (λ q. if mate q then 0 else gets fared.0) (below sheet.players)
          (all_map (λ q. q < sheet.players) (λ q. points_against sheet scores A (team_in sheet.teams q) ≡ (if mate q then 0 else gets fared.0)) against_own (below sheet.players) players_below)
          ∙ scaled_others (gets fared.0) (below sheet.players)
      by false is =
          ap (λ team. sum_by (λ q. points_against sheet scores team (team_in sheet.teams q)) (below sheet.players)) (other_team p lt is)
          ∙ sum_same (λ q. points_against sheet scores B (team_in sheet.teams q)) (λ q. if mate q then gives fared.0 else 0) (below sheet.players)
          (all_map (λ q. q < sheet.players) (λ q. points_against sheet scores B (team_in sheet.teams q) ≡ (if mate q then gives fared.0 else 0)) against_other (below sheet.players) players_below)
          ∙ scaled_own (gives fared.0) (below sheet.players)

    pub points_fared : map (rank_points sheet scores) (below sheet.players) ≡ points_for fared.0
    points_fared =
        map_same (rank_points sheet scores) (has fared.0) (below sheet.players)
        (all_map (λ p. p < sheet.players) (λ p. rank_points sheet scores p ≡ has fared.0 p) points_of (below sheet.players) players_below)

  -- ---- the best of such lists

  abbrev pub IsFared : List ℕ → Type 0
  IsFared points = (o : Outcome) × (points ≡ points_for o)

  entry_is : (p : ℕ) → p < sheet.players → (points : List ℕ) (o : Outcome) → points ≡ points_for o → entry p points ≡ has o p
  entry_is p lt points o is = ap (entry p) is ∙ has_it o p lt

  own_entry : (points : List ℕ) (o : Outcome) → points ≡ points_for o → entry seat points ≡ others * gets o
  own_entry points o is = entry_is seat plays points o is ∙ ap (λ b. if b then others * gets o else own * gives o) mate_itself

  -- a mate has as much as the seat
  mate_entry : (p : ℕ) → p < sheet.players → mate p ≡ true → (points : List ℕ) → IsFared points → entry p points ≡ entry seat points
  mate_entry p lt is points fared =
      entry_is p lt points fared.0 fared.1 ∙ ap (λ b. if b then others * gets fared.0 else own * gives fared.0) is ∙ sym (own_entry points fared.0 fared.1)

  -- and who is none has the less, the more the seat has
  against : (o o' : Outcome) → own * gives o ≤ own * gives o' → others * gets o' ≤ others * gets o
  against lost lost le = omega arith
  against lost tied le = let some = some_own in absurd (omega (arith, le, some))
  against lost won le = let some = some_own in absurd (omega (arith, le, some))
  against tied lost le = omega arith
  against tied tied le = omega arith
  against tied won le = let some = some_own in absurd (omega (arith, le, some))
  against won lost le = omega arith
  against won tied le = omega arith
  against won won le = omega arith

  rival_entry : (p : ℕ) → p < sheet.players → mate p ≡ false → (points other : List ℕ) → IsFared points → IsFared other →
      entry p points ≤ entry p other → entry seat other ≤ entry seat points
  rival_entry p lt is points other fared fared' le =
      let a = entry_is p lt points fared.0 fared.1 ∙ ap (λ b. if b then others * gets fared.0 else own * gives fared.0) is in
      let b = entry_is p lt other fared'.0 fared'.1 ∙ ap (λ b. if b then others * gets fared'.0 else own * gives fared'.0) is in
      let c = own_entry points fared.0 fared.1 in
      let d = own_entry other fared'.0 fared'.1 in
      let h = against fared.0 fared'.0 (omega (arith, le, a, b)) in omega (arith, h, c, d)

  few : (o : Outcome) → others * gets o ≤ others * 2
  few lost = omega arith
  few tied = omega arith
  few won = omega arith

  pub fared_few : (points : List ℕ) → IsFared points → entry seat points ≤ most_points sheet seat
  fared_few points fared =
      let a = own_entry points fared.0 fared.1 in let b = few fared.0 in let c = most_is in omega (arith, a, b, c)

  all_entries : (P : ℕ → Type 0) (Q : List ℕ → Type 0) (p : ℕ) → ((points : List ℕ) → Q points → P (entry p points)) → (lists : List (List ℕ)) →
      AllByRecursion Q lists → AllByRecursion P (map (entry p) lists)
  all_entries P Q p each [] all = tt
  all_entries P Q p each (points ∷ lists) all = (each points all.0, all_entries P Q p each lists all.1)

  back_entries : (P : ℕ → Type 0) (p : ℕ) (lists : List (List ℕ)) → AllByRecursion P (map (entry p) lists) → AllByRecursion (λ points. P (entry p points)) lists
  back_entries P p [] all = tt
  back_entries P p (points ∷ lists) all = (all.0, back_entries P p lists all.1)

  zipped : (P Q R : List ℕ → Type 0) → ((points : List ℕ) → P points → Q points → R points) → (lists : List (List ℕ)) → AllByRecursion P lists → AllByRecursion Q lists → AllByRecursion R lists
  zipped P Q R f [] all all' = tt
  zipped P Q R f (points ∷ lists) all all' = (f points all.0 all'.0, zipped P Q R f lists all.1 all'.1)

  same_entries : (p : ℕ) (lists : List (List ℕ)) → AllByRecursion (λ points. entry p points ≡ entry seat points) lists → map (entry p) lists ≡ map (entry seat) lists
  same_entries p [] all = refl
  same_entries p (points ∷ lists) all = ap (λ n. n ∷ map (entry p) lists) all.0 ∙ ap (λ ns. entry seat points ∷ ns) (same_entries p lists all.1)

  pub best_fared : (p : ℕ) (lists : List (List ℕ)) → 0 < length lists → AllByRecursion IsFared lists → IsFared (best_for p lists)
  best_fared p lists some all = best_among p IsFared lists some all

  -- what the mover takes is the most or the least for the seat
  pub best_turns_out : (p : ℕ) → p < sheet.players → (lists : List (List ℕ)) → 0 < length lists → AllByRecursion IsFared lists →
      entry seat (best_for p lists)
      ≡ (if mate p then fold max 0 (map (entry seat) lists) else fold min (most_points sheet seat) (map (entry seat) lists))
  best_turns_out p lt lists some all = by (mate p) refl where
    best : List ℕ
    best = best_for p lists

    by : (b : Bool) → mate p ≡ b → entry seat (best_for p lists) ≡ (if b then fold max 0 (map (entry seat) lists) else fold min (most_points sheet seat) (map (entry seat) lists))
    by true is =
        sym (mate_entry p lt is (best_for p lists) (best_fared p lists some all)) ∙ best_entry p lists some
        ∙ ap (fold max 0) (same_entries p lists (all_map IsFared (λ points. entry p points ≡ entry seat points) (mate_entry p lt is) lists all))
    by false is =
        let top = best_entry p lists some in
        let most = back_entries (λ x. x ≤ fold max 0 (map (entry p) lists)) p lists (fold_most 0 (map (entry p) lists)) in
        let fared = best_fared p lists some all in
        let least : AllByRecursion (λ points. entry seat (best_for p lists) ≤ entry seat points) lists =
        zipped IsFared (λ points. entry p points ≤ fold max 0 (map (entry p) lists)) (λ points. entry seat (best_for p lists) ≤ entry seat points)
        (λ points f le. rival_entry p lt is points (best_for p lists) f fared (omega (arith, le, top))) lists all most in
        let low = fold_above (most_points sheet seat) (entry seat (best_for p lists)) (map (entry seat) lists) (fared_few (best_for p lists) fared)
        (all_entries (λ x. entry seat (best_for p lists) ≤ x) (λ points. entry seat (best_for p lists) ≤ entry seat points) seat (λ points le. le) lists least) in
        let high = best_among p (λ points. fold min (most_points sheet seat) (map (entry seat) lists) ≤ entry seat points) lists some
        (back_entries (λ x. fold min (most_points sheet seat) (map (entry seat) lists) ≤ x) seat lists (fold_fewest (most_points sheet seat) (map (entry seat) lists))) in
        omega (arith, low, high)
