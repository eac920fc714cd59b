-- Forms that stand for the players and the teams have the shape of their place: where each player stands in one team, no team
-- has another number.
use Rattle.std.proofs.Common.{◌≡◌, ℕ, zero, suc, ◌+◌, ◌<◌, ◌≤◌, nat_le, Bool, true, false, ◌&&◌, ◌||◌, cond, List, [], ◌∷◌, length, map, flat_map, nat_eq, pos, Some, refl, sym, subst, ap, ap₂, ◌∙◌, arith, eqb-true, eq-eqb, ne_eqb, lt-ltb, leb-true, le-leb}
use Rattle.std.specs.Prelude.{codes, count_by, replicate}
use Rattle.std.specs.List.{AllByRecursion, range_with_len}
use Rattle.std.proofs.lemmas.Bool.{cond-true, cond-false, or_left, or_right, eqb-false}
use Rattle.std.proofs.Math.Nat.{lt_of_not-le}
use Rattle.std.proofs.lemmas.Map.Steps.{le-length_from_below}
use Rattle.std.proofs.lemmas.List.{length-map}
use Rattle.rc_base.specs.Literal.{integer}
use Rattle.rc_base.specs.Tree.{Tree, word, list, Trees, nil, cons, count}
use Rattle.rc_deck.proofs.EachLemmas.{parts_of_append}
use Rattle.rc_sheet_spec.specs.Sheet.{Teams}
use Rattle.rc_sheet_spec.specs.Rows.{Some as Full}
use Rattle.rc_sheet_spec.specs.Naming.{Literal}
use Rattle.rc_sheet_spec.specs.StandsSetup.{StandsPlayers, StandsTeam, StandTeams, StandsTeams}
use Rattle.rc_sheet_spec.specs.WellFormed.{is_among, ArePartition}
use Rattle.rc_check.specs.Grammar.{front_of, more_of}
use Rattle.rc_check.specs.Faults.{is_within, faults, rule_of, fits}
use Rattle.rc_sheet.proofs.One.Rows.{row_words, row_word_part}
use Rattle.rc_sheet.proofs.TeamNumbers.{none_counted}
use Rattle.rc_sheet.proofs.Shaped.Common.{AllShaped, AreShaped, is_plain, form_shaped, row_shaped, more_fit_two, accepted, atom_shaped}
use Rattle.rc_check.specs.declared.fault.SheetKind.TheVariants.{Number}
use Rattle.rc_check.specs.declared.grammar.Symbol.{Symbol}
use Rattle.rc_check.specs.declared.grammar.Symbol.TheVariants as symbol
use Rattle.rc_check.specs.declared.grammar.Rule.{Rule}
use Rattle.rc_check.specs.declared.grammar.Rule.TheVariants as rule

-- NUMBERS THAT ARE ALL THOSE BELOW ANOTHER

abbrev tail_of : List ℕ → List ℕ
tail_of [] = []
tail_of (n ∷ ns) = ns

abbrev head_of : List ℕ → ℕ
head_of [] = 0
head_of (n ∷ ns) = n

-- where what is counted is a list of ones, each is one
ones_at : (f : ℕ → ℕ) (start n : ℕ) → map f (range_with_len start n) ≡ replicate n 1
    → (q : ℕ) → start ≤ q → q < start + n → f q ≡ 1
ones_at f start zero is q low high = absurd (omega (arith, low, high))
ones_at f start (suc n) is q low high =
    by (nat_eq q start) refl
    (λ above. ones_at f (start + 1) n (ap tail_of is) q above (omega (arith, high)))
  where
    by : (b : Bool) → nat_eq q start ≡ b → (start + 1 ≤ q → f q ≡ 1) → f q ≡ 1
    by true same later = subst (λ m. f m ≡ 1) (sym (eqb-true q start same)) (ap head_of is)
    by false other later = let apart = eqb-false q start other in later (omega (arith, low, apart))

-- what is counted once stands there
pub counted_among : (q : ℕ) (ns : List ℕ) → count_by (nat_eq q) ns ≡ 1 → is_among q ns ≡ true
counted_among q ns once = by (is_among q ns) refl
  where
    by : (b : Bool) → is_among q ns ≡ b → is_among q ns ≡ true
    by true is = is
    by false is = let none = none_counted q ns is in absurd (omega (arith, once, none))

-- one number in place of another
abbrev in_place : ℕ → ℕ → ℕ → ℕ
in_place m n x = cond (nat_eq x m) n x

renamed_among : (f : ℕ → ℕ) (q : ℕ) (ns : List ℕ) → is_among q ns ≡ true → is_among (f q) (map f ns) ≡ true
renamed_among f q [] is = absurd cc
renamed_among f q (x ∷ ns) is = by (nat_eq q x) refl is (λ later. renamed_among f q ns later)
  where
    by : (b : Bool) → nat_eq q x ≡ b → (b || is_among q ns) ≡ true
        → (is_among q ns ≡ true → is_among (f q) (map f ns) ≡ true) → is_among (f q) (map f (x ∷ ns)) ≡ true
    by true same is later =
        or_left (nat_eq (f q) (f x)) (is_among (f q) (map f ns)) (eq-eqb (f q) (f x) (ap f (eqb-true q x same)))
    by false other is later = or_right (nat_eq (f q) (f x)) (is_among (f q) (map f ns)) (later is)

-- n numbers among which are all those below n are below it: another one could be n itself, and then there were more
none_above : (n : ℕ) (ns : List ℕ) → length ns ≡ n → ((q : ℕ) → q < n → is_among q ns ≡ true)
    → (m : ℕ) → is_among m ns ≡ true → n ≤ m → ⊥
none_above n ns many all m is above =
    let more = le-length_from_below (map (in_place m n) ns) (n + 1) (λ q less. each q less) in
    let same = length-map ns (in_place m n) in
    omega (arith, more, same, many)
  where
    each : (q : ℕ) → q < n + 1 → is_among q (map (in_place m n) ns) ≡ true
    each q less = by (nat_eq q n) refl
      where
        by : (b : Bool) → nat_eq q n ≡ b → is_among q (map (in_place m n) ns) ≡ true
        by true same =
            subst (λ k. is_among k (map (in_place m n) ns) ≡ true)
            (cond-true (nat_eq m m) _ _ (eq-eqb m m refl) ∙ sym (eqb-true q n same))
            (renamed_among (in_place m n) m ns is)
        by false other =
            let apart = eqb-false q n other in
            let under : q < n = omega (arith, less, apart) in
            let differs : nat_eq q m ≡ false = ne_eqb q m (omega (arith, under, above)) in
            subst (λ k. is_among k (map (in_place m n) ns) ≡ true) (cond-false (nat_eq q m) _ _ differs)
            (renamed_among (in_place m n) q ns (all q under))

-- what holds of each number among others
all_among : (P : ℕ → Type 0) (ns : List ℕ) → ((m : ℕ) → is_among m ns ≡ true → P m) → AllByRecursion P ns
all_among P [] each = tt
all_among P (n ∷ ns) each = (
  each n (or_left (nat_eq n n) (is_among n ns) (eq-eqb n n refl)),
  all_among P ns (λ m is. each m (or_right (nat_eq m n) (is_among m ns) is)),
)

-- each number of a partition is one of its players
members_below : (players : ℕ) (teams : Teams) → ArePartition players teams
    → AllByRecursion (λ m. m < players) (flat_map (λ team. team) teams)
members_below players teams are =
    let all = flat_map (λ team. team) teams in
    all_among (λ m. m < players) all
    (λ m is. lt_of_not-le (λ above. none_above players all are.whole
    (λ q less. counted_among q all (ones_at (λ player. count_by (nat_eq player) all) 0 players are.once q (omega arith)
    (omega (arith, less)))) m is above))

-- PLAYERS AND TEAMS

-- a number of a range
within_taken : (least most n : ℕ) (bytes : List ℕ) → integer bytes ≡ Some (pos n) → least ≤ n → n ≤ most
    → is_within (pos least) (pos most) (integer bytes) ≡ true
within_taken least most n bytes is low high =
    ap (is_within (pos least) (pos most)) is ∙ ap₂ ◌&&◌ (le-leb least n low) (le-leb n most high)

count_shaped : (n : ℕ) (tree : Tree) → Literal (pos n) tree → 1 ≤ n → n ≤ 8 → faults symbol.PlayerCount tree ≡ []
count_shaped n (list parts from to) is low high = absurd is
count_shaped n (word bytes from to) is low high =
    atom_shaped symbol.PlayerCount bytes from to
    (accepted (is_within (pos 1) (pos 8) (integer bytes)) Number (within_taken 1 8 n bytes is low high))

member_shaped : (n : ℕ) (tree : Tree) → Literal (pos n) tree → n < 8 → faults symbol.Member tree ≡ []
member_shaped n (list parts from to) is less = absurd is
member_shaped n (word bytes from to) is less =
    atom_shaped symbol.Member bytes from to
    (accepted (is_within (pos 0) (pos 7) (integer bytes)) Number
    (within_taken 0 7 n bytes is (omega arith) (omega (arith, less))))

-- a list without a head, of which there may be more parts
pub loose_shaped : (p : Symbol) (r : Rule) (parts : Trees) (from to : ℕ)
    → ((a : Tree) (rest : Trees) → rule_of p (cons a rest) ≡ Some r)
    → ((a : Tree) (rest : Trees) → fits (count (cons a rest)) r ≡ true) → is_plain r ≡ true
    → nat_le 1 (count parts) ≡ true → AreShaped (front_of r) (more_of r) parts → faults p (list parts from to) ≡ []
loose_shaped p r nil from to told fit plain some all = let none = leb-true 1 0 some in absurd (omega (arith, none))
loose_shaped p r (cons a rest) from to told fit plain some all =
    form_shaped p r (cons a rest) from to (told a rest) (fit a rest) plain all

-- `(create players n)`
pub players_shaped : (players : ℕ) (tree : Tree) → StandsPlayers players tree → 1 ≤ players → players ≤ 8
    → faults symbol.Line tree ≡ []
players_shaped players tree stands low high =
    row_word_part "create" "players" (Literal (pos players)) (λ tree. faults symbol.Line tree ≡ []) tree stands
    (λ f t f' t' from to n is.
    row_shaped symbol.Line rule.CreatePlayers
    (cons (word (codes "create") f t) (cons (word (codes "players") f' t') (cons n nil))) from to refl refl
    (refl, (refl, (count_shaped players n is low high, tt))))

-- p ..
team_shaped : (team : List ℕ) (trees : Trees) → StandsTeam team trees → AllByRecursion (λ m. m < 8) team
    → AllShaped symbol.Member trees
team_shaped [] nil stands few = tt
team_shaped [] (cons tree trees) stands few = absurd stands
team_shaped (m ∷ team) nil stands few = absurd stands
team_shaped (m ∷ team) (cons tree trees) stands few =
    (member_shaped m tree stands.0 few.0, team_shaped team trees stands.1 few.1)

-- (p+) ..
teams_shaped_each : (teams : Teams) (trees : Trees) → StandTeams teams trees
    → AllByRecursion (λ m. m < 8) (flat_map (λ team. team) teams) → AllShaped symbol.Team trees
teams_shaped_each [] nil stands few = tt
teams_shaped_each [] (cons tree trees) stands few = absurd stands
teams_shaped_each (team ∷ teams) nil stands few = absurd stands
teams_shaped_each (team ∷ teams) (cons (word bytes from to) trees) stands few = absurd stands.0
teams_shaped_each (team ∷ teams) (cons (list parts from to) trees) stands few =
    let both = parts_of_append (λ m. m < 8) team (flat_map (λ team. team) teams) few in (
      loose_shaped symbol.Team rule.Team parts from to (λ a rest. refl) (λ a rest. lt-ltb 0 (suc (count rest)) (omega arith)) refl
          stands.0.0 (team_shaped team parts stands.0.1 both.0),
      teams_shaped_each teams trees stands.1 both.1,
    )

fewer : (n : ℕ) (ns : List ℕ) → n ≤ 8 → AllByRecursion (λ m. m < n) ns → AllByRecursion (λ m. m < 8) ns
fewer n [] few all = tt
fewer n (m ∷ ns) few all = let less = all.0 in (omega (arith, less, few), fewer n ns few all.1)

-- `(create teams (p+)+)`
pub teams_shaped : (players : ℕ) (teams : Teams) (tree : Tree) → StandsTeams teams tree → ArePartition players teams
    → players ≤ 8 → faults symbol.Line tree ≡ []
teams_shaped players teams tree stands are few =
    row_words "create" "teams" (Full (StandTeams teams)) (λ tree. faults symbol.Line tree ≡ []) tree stands
    (λ f t f' t' from to parts there.
    form_shaped symbol.Line rule.CreateTeams (cons (word (codes "create") f t) (cons (word (codes "teams") f' t') parts)) from to
    refl (more_fit_two parts there.0) refl (
      refl,
      (
        refl,
        teams_shaped_each teams parts there.1
            (fewer players (flat_map (λ team. team) teams) few (members_below players teams are)),
      ),
    ))
