-- What is known of a whole form is what its parts give.
use Rattle.std.proofs.Common.{◌≡◌, ℕ, ◌-◌, Bool, true, false, List, [], ◌∷◌, Option, Some, None, refl, ap, ◌∙◌}
use Rattle.std.specs.List.{flat_map, fold}
use Rattle.std.specs.Option.{unwrap_or}
use Rattle.std.specs.Prelude.{slice_index_or}
use Rattle.rc_check.specs.Faults.{count}
use Rattle.rc_base.specs.Tree.{Trees}
use Rattle.rc_check.specs.SecondParts.{Role, given_value, Part, atom, form}
use Rattle.rc_check.specs.SecondNames.{some_of, is_named, players_in, player_count, teams_in, teams_by, team_count, cards_in, attributes_in, value_by, values_in, maps_in}
use Rattle.rc_check.specs.Summary.{Whole, nothing_known, with_value, or_number, know, whole_of, players_of, teams_of}
use Rattle.rc_check.proofs.Folds.{know_field}
use Rattle.rc_base.specs.Words.{with_word}
use Rattle.rc_check.proofs.DifferentWords.{named_fold}
use Rattle.rc_check.specs.declared.grammar.Rule.TheVariants as rule

-- a line of teams tells how many there are
abbrev add_teams : Option ℕ → Trees → Option ℕ
add_teams known parts = or_number known (count parts - 2)

-- there is one
abbrev pub hold : {X : Type 0} → Bool → X → Bool
hold b x = true

-- once it is there
pub held : {X : Type 0} (xs : List X) → fold hold true xs ≡ true
held [] = refl
held (x ∷ xs) = held xs

-- it is there where there is one
pub held_some : {X : Type 0} (xs : List X) → fold hold false xs ≡ some_of xs
held_some [] = refl
held_some (x ∷ xs) = held xs

-- what a part adds to each field
know_players : (known : Whole) (part : Part) → (know known part).players ≡ fold or_number known.players (players_in part)
know_players known (atom at bytes from) = refl
know_players known (form at rule.CreatePlayers parts from) = refl
know_players known (form at rule parts from) = refl

know_teams : (known : Whole) (part : Part) → (know known part).teams ≡ fold add_teams known.teams (teams_in part)
know_teams known (atom at bytes from) = refl
know_teams known (form at rule.CreatePlayers parts from) = refl
know_teams known (form at rule parts from) = refl

know_attributes : (known : Whole) (part : Part)
    → (know known part).attributes ≡ fold with_word known.attributes (attributes_in part)
know_attributes known (atom at bytes from) = refl
know_attributes known (form at rule.CreatePlayers parts from) = refl
know_attributes known (form at rule parts from) = refl

-- a value that the setup gives
pub know_value : (role : Role) (bytes : List ℕ) (words : List (List ℕ))
    → with_value role bytes words ≡ fold with_word words (value_by role bytes)
know_value given_value bytes words = refl
know_value role bytes words = refl

know_values : (known : Whole) (part : Part) → (know known part).values ≡ fold with_word known.values (values_in part)
know_values known (atom at bytes from) = know_value at.role bytes known.values
know_values known (form at rule.CreatePlayers parts from) = refl
know_values known (form at rule parts from) = refl

know_maps : (known : Whole) (part : Part) → (know known part).maps ≡ fold with_word known.maps (maps_in part)
know_maps known (atom at bytes from) = refl
know_maps known (form at rule.CreatePlayers parts from) = refl
know_maps known (form at rule parts from) = refl

know_deck : (known : Whole) (part : Part) → (know known part).has_deck ≡ fold hold known.has_deck (cards_in part)
know_deck known (atom at bytes from) = refl
know_deck known (form at rule.CreatePlayers parts from) = refl
know_deck known (form at rule parts from) = refl

-- the first number stands
first_number : (n : ℕ) (numbers : List ℕ) → fold or_number (Some n) numbers ≡ Some n
first_number n [] = refl
first_number n (m ∷ numbers) = first_number n numbers

players_first : (numbers : List ℕ) → unwrap_or (fold or_number None numbers) 0 ≡ slice_index_or numbers 0 0
players_first [] = refl
players_first (n ∷ numbers) = ap (λ known. unwrap_or known 0) (first_number n numbers)

-- so does the first line of teams
first_teams : (n : ℕ) (lines : List Trees) → fold add_teams (Some n) lines ≡ Some n
first_teams n [] = refl
first_teams n (parts ∷ lines) = first_teams n lines

teams_first : (players : ℕ) (lines : List Trees) → unwrap_or (fold add_teams None lines) players ≡ teams_by players lines
teams_first players [] = refl
teams_first players (parts ∷ lines) = ap (λ known. unwrap_or known players) (first_teams (count parts - 2) lines)

-- What is known of a form of all these parts is what they give.
pub record Knows (all : List Part) (whole : Whole) : Type 0 where
  pub players_known : players_of whole ≡ player_count all
  pub teams_known : teams_of whole ≡ team_count all
  pub attributes_known : (word : List ℕ) → is_named word whole.attributes ≡ is_named word (flat_map attributes_in all)
  pub values_known : (word : List ℕ) → is_named word whole.values ≡ is_named word (flat_map values_in all)
  pub maps_known : (word : List ℕ) → is_named word whole.maps ≡ is_named word (flat_map maps_in all)
  pub deck_known : whole.has_deck ≡ some_of (flat_map cards_in all)

-- how many players and teams there are
players_of_whole : (all : List Part) → players_of (whole_of all) ≡ player_count all
players_of_whole all =
    ap (λ known. unwrap_or known 0) (know_field (λ known. known.players) or_number players_in know_players nothing_known all)
    ∙ players_first (flat_map players_in all)

teams_of_whole : (all : List Part) → teams_of (whole_of all) ≡ team_count all
teams_of_whole all =
    ap (λ known. unwrap_or known (players_of (whole_of all)))
    (know_field (λ known. known.teams) add_teams teams_in know_teams nothing_known all)
    ∙ ap (unwrap_or (fold add_teams None (flat_map teams_in all))) (players_of_whole all)
    ∙ teams_first (player_count all) (flat_map teams_in all)

-- the pass over all parts knows it
pub Knows-whole : (all : List Part) → Knows all (whole_of all)
Knows-whole all = record {
  players_known = players_of_whole all;
  teams_known = teams_of_whole all;
  attributes_known = λ word.
      ap (is_named word) (know_field (λ known. known.attributes) with_word attributes_in know_attributes nothing_known all)
      ∙ named_fold word [] (flat_map attributes_in all);
  values_known = λ word. ap (is_named word) (know_field (λ known. known.values) with_word values_in know_values nothing_known all)
      ∙ named_fold word [] (flat_map values_in all);
  maps_known = λ word. ap (is_named word) (know_field (λ known. known.maps) with_word maps_in know_maps nothing_known all)
      ∙ named_fold word [] (flat_map maps_in all);
  deck_known = know_field (λ known. known.has_deck) hold cards_in know_deck nothing_known all ∙ held_some (flat_map cards_in all);
}
