-- What earlier parts leave behind is what they give.
use Rattle.std.proofs.Common.{◌≡◌, ℕ, ◌+◌, min, eqb, Bool, true, false, not, List, [], ◌∷◌, ◌++◌, length, sum, refl, sym, ap, ◌∙◌, arith, append_assoc}
use Rattle.std.specs.List.{flat_map, fold, sum_by}
use Rattle.std.proofs.lemmas.List.{append-nil}
use Rattle.std.proofs.lemmas.Bool.{ne_eqb}
use Rattle.rc_base.specs.Tree.{Trees}
use Rattle.rc_base.specs.Limits.{most_cards, most_locations, most_numbers, most_stages, most_sites}
use Rattle.rc_check.specs.SecondParts.{Part, atom, form}
use Rattle.rc_check.specs.SecondNames.{some_of, players_in, teams_in, cards_in, attributes_in, values_in, maps_in, member_by, members_in, locations_in, numbers_of, first_mention, firsts_from, stages_in, choices_in}
use Rattle.rc_check.specs.Summary.{Whole, Summary, nothing_owned, nothing_seen, counted, owners_of, see, summary_of}
use Rattle.rc_check.proofs.Folds.{see_field}
use Rattle.rc_base.specs.Words.{with_word}
use Rattle.rc_check.proofs.Totals.{counted_sum, count_one, counted_each}
use Rattle.rc_check.proofs.Owners.{add_mention, first_fold, counts_owned}
use Rattle.rc_check.proofs.Known.{hold, held_some, know_value}
use Rattle.rc_check.specs.declared.grammar.Symbol.{Symbol}
use Rattle.rc_check.specs.declared.grammar.Symbol.TheVariants as symbol
use Rattle.rc_check.specs.declared.grammar.Rule.TheVariants as rule

-- whether a line of teams stood, and whether it was the only one
abbrev TeamLines : Type 0
TeamLines = Bool × Bool

abbrev add_teams : TeamLines → Trees → TeamLines
add_teams lines parts = (true, not lines.0)

-- one more player in a team
abbrev add_member : List ℕ → ℕ → List ℕ
add_member members n = members ++ n ∷ []

-- all of them
add_members : (members more : List ℕ) → fold add_member members more ≡ members ++ more
add_members members [] = sym (append-nil members)
add_members members (n ∷ more) = add_members (members ++ n ∷ []) more ∙ append_assoc members (n ∷ []) more

-- WHAT A PART ADDS TO EACH FIELD
module _ (whole : Whole) where
  see_players : (seen : Summary) (part : Part) → (see whole seen part).has_players ≡ fold hold seen.has_players (players_in part)
  see_players seen (atom at bytes from) = refl
  see_players seen (form at rule.CreatePlayers parts from) = refl
  see_players seen (form at rule parts from) = refl

  abbrev team_lines : Summary → TeamLines
  team_lines seen = (seen.has_teams, seen.in_first_teams)

  see_teams : (seen : Summary) (part : Part) → team_lines (see whole seen part) ≡ fold add_teams (team_lines seen) (teams_in part)
  see_teams seen (atom at bytes from) = refl
  see_teams seen (form at rule.CreateTeams parts from) = refl
  see_teams seen (form at rule parts from) = refl

  see_member : (place : Symbol) (bytes members : List ℕ)
      → members ++ member_by place bytes ≡ fold add_member members (member_by place bytes)
  see_member symbol.Member bytes members = refl
  see_member place bytes members = append-nil members

  see_members : (seen : Summary) (part : Part) → (see whole seen part).members ≡ fold add_member seen.members (members_in part)
  see_members seen (atom at bytes from) = see_member at.place bytes seen.members
  see_members seen (form at rule.CreateTeams parts from) = refl
  see_members seen (form at rule parts from) = refl

  see_maps : (seen : Summary) (part : Part) → (see whole seen part).maps ≡ fold with_word seen.maps (maps_in part)
  see_maps seen (atom at bytes from) = refl
  see_maps seen (form at rule.PutPoints parts from) = refl
  see_maps seen (form at rule parts from) = refl

  see_attributes : (seen : Summary) (part : Part)
      → (see whole seen part).attributes ≡ fold with_word seen.attributes (attributes_in part)
  see_attributes seen (atom at bytes from) = refl
  see_attributes seen (form at rule.Group parts from) = refl
  see_attributes seen (form at rule parts from) = refl

  see_values : (seen : Summary) (part : Part) → (see whole seen part).values ≡ fold with_word seen.values (values_in part)
  see_values seen (atom at bytes from) = know_value at.role bytes seen.values
  see_values seen (form at rule.Group parts from) = refl
  see_values seen (form at rule parts from) = refl

  see_locations : (seen : Summary) (part : Part)
      → (see whole seen part).locations ≡ fold (add_mention whole most_locations) seen.locations (locations_in part)
  see_locations seen (atom at bytes from) = refl
  see_locations seen (form at rule.Location parts from) = refl
  see_locations seen (form at rule parts from) = refl

  see_numbers : (seen : Summary) (part : Part)
      → (see whole seen part).numbers ≡ fold (add_mention whole most_numbers) seen.numbers (numbers_of part)
  see_numbers seen (atom at bytes from) = refl
  see_numbers seen (form at rule.Counter parts from) = refl
  see_numbers seen (form at rule parts from) = refl

  see_cards : (seen : Summary) (part : Part) → (see whole seen part).cards ≡ fold (counted most_cards) seen.cards (cards_in part)
  see_cards seen (atom at bytes from) = refl
  see_cards seen (form at rule.CreateDeck parts from) = refl
  see_cards seen (form at rule parts from) = refl

  see_stages : (seen : Summary) (part : Part)
      → (see whole seen part).stages ≡ fold (count_one most_stages) seen.stages (stages_in part)
  see_stages seen (atom at bytes from) = refl
  see_stages seen (form at rule.PlayerStage parts from) = refl
  see_stages seen (form at rule parts from) = refl

  see_choices : (seen : Summary) (part : Part)
      → (see whole seen part).choices ≡ fold (count_one most_sites) seen.choices (choices_in part)
  see_choices seen (atom at bytes from) = refl
  see_choices seen (form at rule.Choice parts from) = refl
  see_choices seen (form at rule parts from) = refl

-- no further line of teams is the first
team_lines_behind : (parts : Trees) (lines : List Trees) → fold add_teams (true, true) (parts ∷ lines) ≡ (true, false)
team_lines_behind parts [] = refl
team_lines_behind parts (parts' ∷ lines) = team_lines_behind parts lines

-- so many aren't one
more_than_one : {X : Type 0} (x y : X) (xs : List X) → eqb (length (x ∷ y ∷ xs)) 1 ≡ false
more_than_one x y xs = ne_eqb (length (x ∷ y ∷ xs)) 1 (λ e. omega arith)

-- what all lines of teams leave behind
team_lines_all : (lines : List Trees) → fold add_teams (false, false) lines ≡ (some_of lines, eqb (length lines) 1)
team_lines_all [] = refl
team_lines_all (parts ∷ []) = refl
team_lines_all (parts ∷ parts' ∷ lines) =
    team_lines_behind parts' lines ∙ ap (λ one. (true, one)) (sym (more_than_one parts parts' lines))

-- nothing and so many
pub zero_add : (n : ℕ) → 0 + n ≡ n
zero_add n = omega arith

-- What these parts leave behind, in a form of which this is known, is what they give.
pub record Recalls (whole : Whole) (earlier : List Part) (seen : Summary) : Type 0 where
  pub players_seen : seen.has_players ≡ some_of (flat_map players_in earlier)
  pub teams_seen : seen.has_teams ≡ some_of (flat_map teams_in earlier)
  pub first_seen : seen.in_first_teams ≡ eqb (length (flat_map teams_in earlier)) 1
  pub members_seen : seen.members ≡ flat_map members_in earlier
  pub maps_seen : seen.maps ≡ fold with_word [] (flat_map maps_in earlier)
  pub attributes_seen : seen.attributes ≡ fold with_word [] (flat_map attributes_in earlier)
  pub values_seen : seen.values ≡ fold with_word [] (flat_map values_in earlier)
  pub locations_seen : (name : List ℕ)
      → first_mention name seen.locations.firsts ≡ first_mention name (flat_map locations_in earlier)
  pub location_total : seen.locations.total
      ≡ min (sum_by (owners_of whole) (firsts_from [] (flat_map locations_in earlier))) (most_locations + 1)
  pub numbers_seen : (name : List ℕ) → first_mention name seen.numbers.firsts ≡ first_mention name (flat_map numbers_of earlier)
  pub number_total : seen.numbers.total
      ≡ min (sum_by (owners_of whole) (firsts_from [] (flat_map numbers_of earlier))) (most_numbers + 1)
  pub cards_seen : seen.cards ≡ min (sum (flat_map cards_in earlier)) (most_cards + 1)
  pub stages_seen : seen.stages ≡ min (length (flat_map stages_in earlier)) (most_stages + 1)
  pub choices_seen : seen.choices ≡ min (length (flat_map choices_in earlier)) (most_sites + 1)

-- the lines of teams, locations and numbers so far
teams_so_far : (whole : Whole) (earlier : List Part)
    → team_lines whole (summary_of whole earlier)
    ≡ (some_of (flat_map teams_in earlier), eqb (length (flat_map teams_in earlier)) 1)
teams_so_far whole earlier =
    see_field whole (team_lines whole) add_teams teams_in (see_teams whole) nothing_seen earlier
    ∙ team_lines_all (flat_map teams_in earlier)

locations_so_far : (whole : Whole) (earlier : List Part)
    → (summary_of whole earlier).locations ≡ fold (add_mention whole most_locations) nothing_owned (flat_map locations_in earlier)
locations_so_far whole earlier =
    see_field whole (λ seen. seen.locations) (add_mention whole most_locations) locations_in
    (see_locations whole) nothing_seen earlier

numbers_so_far : (whole : Whole) (earlier : List Part)
    → (summary_of whole earlier).numbers ≡ fold (add_mention whole most_numbers) nothing_owned (flat_map numbers_of earlier)
numbers_so_far whole earlier =
    see_field whole (λ seen. seen.numbers) (add_mention whole most_numbers) numbers_of (see_numbers whole) nothing_seen earlier

-- the walk over these parts recalls it
pub Recalls-summary : (whole : Whole) (earlier : List Part) → Recalls whole earlier (summary_of whole earlier)
Recalls-summary whole earlier = record {
  players_seen = see_field whole (λ seen. seen.has_players) hold players_in (see_players whole) nothing_seen earlier
      ∙ held_some (flat_map players_in earlier);
  teams_seen = ap (λ lines. lines.0) (teams_so_far whole earlier);
  first_seen = ap (λ lines. lines.1) (teams_so_far whole earlier);
  members_seen = see_field whole (λ seen. seen.members) add_member members_in (see_members whole) nothing_seen earlier
      ∙ add_members [] (flat_map members_in earlier);
  maps_seen = see_field whole (λ seen. seen.maps) with_word maps_in (see_maps whole) nothing_seen earlier;
  attributes_seen = see_field whole (λ seen. seen.attributes) with_word attributes_in (see_attributes whole) nothing_seen earlier;
  values_seen = see_field whole (λ seen. seen.values) with_word values_in (see_values whole) nothing_seen earlier;
  locations_seen = λ name. ap (λ o. first_mention name o.firsts) (locations_so_far whole earlier)
      ∙ first_fold whole most_locations name nothing_owned (flat_map locations_in earlier);
  location_total = ap (λ o. o.total) (locations_so_far whole earlier)
      ∙ counts_owned whole most_locations (flat_map locations_in earlier);
  numbers_seen = λ name. ap (λ o. first_mention name o.firsts) (numbers_so_far whole earlier)
      ∙ first_fold whole most_numbers name nothing_owned (flat_map numbers_of earlier);
  number_total = ap (λ o. o.total) (numbers_so_far whole earlier) ∙ counts_owned whole most_numbers (flat_map numbers_of earlier);
  cards_seen = see_field whole (λ seen. seen.cards) (counted most_cards) cards_in (see_cards whole) nothing_seen earlier
      ∙ counted_sum most_cards 0 0 (flat_map cards_in earlier) refl;
  stages_seen = see_field whole (λ seen. seen.stages) (count_one most_stages) stages_in (see_stages whole) nothing_seen earlier
      ∙ counted_each most_stages 0 0 (flat_map stages_in earlier) refl
      ∙ ap (λ n. min n (most_stages + 1)) (zero_add (length (flat_map stages_in earlier)));
  choices_seen = see_field whole (λ seen. seen.choices) (count_one most_sites) choices_in
      (see_choices whole) nothing_seen earlier ∙ counted_each most_sites 0 0 (flat_map choices_in earlier) refl
      ∙ ap (λ n. min n (most_sites + 1)) (zero_add (length (flat_map choices_in earlier)));
}
