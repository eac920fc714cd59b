-- How many owners of a class there are.
use Rattle.std.proofs.Common.{◌≡◌, ℕ, ◌≤◌, ◌==◌, false, List, [], ◌∷◌, length, Option, Some, None, refl, length-append, true≢false, arith}
use Rattle.std.specs.Prelude.{flat_map}
use Rattle.std.specs.List.{list_any}
use Rattle.std.proofs.lemmas.Bool.{or_parts}
use Rattle.rc_sheet_spec.specs.Sheet.{Teams, Class, game_class, player_class, team_class, Sheet}
use Rattle.rc_sheet_spec.specs.WellFormed.{AreTeams, team_count, owner_count, IsWellFormed}
use Rattle.rc_play_spec.proofs.RangeLemmas.{some_owners}

some_there : (team : List ℕ) → (length team == 0) ≡ false → 1 ≤ length team
some_there [] is = absurd (true≢false is)
some_there (n ∷ team) is = omega arith

-- no more teams than players
few_teams : (teams : List (List ℕ)) → list_any (λ team. length team == 0) teams ≡ false → length teams ≤ length (flat_map (λ team. team) teams)
few_teams [] some = omega arith
few_teams (team ∷ teams) some =
    let each = or_parts (length team == 0) (list_any (λ team. length team == 0) teams) some in
    let first = some_there team each.0 in
    let rest = few_teams teams each.1 in
    let both = length-append team (flat_map (λ team. team) teams) in
    omega (arith, first, rest, both)

teams_within : (players : ℕ) (o : Option Teams) → AreTeams players o → (sheet : Sheet) → sheet.players ≡ players → team_count sheet o ≤ players
teams_within players None are sheet is = omega (arith, is)
teams_within players (Some teams) are sheet is =
    let few = few_teams teams are.some in let whole = are.whole in omega (arith, few, whole)

pub few_owners : (sheet : Sheet) (class : Class) → IsWellFormed sheet → (1 ≤ owner_count sheet class) × (owner_count sheet class ≤ 8)
few_owners sheet game_class formed = (omega arith, omega arith)
few_owners sheet player_class formed =
    let some = formed.limits.some_players in let few = formed.limits.players in (omega (arith, some), omega (arith, few))
few_owners sheet team_class formed =
    let some = some_owners sheet formed team_class in
    let few = formed.limits.players in
    let within = teams_within sheet.players sheet.teams formed.teams sheet refl in
    (omega (arith, some), omega (arith, few, within))
