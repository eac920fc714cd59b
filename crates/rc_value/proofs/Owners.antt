-- Owners by their class.
use Rattle.std.proofs.Common.{◌≡◌, ℕ, refl}
use Rattle.rc_sheet_spec.specs.Sheet.{team_class}
use Rattle.rc_sheet_spec.specs.Naming.{class_of}
use Rattle.rc_ast.specs.Names.{who_seen}
use Rattle.rc_ast.specs.declared.expressions.Who.{Who}
use Rattle.rc_ast.specs.declared.expressions.Who.TheVariants.{Game, CurrentPlayer, Var}
use Rattle.rc_ast.specs.declared.expressions.Who.TheVariants.{CurrentTeam, TeamOfCurrent, TeamOfVar}

-- an owner who is neither the game nor a player is a team
pub is_team : (who : Who) → (who ≡ Game → ⊥) → (who ≡ CurrentPlayer → ⊥) → ((x : ℕ) → who ≡ Var x → ⊥) →
    class_of (who_seen who) ≡ team_class
is_team Game not_game not_player not_var = absurd (not_game refl)
is_team CurrentPlayer not_game not_player not_var = absurd (not_player refl)
is_team CurrentTeam not_game not_player not_var = refl
is_team TeamOfCurrent not_game not_player not_var = refl
is_team (TeamOfVar x) not_game not_player not_var = refl
is_team (Var x) not_game not_player not_var = absurd (not_var x refl)
