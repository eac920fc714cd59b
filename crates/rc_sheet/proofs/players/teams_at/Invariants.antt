use Rattle.std.proofs.Common.{◌≡◌, ◌∷◌}
use Rattle.rc_form.specs.Form.{trees_of, packed}
use Rattle.rc_sheet.specs.ReadSetup.{teams_at}
use Rattle.rc_sheet.proofs.InTurn.{so_far}
use Rattle.rc_sheet.proofs.players.teams_at.Given as goal

abbrev pub invariant-loop-form : goal.invariant-loop-form
invariant-loop-form l =
    so_far (λ team. team.items) ◌∷◌ teams_at l.list.items l.forms l.form-index ≡ teams_at (packed (trees_of l.forms))
