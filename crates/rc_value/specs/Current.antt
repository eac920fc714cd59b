-- Who is current in these open stages.
use Rattle.std.specs.Prelude.{◌≡◌, List}
use Rattle.rc_sheet_spec.specs.Sheet.{player_class, team_class, Sheet}
use Rattle.rc_play_spec.specs.Control.{Frame}
use Rattle.rc_play_spec.specs.Owners.{current_in}
use Rattle.rc_value.specs.declared.current.Current.{Current}

abbrev pub IsCurrent : Sheet → List Frame → Current → Type 0
IsCurrent sheet frames current =
    (current.player ≡ current_in sheet player_class frames) × (current.team ≡ current_in sheet team_class frames)
