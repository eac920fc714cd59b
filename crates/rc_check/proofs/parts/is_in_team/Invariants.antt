use Rattle.std.proofs.Common.{◌≡◌, drop}
use Rattle.rc_sheet_spec.specs.WellFormed.{is_among}
use Rattle.rc_form.specs.Form.{trees_of, packed}
use Rattle.rc_check.specs.SecondNames.{numbers_in}
use Rattle.rc_check.proofs.parts.is_in_team.Given as goal

-- the player stands among the members that are left exactly where it stands among all
abbrev pub invariant-loop-member : goal.invariant-loop-member
invariant-loop-member l =
    is_among l.player (numbers_in (packed (trees_of (drop l.member-index l.team))))
    ≡ is_among l.player (numbers_in (packed (trees_of l.team)))
