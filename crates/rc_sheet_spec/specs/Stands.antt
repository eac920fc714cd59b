-- Which forms stand for a sheet: one case for each row of the grammar, here and in the files for its parts.
use Rattle.rc_base.specs.Tree.{Tree}
use Rattle.rc_sheet_spec.specs.Sheet.{Best, highest, lowest, Sheet}
use Rattle.rc_sheet_spec.specs.Rows.{◌▸◌, End, AtLeast, Some, Row, Atom}
use Rattle.rc_sheet_spec.specs.Naming.{self_scope, sheet_naming}
use Rattle.rc_sheet_spec.specs.StandsSetup.{StandsSetup}
use Rattle.rc_sheet_spec.specs.StandsExpressions.{StandsInt}
use Rattle.rc_sheet_spec.specs.StandsItems.{StandItems}

-- BEST
abbrev pub StandsBest : Best → Tree → Type 0
StandsBest highest = Atom "max"
StandsBest lowest = Atom "min"

-- `(scoring BEST INT)`
abbrev pub StandsScoring : Sheet → Tree → Type 0
StandsScoring sheet =
    Row (Atom "scoring" ▸ StandsBest sheet.best ▸ StandsInt (sheet_naming sheet) self_scope sheet.score ▸ End)

-- `(game (setup LINE+) ITEM+ (scoring BEST INT))`
abbrev pub Stands : Sheet → Tree → Type 0
Stands sheet =
    Row (Atom "game"
    ▸ Row (Atom "setup" ▸ Some (StandsSetup (sheet_naming sheet) sheet))
    ▸ AtLeast 2 (StandItems (sheet_naming sheet) sheet.items (StandsScoring sheet ▸ End)))
