use Rattle.std.proofs.Common.{◌≡◌, drop}
use Rattle.rc_form.specs.Form.{trees_of, packed}
use Rattle.rc_sheet.specs.ReadSetup.{no_line, lines_at}
use Rattle.rc_sheet.specs.SetupViews.{lines_seen}
use Rattle.rc_sheet.proofs.reader.Reader.setup.Given as goal

-- what is left to read gives what all lines give
abbrev pub invariant-loop-form : goal.invariant-loop-form
invariant-loop-form l =
    lines_at l.self (lines_seen l.lines) (packed (trees_of (drop l.form-index l.forms)))
    ≡ lines_at l.self no_line (packed (trees_of l.forms))
