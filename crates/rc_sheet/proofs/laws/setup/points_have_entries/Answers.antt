use Rattle.rc_sheet.proofs.Fine.Points.{points_have_entries, some_entry, are_entries}
use Rattle.rc_sheet.proofs.laws.setup.points_have_entries.Goals as goal

pub returns-clause-some : goal.returns-clause-some
returns-clause-some c tree sheet shaped sound is = some_entry sheet.points (points_have_entries tree sheet shaped sound is)

pub returns-clause-entries : goal.returns-clause-entries
returns-clause-entries c tree sheet shaped sound is = are_entries sheet.points (points_have_entries tree sheet shaped sound is)
