use Rattle.rc_sheet.proofs.Within.{within_limits}
use Rattle.rc_sheet.proofs.laws.limits.sheet_is_within_limits.Goals as goal

pub returns : goal.returns
returns c = λ tree sheet shaped sound is. within_limits tree sheet shaped sound is
