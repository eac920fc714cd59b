-- The menu where a control has its site.
use Rattle.std.proofs.Common.{◌≡◌, ℕ, Some, ap}
use Rattle.std.specs.Prelude.{unwrap_or}
use Rattle.rc_play_spec.specs.About.{About, menu_at}
use Rattle.rc_play_spec.specs.Step.{Config}
use Rattle.rc_rules.specs.Machine.{menu_here}

-- the menu where the control has its site
pub menu_there : (about : About) (c : Config) (site : ℕ) → c.control.site ≡ Some site → menu_here about c ≡ menu_at about site c.table c.control
menu_there about c site stands = ap (λ found. menu_at about (unwrap_or found 0) c.table c.control) stands
