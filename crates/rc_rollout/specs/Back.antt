-- Machines that play out from one decision again and again.
use Rattle.std.specs.Prelude.{◌≡◌, ℕ, false, length}
use Rattle.rc_play_spec.specs.About.{About}
use Rattle.rc_play_spec.specs.Strategy.{menu_size}
use Rattle.rc_play_spec.specs.Tally.{Ask, redrawn_at}
use Rattle.rc_rules.specs.Machine.{StopsAtDecision, menu_here}
use Rattle.rc_flat.specs.Home.{Homing}

-- a machine whose home is the decision of an ask, with some table
pub record IsHomeOf (about : About) (ask : Ask) (m : Homing) : Type 0 where
  pub same : m.about ≡ about
  pub control : m.home.control ≡ ask.view.control

-- a machine stands at home, which is the decision of an ask with the table that is redrawn for a round
pub record IsAtRound (about : About) (ask : Ask) (round : ℕ) (m : Homing) : Type 0 where
  pub same : m.about ≡ about
  pub there : m.config ≡ redrawn_at about ask round
  pub home : m.home ≡ m.config
  pub decides : StopsAtDecision about m.config
  pub size : length (menu_here about m.config) ≡ menu_size about ask.view
  pub fresh : m.spent ≡ false

-- the home of a machine is the decision of an ask with the table that is redrawn for a round, wherever it stands
pub record IsHomeAtRound (about : About) (ask : Ask) (round : ℕ) (m : Homing) : Type 0 where
  pub same : m.about ≡ about
  pub there : m.home ≡ redrawn_at about ask round
  pub decides : StopsAtDecision about m.home
  pub size : length (menu_here about m.home) ≡ menu_size about ask.view
