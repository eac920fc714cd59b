-- What strategies pick that ask nothing of playouts.
use Rattle.std.specs.Prelude.{ℕ, Option, Some, None, slice_index}
use Rattle.rc_play_spec.specs.Control.{Control}
use Rattle.rc_play_spec.specs.Draws.{keyed, picks, drawn_for}
use Rattle.rc_play_spec.specs.Plan.{Strategy, scripted, random, rollout}
use Rattle.rc_play_spec.specs.Strategy.{scripted_item}

-- the item out of so many that a script or a pick by chance takes for a seat, and nothing for a rollout
abbrev pub offhand_of : Strategy → ℕ → ℕ → Control → ℕ → Option ℕ
offhand_of (scripted numbers) seed seat control size = Some (scripted_item numbers (slice_index control.made seat) size)
offhand_of (random key) seed seat control size = Some (keyed.pick key (drawn_for seat picks) seed control.turn size)
offhand_of (rollout rounds key) seed seat control size = None
