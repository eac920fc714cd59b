-- Where effects stand, of what the code has.
use Rattle.std.specs.Prelude.{ℕ, List}
use Rattle.rc_play_spec.specs.Effects.{Point}
use Rattle.rc_table.specs.Laid.{Laid}
use Rattle.rc_rules.specs.declared.control.Frame.{Frame}
use Rattle.rc_rules.specs.Control.{frames_seen}

abbrev pub point_of : Laid → List Frame → ℕ → Point ℕ
point_of laid frames dealer = record { table = laid.table; frames = frames_seen frames; dealer = dealer }
