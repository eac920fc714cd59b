-- Marks of machines.
use Rattle.std.specs.Prelude.{◌≡◌, ◌≤◌, true, length}
use Rattle.rc_play_spec.specs.Step.{Config}
use Rattle.rc_flat.specs.Flat.{config_of}
use Rattle.rc_flat.specs.Machine.{Machine, tables_of}
use Rattle.rc_flat.specs.MarkedMoments.{IsInMatch, flat_marked}
use Rattle.rc_flat.specs.declared.marks.Mark.{Mark}

-- The mark leads a machine that notes its edits back to this configuration: with the table to which it goes back a match goes on where
-- the mark has it.
pub record IsMark (m : Machine) (mark : Mark) (config : Config) : Type 0 where
  pub notes : m.notes ≡ true
  pub edits : mark.edits ≤ length m.before
  pub on : IsInMatch (flat_marked m.about m.code (tables_of m) mark)
  pub there : config_of (flat_marked m.about m.code (tables_of m) mark) ≡ config
