-- Flat machines as the definitions of play have them.
use Rattle.std.specs.Prelude.{◌≡◌, Bool, true, List, ◌∷◌, ◌++◌, Option}
use Rattle.rc_play_spec.specs.Table.{Table}
use Rattle.rc_play_spec.specs.About.{About}
use Rattle.rc_play_spec.specs.Step.{Config}
use Rattle.rc_code.specs.Instruction.{Instruction}

-- what a match is played by, its code, where it stands, the tables to which it can go back, the last one first, whether it notes its
-- edits, the table to which it goes home, if there is one, and whether memory was lacking
pub record Machine : Type 0 where
  pub about : About
  pub code : List Instruction
  pub config : Config
  pub before : List Table
  pub notes : Bool
  pub home : Option Table
  pub spent : Bool

-- the tables to which it can go back, the present one first
abbrev pub tables_of : Machine → List Table
tables_of m = m.config.table ∷ m.before

-- where its edits are noted, each table to which a machine could go back is one still, and its home stays, in a match that is played by
-- the same
pub record KeepsTables (old new : Machine) : Type 0 where
  pub about : new.about ≡ old.about
  pub code : new.code ≡ old.code
  pub notes : new.notes ≡ old.notes
  pub behind : old.notes ≡ true → (more : List Table) × (tables_of new ≡ more ++ tables_of old)
  pub home : new.home ≡ old.home
