-- The moments to which a match can go back.
use Rattle.std.specs.Prelude.{◌≡◌, ℕ, ◌==◌, if◌then◌else◌, List, [], ◌∷◌, length, Some}
use Rattle.rc_play_spec.specs.Table.{Table}
use Rattle.rc_play_spec.specs.About.{About}
use Rattle.rc_rules.specs.Control.{control_seen}
use Rattle.rc_code.specs.Instruction.{Instruction}
use Rattle.rc_flat.specs.Flat.{Flat, IsInPlay, IsOffered}
use Rattle.rc_flat.specs.declared.marks.Mark.{Mark}

-- the table after so many edits, of tables of which the last one stands first
abbrev pub rewound : List Table → ℕ → Table
rewound [] n = record { lists = []; numbers = []; marks = [] }
rewound (table ∷ before) n = if length before == n then table else rewound before n

-- where a match stood that was marked
abbrev pub flat_marked : About → List Instruction → List Table → Mark → Flat
flat_marked about code all mark =
    record {
      about = about;
      code = code;
      place = mark.place;
      table = rewound all mark.edits;
      control =
          control_seen mark.control;
    }

-- a match that goes on there: its counts are in range, and where the control has a site something is offered there
pub record IsInMatch (m : Flat) : Type 0 where
  pub play : IsInPlay m
  pub offered : (site : ℕ) → m.control.site ≡ Some site → IsOffered m site
