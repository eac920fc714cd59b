-- The choice that comes first in the rest of a text.
use Rattle.std.specs.Prelude.{◌≡◌, ℕ, Bool, List, ◌∷◌, codes, Option, Some}
use Rattle.rc_base.specs.Limits.{most_items}
use Rattle.rc_base.specs.Transcript.{Pick}
use Rattle.rc_play_spec.specs.Fields.{◌>>=◌, number, counted}
use Rattle.rc_play_spec.specs.Lines.{Marked, chosen_in}
use Rattle.rc_play_spec.specs.Reading.{lines_in}

-- the numbers of a choice, and the bytes behind them
abbrev pub pick_in : List ℕ → Option (Pick × List ℕ)
pick_in bytes = do
  seat ← number (codes "choose ") 7 bytes
  site ← number (codes " ") 63 seat.1
  item ← number (codes " ") 255 site.1
  size ← counted (codes " ") most_items item.1
  Some (record { seat = seat.0; site = site.0; item = item.0; size = size.0 }, size.1)

-- The first line of these bytes spells this choice, and these bytes stand behind it.
abbrev pub IsFirstChoice : (named : Bool) (bytes : List ℕ) (choice : Marked) (later : List ℕ) → Type 0
IsFirstChoice named bytes choice later =
    (line : List ℕ) × (lines_in bytes ≡ (line ∷ (lines_in later).0, (lines_in later).1))
    × (chosen_in named line ≡ Some choice)
