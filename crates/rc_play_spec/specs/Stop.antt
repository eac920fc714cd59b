-- The stop that a match comes to, and how many steps lead there at most.
use Rattle.std.specs.Prelude.{ℕ, zero, suc, ◌+◌, ◌-◌, ◌*◌, max, List, [], ◌∷◌, Option, Some, None}
use Rattle.rc_sheet_spec.specs.Sheet.{SheetItem, do_item, stage, choice, SheetItems, no_item, item}
use Rattle.rc_play_spec.specs.About.{About}
use Rattle.rc_play_spec.specs.Effects.{Dealing}
use Rattle.rc_play_spec.specs.Step.{Part, todo, round, turn, Config, Stop, Next, goes, stops, step}

-- a match at a stop, and the dealer's state there
pub record Stopped (S : Type 0) : Type 0 where
  pub stop : Stop
  pub config : Config
  pub dealer : S

-- How many steps items take at most, but for the rounds of stages; and how many one round of a stage takes among them.
abbrev mutual
  pub item_size : SheetItem → ℕ
  item_size (do_item effects) = 1
  item_size (stage number class end body) = 2
  item_size (choice site alts) = 1

  pub items_size : SheetItems → ℕ
  items_size no_item = 0
  items_size (item i items) = item_size i + items_size items

abbrev mutual
  pub item_lap : SheetItem → ℕ
  item_lap (do_item effects) = 0
  item_lap (stage number class end body) = max (items_size body + 2) (items_lap body)
  item_lap (choice site alts) = 0

  pub items_lap : SheetItems → ℕ
  items_lap no_item = 0
  items_lap (item i items) = max (item_lap i) (items_lap items)

abbrev pub part_size : Part → ℕ
part_size (todo i) = item_size i
part_size (round s) = 1
part_size (turn s) = 1

abbrev pub part_lap : Part → ℕ
part_lap (todo i) = item_lap i
part_lap (round s) = max (items_size s.body + 2) (items_lap s.body)
part_lap (turn s) = 0

abbrev pub left_size : List Part → ℕ
left_size [] = 0
left_size (part ∷ parts) = part_size part + left_size parts

abbrev pub left_lap : List Part → ℕ
left_lap [] = 0
left_lap (part ∷ parts) = max (part_lap part) (left_lap parts)

-- So many steps lead to a stop: each round raises the turn count, up to the turn limit. How many are allowed decides nothing: from each
-- configuration they suffice, by the law ComesToStop of StepLaws.antt.
abbrev pub effort : About → Config → ℕ
effort about c = left_size c.left + (about.turns - c.control.turn) * left_lap c.left

module _ {S : Type 0} (about : About) (dealing : Dealing S) where
  -- what a step leads to in at most so many further ones; nothing where that is no stop
  abbrev pub after : ℕ → S → Next S → Option (Stopped S)
  after fuel before (stops stop config) = Some (record { stop = stop; config = config; dealer = before })
  after zero before (goes dealer config) = None
  after (suc fuel) before (goes dealer config) = after fuel dealer (step about dealing dealer config)

  -- where the match stops, from the dealer's state; nothing where it takes more steps than these
  abbrev pub run : ℕ → S → Config → Option (Stopped S)
  run fuel dealer c = after fuel dealer (step about dealing dealer c)

  -- the stop that the match comes to
  abbrev pub stop_of : S → Config → Option (Stopped S)
  stop_of dealer c = run (effort about c) dealer c
