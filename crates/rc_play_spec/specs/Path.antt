-- What is left to run as a path into the sheet: the places of the open stages whose bodies run, from outside to inside, the
-- next place in the innermost body, and whether the item there is a stage that is open and stands at a round.
use Rattle.std.specs.Prelude.{ℕ, ◌+◌, max, Bool, true, false, List, [], ◌∷◌, ◌++◌, drop, slice_get, Option, Some, None}
use Rattle.rc_sheet_spec.specs.Sheet.{SheetItem, do_item, stage, choice, SheetItems, no_item, item}
use Rattle.rc_sheet_spec.specs.Lists.{item_list}
use Rattle.rc_play_spec.specs.Step.{Stage, Part, round, turn, todos}

pub record Path : Type 0 where
  pub outer : List ℕ
  pub next : ℕ
  pub at_round : Bool

-- the stage that an item is
abbrev pub stage_in : Option SheetItem → Option Stage
stage_in None = None
stage_in (Some (do_item effects)) = None
stage_in (Some (stage number class end body)) = Some (record { number = number; class = class; end = end; body = body })
stage_in (Some (choice site alts)) = None

abbrev pub stage_at : List SheetItem → ℕ → Option Stage
stage_at items i = stage_in (slice_get items i)

abbrev pub body_of : Option Stage → List SheetItem
body_of None = []
body_of (Some s) = item_list s.body

-- the mark of a round, and the marks behind a body
abbrev pub round_of : Option Stage → List Part
round_of None = []
round_of (Some s) = round s ∷ []

abbrev pub marks_of : Option Stage → List Part
marks_of None = []
marks_of (Some s) = turn s ∷ round s ∷ []

-- The innermost body, and what is left behind it.
abbrev pub within : List SheetItem → List ℕ → List Part → List SheetItem × List Part
within items [] behind = (items, behind)
within items (i ∷ outer) behind =
    within (body_of (stage_at items i)) outer (marks_of (stage_at items i) ++ todos (drop (i + 1) items) ++ behind)

abbrev pub left_here : List SheetItem × List Part → ℕ → Bool → List Part
left_here here next false = todos (drop next here.0) ++ here.1
left_here here next true = round_of (stage_at here.0 next) ++ todos (drop (next + 1) here.0) ++ here.1

-- what is left to run
abbrev pub left_of : List SheetItem → Path → List Part
left_of items path = left_here (within items path.outer []) path.next path.at_round

-- the body that runs, and the item that is next in it
abbrev pub body_at : List SheetItem → List ℕ → List SheetItem
body_at items outer = (within items outer []).0

abbrev pub next_item : List SheetItem → Path → Option SheetItem
next_item items path = slice_get (body_at items path.outer) path.next

-- behind the next item
abbrev pub past : Path → Path
past path = record { outer = path.outer; next = path.next + 1; at_round = false }

-- the next item stands at a round
abbrev pub at_mark : Path → Path
at_mark path = record { outer = path.outer; next = path.next; at_round = true }

-- at the begin of the body of the next item
abbrev pub into : Path → Path
into path = record { outer = path.outer ++ path.next ∷ []; next = 0; at_round = false }

-- how many stages stand inside one another
abbrev mutual
  pub item_depth : SheetItem → ℕ
  item_depth (do_item effects) = 0
  item_depth (stage number class end body) = 1 + items_depth body
  item_depth (choice site alts) = 0

  pub items_depth : SheetItems → ℕ
  items_depth no_item = 0
  items_depth (item i items) = max (item_depth i) (items_depth items)
