-- Statements of laws of controls: that they fit their sites, how many stages are open at most, and what the turn count is at most.
use Rattle.std.specs.Prelude.{◌≡◌, ℕ, ◌+◌, ◌≤◌, List, length, Some}
use Rattle.rc_sheet_spec.specs.Sheet.{SheetItem, Sheet}
use Rattle.rc_sheet_spec.specs.Lists.{item_list}
use Rattle.rc_sheet_spec.specs.WellFormed.{IsWellFormed}
use Rattle.rc_play_spec.specs.Shape.{shape_of}
use Rattle.rc_play_spec.specs.About.{About}
use Rattle.rc_play_spec.specs.Effects.{Dealing}
use Rattle.rc_play_spec.specs.Step.{decide}
use Rattle.rc_play_spec.specs.Stop.{Stopped}
use Rattle.rc_play_spec.specs.Path.{Path, next_item, item_depth, items_depth}
use Rattle.rc_play_spec.specs.Play.{reached}
use Rattle.rc_play_spec.specs.Fits.{FitsSite}

-- Where items lead to a decision in a match of a well formed sheet, the control fits the site: the sheet has the site, members
-- and named members are those of their stages, and counts of decisions are at most the turn count.
abbrev pub ControlsFit : Type 0
ControlsFit =
    (about : About) (dealing : Dealing ℕ) → about.shape ≡ shape_of about.sheet → IsWellFormed about.sheet →
    (items : List ℕ) (k : ℕ) (at : Stopped ℕ) (seat site : ℕ) → reached about dealing items k ≡ Some at →
    at.stop ≡ decide seat site →
    FitsSite about site at.config.control

-- In a well formed sheet at most 63 stages stand inside one another.
abbrev pub StagesAreFew : Type 0
StagesAreFew = (sheet : Sheet) → IsWellFormed sheet → items_depth sheet.items ≤ 63

-- So many stages are open at a place of a sheet, and so many stand inside one another in the item there.
abbrev pub PathsAreShallow : Type 0
PathsAreShallow =
    (sheet : Sheet) (path : Path) (i : SheetItem) → IsWellFormed sheet →
    next_item (item_list sheet.items) path ≡ Some i →
    length path.outer + item_depth i ≤ 63

-- and in a match no more are open wherever items lead
abbrev pub FramesAreFew : Type 0
FramesAreFew =
    (about : About) (dealing : Dealing ℕ) → IsWellFormed about.sheet →
    (items : List ℕ) (k : ℕ) (at : Stopped ℕ) → reached about dealing items k ≡ Some at →
    length at.config.control.frames ≤ 63

-- Wherever items lead, the turn count is at most the turn limit.
abbrev pub TurnsAreWithin : Type 0
TurnsAreWithin =
    (about : About) (dealing : Dealing ℕ) (items : List ℕ) (k : ℕ) (at : Stopped ℕ) →
    reached about dealing items k ≡ Some at →
    at.config.control.turn ≤ about.turns
