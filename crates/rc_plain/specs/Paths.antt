-- Paths of a machine into the items of a sheet.
use Rattle.std.specs.Prelude.{◌≡◌, ℕ, Bool, true, false, List, [], ◌∷◌, ◌++◌, slice_get, Option, Some, None}
use Rattle.rc_sheet_spec.specs.Sheet.{Alt, choice, SheetItem, SheetItems, Sheet}
use Rattle.rc_sheet_spec.specs.Lists.{item_list}
use Rattle.rc_play_spec.specs.Step.{Stage}
use Rattle.rc_play_spec.specs.Menu.{alts_in}
use Rattle.rc_play_spec.specs.Path.{Path, stage_at, stage_in, body_at, next_item}

-- each of these places is that of a stage
abbrev pub ArePlaces : List SheetItem → List ℕ → Type 0
ArePlaces items [] = Unit {0}
ArePlaces items (i ∷ outer) = (s : Stage) × (stage_at items i ≡ Some s) × ArePlaces (item_list s.body) outer

-- the item that a path leads to
abbrev pub item_at : Sheet → Path → Option SheetItem
item_at sheet path = next_item (item_list sheet.items) path

-- the places lead through stages, and where a round is next the item there is a stage
pub record IsPath (sheet : Sheet) (path : Path) : Type 0 where
  pub places : ArePlaces (item_list sheet.items) path.outer
  pub at_stage : path.at_round ≡ true → (s : Stage) × (stage_in (item_at sheet path) ≡ Some s)

-- back at the round of the stage whose body ran, or nothing happens where none runs
abbrev pub Leaves : Path → Path → Bool → Type 0
Leaves before after true = (before.outer ≡ after.outer ++ after.next ∷ []) × (after.at_round ≡ true)
Leaves before after false = (before.outer ≡ []) × (after ≡ before)

-- a path to the choice with this site
pub record IsPathTo (sheet : Sheet) (site : ℕ) (path : Path) : Type 0 where
  pub stands : IsPath sheet path
  pub here : path.at_round ≡ false
  pub alts : List Alt
  pub there : item_at sheet path ≡ Some (choice site alts)

-- where a search for a choice ends: these places lead to it, or there is none
abbrev pub Finds : SheetItems → ℕ → List ℕ → List ℕ → Option ℕ → Type 0
Finds items site before after None = (after ≡ before) × (alts_in site items ≡ [])
Finds items site before after (Some n) =
    (tail : List ℕ) × (alts : List Alt) × (after ≡ before ++ tail) × ArePlaces (item_list items) tail
    × (slice_get (body_at (item_list items) tail) n ≡ Some (choice site alts))
