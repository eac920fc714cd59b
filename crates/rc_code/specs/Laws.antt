-- Statements of laws of code.
use Rattle.std.specs.Prelude.{◌≡◌, ℕ, ◌<◌, List, [], ◌∷◌, length, drop, false}
use Rattle.rc_sheet_spec.specs.Sheet.{Effects, SheetItems, Sheet}
use Rattle.rc_sheet_spec.specs.Mentions.{sites_in}
use Rattle.rc_sheet_spec.specs.WellFormed.{IsWellFormed}
use Rattle.rc_play_spec.specs.About.{About}
use Rattle.rc_play_spec.specs.Scene.{Vars}
use Rattle.rc_play_spec.specs.Effects.{Dealing, Point, does}
use Rattle.rc_play_spec.specs.Path.{Path}
use Rattle.rc_code.specs.Instruction.{Instruction, SitePlace, Code}
use Rattle.rc_code.specs.Meaning.{effects_in, first_effects, passed_over, items_in, items_from, left_in}
use Rattle.rc_code.specs.Stands.{EffectsStand, ItemsStand, StandsFor}
use Rattle.rc_code.specs.Implements.{Implements, IsPlaced}

-- what an instruction does, and then what those behind it do
abbrev pub DoesInOrder : Type 0
DoesInOrder =
    (about : About) (dealing : Dealing ℕ) (vars : Vars) (first : Instruction) (code : List Instruction)
    (now : Point ℕ) →
    does about dealing vars (effects_in (first ∷ code)) now
    ≡ does about dealing vars (effects_in (drop (passed_over first) code))
    (does about dealing vars (first_effects first code) now)

-- code says what it stands for
abbrev pub SaysWhatItStandsFor : Type 0
SaysWhatItStandsFor =
    ((es : Effects) (code : List Instruction) → EffectsStand es code → effects_in code ≡ es)
    × ((sites : List SitePlace) (outer : List ℕ) (at : ℕ) (items : SheetItems) (code : List Instruction) →
    ItemsStand sites outer at items code →
    items_in code ≡ items)

-- code that stands for a well formed sheet implements it
abbrev pub StandingImplements : Type 0
StandingImplements =
    (sheet : Sheet) (code : Code) → StandsFor sheet code → IsWellFormed sheet → Implements sheet code.list

-- and each choice site of the sheet has its place in it
abbrev pub SitesArePlaced : Type 0
SitesArePlaced =
    (sheet : Sheet) (code : Code) (site : ℕ) → StandsFor sheet code → IsWellFormed sheet →
    site < length (sites_in sheet.items) →
    IsPlaced sheet code site

-- nothing is left where no item is next and no stage is open
abbrev pub NothingLeft : Type 0
NothingLeft =
    (code : List Instruction) (path : Path) → path.at_round ≡ false → path.outer ≡ [] →
    items_from (drop path.next code) ≡ [] → left_in code path ≡ []
