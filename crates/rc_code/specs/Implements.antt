-- Code that implements a sheet, and the places of choices in it: what a machine that runs on code needs.
use Rattle.std.specs.Prelude.{◌≡◌, ℕ, ◌+◌, ◌≤◌, false, List, [], ◌∷◌, length, take, drop, slice_get, Some}
use Rattle.rc_sheet_spec.specs.Sheet.{Class, Test, Effect, move, move_all, remember, forget, shuffle, set_to, increase, decrease, when, repeat, for_each, next_is, turn_round, peek, Alt, Sheet}
use Rattle.rc_sheet_spec.specs.WellFormed.{Around, IsTest, AreEffects, AreAlts}
use Rattle.rc_play_spec.specs.Menu.{alts_at, alt_in, effects_of}
use Rattle.rc_play_spec.specs.Decision.{left_at}
use Rattle.rc_play_spec.specs.Path.{Path}
use Rattle.rc_code.specs.Instruction.{Block, Instruction, simple, if_true, so_often, one_by_one, do_all, begin_stage, offer, end_body, SitePlace, Code}
use Rattle.rc_code.specs.Meaning.{effects_in, items_in, left_in, block_in}

-- outside all binders
abbrev pub IsTestOutside : Sheet → Test → Type 0
IsTestOutside sheet t = (around : Around) × (around.binders ≡ 0) × IsTest sheet around t

-- the alternatives of a choice in a well formed sheet, with the code of each one's effects
pub record IsChoiceOf (sheet : Sheet) (site : ℕ) (alts : List Alt) (blocks : List Block)
    (inside : List Instruction) : Type 0 where
  pub same : alts ≡ alts_at sheet site
  pub well : (around : Around) × (around.binders ≡ 0) × AreAlts sheet around alts
  pub each : (n : ℕ) → effects_in (block_in (slice_get blocks n) inside) ≡ effects_of (alt_in alts n)

abbrev pub HoldsNone : Effect → Type 0
HoldsNone (move card end loc) = Unit {0}
HoldsNone (move_all cards end loc) = Unit {0}
HoldsNone (remember card end loc) = Unit {0}
HoldsNone (forget card) = Unit {0}
HoldsNone (shuffle loc) = Unit {0}
HoldsNone (set_to num value) = Unit {0}
HoldsNone (increase num value) = Unit {0}
HoldsNone (decrease num value) = Unit {0}
HoldsNone (when test effects) = ⊥
HoldsNone (repeat count effects) = ⊥
HoldsNone (for_each domain bound effects) = ⊥
HoldsNone (next_is who) = Unit {0}
HoldsNone turn_round = Unit {0}
HoldsNone (peek cards who) = Unit {0}

-- an instruction that is an effect is one that holds no others
abbrev pub IsSimple : Instruction → Type 0
IsSimple (simple e) = HoldsNone e
IsSimple (if_true test inside) = Unit {0}
IsSimple (so_often count inside) = Unit {0}
IsSimple (one_by_one domain bound inside) = Unit {0}
IsSimple (do_all inside) = Unit {0}
IsSimple (begin_stage number class end inside) = Unit {0}
IsSimple (offer site alts blocks inside) = Unit {0}
IsSimple end_body = Unit {0}

abbrev pub AreSimple : List Instruction → Type 0
AreSimple [] = Unit {0}
AreSimple (i ∷ code) = IsSimple i × AreSimple code

-- Code that implements a sheet: its items are the sheet's, and all that stands in it is well formed. Code that stands for a well formed
-- sheet implements it.
pub record Implements (sheet : Sheet) (code : List Instruction) : Type 0 where
  pub items : items_in code ≡ sheet.items
  pub simples : AreSimple code
  pub effects : (place inside : ℕ) → slice_get code place ≡ Some (do_all inside) →
      (around : Around) × (around.binders ≡ 0)
      × AreEffects sheet around (effects_in (take inside (drop (place + 1) code)))
  pub ends : (place number : ℕ) (class : Class) (end : Test) (inside : ℕ) →
      slice_get code place ≡ Some (begin_stage number class end inside) →
      IsTestOutside sheet end
  pub choices : (place site : ℕ) (alts : List Alt) (blocks : List Block) (inside : ℕ) →
      slice_get code place ≡ Some (offer site alts blocks inside) →
      IsChoiceOf sheet site alts blocks (drop (place + 1) code)

-- the place in the code, inside the stages around it
abbrev pub path_to : SitePlace → Path
path_to at = record { outer = at.outer; next = at.place; at_round = false }

-- The table of sites has a place for this site. The choice with the sheet's alternatives there is next at it, what is left there is what
-- the sheet leaves at the site, and few stages are open.
pub record IsPlaced (sheet : Sheet) (code : Code) (site : ℕ) : Type 0 where
  pub at : SitePlace
  pub has : slice_get code.sites site ≡ Some at
  pub blocks : List Block
  pub inside : ℕ
  pub there : slice_get code.list at.place ≡ Some (offer site (alts_at sheet site) blocks inside)
  pub left : left_in code.list (path_to at) ≡ left_at sheet site
  pub few : length at.outer ≤ 63
