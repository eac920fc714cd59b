-- The code that is made of a tree.
use Rattle.std.specs.Prelude.{ℕ, ◌+◌, List, [], ◌∷◌, ◌++◌, length}
use Rattle.rc_sheet_spec.specs.Sheet.{Effect, move, move_all, remember, forget, shuffle, set_to, increase, decrease, when, repeat, for_each, next_is, turn_round, peek, Effects, no_effect, effect, Alt, SheetItem, do_item, stage, choice, SheetItems, no_item, item}
use Rattle.rc_play_spec.specs.Menu.{effects_of}
use Rattle.rc_code.specs.Instruction.{Block, Instruction, simple, if_true, so_often, one_by_one, do_all, begin_stage, offer, end_body, SitePlace}

abbrev mutual
  pub effect_code : Effect → List Instruction
  effect_code (move card end loc) = simple (move card end loc) ∷ []
  effect_code (move_all cards end loc) = simple (move_all cards end loc) ∷ []
  effect_code (remember card end loc) = simple (remember card end loc) ∷ []
  effect_code (forget card) = simple (forget card) ∷ []
  effect_code (shuffle loc) = simple (shuffle loc) ∷ []
  effect_code (set_to num value) = simple (set_to num value) ∷ []
  effect_code (increase num value) = simple (increase num value) ∷ []
  effect_code (decrease num value) = simple (decrease num value) ∷ []
  effect_code (when test effects) = if_true test (length (effects_code effects)) ∷ effects_code effects
  effect_code (repeat count effects) = so_often count (length (effects_code effects)) ∷ effects_code effects
  effect_code (for_each domain bound effects) =
      one_by_one domain bound (length (effects_code effects)) ∷ effects_code effects
  effect_code (next_is who) = simple (next_is who) ∷ []
  effect_code turn_round = simple turn_round ∷ []
  effect_code (peek cards who) = simple (peek cards who) ∷ []

  pub effects_code : Effects → List Instruction
  effects_code no_effect = []
  effects_code (effect e effects) = effect_code e ++ effects_code effects

-- the effects of alternatives, one behind the other, and where each one's lie
abbrev pub alts_code : List Alt → List Instruction
alts_code [] = []
alts_code (alt ∷ alts) = effects_code (effects_of alt) ++ alts_code alts

abbrev pub blocks_from : ℕ → List Alt → List Block
blocks_from before [] = []
blocks_from before (alt ∷ alts) =
    record { before = before; inside = length (effects_code (effects_of alt)) }
    ∷ blocks_from (before + length (effects_code (effects_of alt))) alts

abbrev mutual
  pub item_code : SheetItem → List Instruction
  item_code (do_item effects) = do_all (length (effects_code effects)) ∷ effects_code effects
  item_code (stage number class end body) =
      begin_stage number class end (length (items_code body) + 1) ∷ items_code body ++ end_body ∷ []
  item_code (choice site alts) = offer site alts (blocks_from 0 alts) (length (alts_code alts)) ∷ alts_code alts

  pub items_code : SheetItems → List Instruction
  items_code no_item = []
  items_code (item i items) = item_code i ++ items_code items

-- the places of the choices in the code of items that begins here, inside these stages, in the order of the text
abbrev mutual
  pub item_sites : List ℕ → ℕ → SheetItem → List SitePlace
  item_sites outer at (do_item effects) = []
  item_sites outer at (stage number class end body) = items_sites (outer ++ at ∷ []) (at + 1) body
  item_sites outer at (choice site alts) = record { outer = outer; place = at } ∷ []

  pub items_sites : List ℕ → ℕ → SheetItems → List SitePlace
  items_sites outer at no_item = []
  items_sites outer at (item i items) = item_sites outer at i ++ items_sites outer (at + length (item_code i)) items
