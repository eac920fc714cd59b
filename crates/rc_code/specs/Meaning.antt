-- What code says: which effects and items stand in it, and what is left to run at a place of it. Every list of instructions says
-- something, whether or not it was compiled.
use Rattle.std.specs.Prelude.{ℕ, zero, suc, Bool, true, false, List, [], ◌∷◌, ◌++◌, length, take, drop, reverse, Option, Some, None}
use Rattle.rc_sheet_spec.specs.Sheet.{game_class, game, eq_who, Effects, no_effect, effect, when, repeat, for_each, do_item, stage, choice, SheetItem, SheetItems, no_item, item}
use Rattle.rc_sheet_spec.specs.Lists.{item_list}
use Rattle.rc_play_spec.specs.Step.{Stage, Part, round, turn, todos}
use Rattle.rc_play_spec.specs.Path.{Path}
use Rattle.rc_code.specs.Instruction.{Block, Instruction, simple, if_true, so_often, one_by_one, do_all, begin_stage, offer, end_body}

-- The effects that so many steps find in a list; as many steps as it has instructions find all.
abbrev pub effects_by : ℕ → List Instruction → Effects
effects_by zero code = no_effect
effects_by (suc n) [] = no_effect
effects_by (suc n) (simple e ∷ code) = effect e (effects_by n code)
effects_by (suc n) (if_true test inside ∷ code) =
    effect (when test (effects_by n (take inside code))) (effects_by n (drop inside code))
effects_by (suc n) (so_often count inside ∷ code) =
    effect (repeat count (effects_by n (take inside code))) (effects_by n (drop inside code))
effects_by (suc n) (one_by_one domain bound inside ∷ code) =
    effect (for_each domain bound (effects_by n (take inside code))) (effects_by n (drop inside code))
effects_by (suc n) (do_all inside ∷ code) = effects_by n code
effects_by (suc n) (begin_stage number class end inside ∷ code) = effects_by n code
effects_by (suc n) (offer site alts blocks inside ∷ code) = effects_by n code
effects_by (suc n) (end_body ∷ code) = effects_by n code

abbrev pub effects_in : List Instruction → Effects
effects_in code = effects_by (length code) code

-- the effects of the first instruction, before those behind what is inside it
abbrev pub first_effects : Instruction → List Instruction → Effects
first_effects (simple e) code = effect e no_effect
first_effects (if_true test inside) code = effect (when test (effects_in (take inside code))) no_effect
first_effects (so_often count inside) code = effect (repeat count (effects_in (take inside code))) no_effect
first_effects (one_by_one domain bound inside) code =
    effect (for_each domain bound (effects_in (take inside code))) no_effect
first_effects (do_all inside) code = no_effect
first_effects (begin_stage number class end inside) code = no_effect
first_effects (offer site alts blocks inside) code = no_effect
first_effects end_body code = no_effect

-- how many instructions are passed with the first one where effects are done
abbrev pub passed_over : Instruction → ℕ
passed_over (simple e) = 0
passed_over (if_true test inside) = inside
passed_over (so_often count inside) = inside
passed_over (one_by_one domain bound inside) = inside
passed_over (do_all inside) = 0
passed_over (begin_stage number class end inside) = 0
passed_over (offer site alts blocks inside) = 0
passed_over end_body = 0

-- The items that so many steps find in a list, up to the end of a body.
abbrev pub items_by : ℕ → List Instruction → SheetItems
items_by zero code = no_item
items_by (suc n) [] = no_item
items_by (suc n) (do_all inside ∷ code) = item (do_item (effects_in (take inside code))) (items_by n (drop inside code))
items_by (suc n) (begin_stage number class end inside ∷ code) =
    item (stage number class end (items_by n code)) (items_by n (drop inside code))
items_by (suc n) (offer site alts blocks inside ∷ code) = item (choice site alts) (items_by n (drop inside code))
items_by (suc n) (simple e ∷ code) = no_item
items_by (suc n) (if_true test inside ∷ code) = no_item
items_by (suc n) (so_often count inside ∷ code) = no_item
items_by (suc n) (one_by_one domain bound inside ∷ code) = no_item
items_by (suc n) (end_body ∷ code) = no_item

abbrev pub items_in : List Instruction → SheetItems
items_in code = items_by (length code) code

-- the items of a list
abbrev pub items_from : List Instruction → List SheetItem
items_from code = item_list (items_in code)

-- The stage that a list begins with, and the code behind it. Where none does it is one that ends at once, and nothing is behind it.
abbrev pub first_stage : List Instruction → Stage
first_stage (begin_stage number class end inside ∷ code) =
    record { number = number; class = class; end = end; body = items_in code }
first_stage code = record { number = 0; class = game_class; end = eq_who game game; body = no_item }

abbrev pub behind_stage : List Instruction → List Instruction
behind_stage (begin_stage number class end inside ∷ code) = drop inside code
behind_stage code = []

abbrev pub stage_at : List Instruction → ℕ → Stage
stage_at code place = first_stage (drop place code)

abbrev pub behind_at : List Instruction → ℕ → List SheetItem
behind_at code place = items_from (behind_stage (drop place code))

-- what is left behind the bodies of the stages at these places, from inside to outside
abbrev pub left_behind : List Instruction → List ℕ → List Part
left_behind code [] = []
left_behind code (place ∷ outer) =
    turn (stage_at code place) ∷ round (stage_at code place) ∷ todos (behind_at code place) ++ left_behind code outer

-- A place in the code: those of the stages whose bodies run, from outside to inside, and the next instruction; or the innermost of
-- those stages is at a round.
abbrev pub left_by : List Instruction → List ℕ → ℕ → Bool → List Part
left_by code inner next false = todos (items_from (drop next code)) ++ left_behind code inner
left_by code [] next true = []
left_by code (place ∷ outer) next true =
    round (stage_at code place) ∷ todos (behind_at code place) ++ left_behind code outer

abbrev pub left_in : List Instruction → Path → List Part
left_in code path = left_by code (reverse path.outer) path.next path.at_round

-- the instructions of an alternative's effects, among those inside the choice
abbrev pub block_in : Option Block → List Instruction → List Instruction
block_in None code = []
block_in (Some block) code = take block.inside (drop block.before code)
