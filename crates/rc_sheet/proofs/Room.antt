-- A scope has no more variables than binders stand around it, and one.
use Rattle.std.proofs.Common.{ℕ, ◌+◌, ◌≤◌, Bool, true, false, ◌&&◌, cond, List, [], ◌∷◌, length, Option, Some, None, option_map, arith, length-append}
use Rattle.std.specs.Prelude.{nat_lt}
use Rattle.std.specs.List.{AllByRecursion}
use Rattle.rc_base.specs.Tree.{Tree, word, list, Trees, nil, cons}
use Rattle.rc_deck.proofs.EachLemmas.{append_each}
use Rattle.rc_sheet_spec.specs.Sheet.{Sort}
use Rattle.rc_sheet_spec.specs.WellFormed.{Around, in_repeat}
use Rattle.rc_check.specs.Faults.{rule_of, place_at, count}
use Rattle.rc_check.specs.declared.grammar.Symbol.{Symbol}
use Rattle.rc_check.specs.declared.grammar.Rule.{Rule}
use Rattle.rc_check.specs.declared.grammar.Rule.TheVariants as rule
use Rattle.rc_check.specs.Classes.{bound_in}
use Rattle.rc_check.specs.SecondParts.{Standing, Part, atom, form, parts_at, parts_in, parts_of, with_form, standing_in, standing_alone, is_binder, around_in, word_in, part_at, sort_over}
use Rattle.rc_sheet.proofs.Bodies.{standing_at}

-- the scope is no longer
abbrev pub HasRoom : Around → Type 0
HasRoom around = length around.scope ≤ around.binders + 1

-- where a part stands
abbrev pub standing_of : Part → Standing
standing_of (atom at bytes from) = at
standing_of (form at r parts from) = at

-- behind one more binder
room_behind : (around : Around) (bytes : List ℕ) (sort : Sort) → HasRoom around → HasRoom (bound_in around bytes sort)
room_behind around bytes sort room =
    let longer = length-append around.scope (record { word = bytes; sort = sort } ∷ []) in omega (arith, room, longer)

either_room : (b : Bool) (around around' : Around) → HasRoom around → HasRoom around' → HasRoom (cond b around around')
either_room true around around' first second = first
either_room false around around' first second = second

room_in : (around : Around) (r : Rule) (parts : Trees) (index : ℕ) → HasRoom around → HasRoom (around_in around r parts index)
room_in around rule.Scoring parts index room = omega arith
room_in around rule.PlayerStage parts index room = room
room_in around rule.TeamStage parts index room = room
room_in around rule.Repeat parts index room = either_room (nat_lt 1 index) (in_repeat around) around room room
room_in around r parts index room =
    either_room (is_binder r && nat_lt 2 index) (bound_in around (word_in 2 parts) (sort_over (part_at 1 parts))) around
    (room_behind around (word_in 2 parts) (sort_over (part_at 1 parts)) room) room

-- every part has room around it
abbrev pub Roomy : Part → Type 0
Roomy part = HasRoom (standing_of part).around

form_roomy : (at : Standing) (parts : Trees) (from : ℕ) (found : Option Rule) (inner : Rule → List Part) → HasRoom at.around
    → ((r : Rule) → AllByRecursion Roomy (inner r)) → AllByRecursion Roomy (with_form at parts from inner found)
form_roomy at parts from None inner room within = tt
form_roomy at parts from (Some r) inner room within = (room, within r)

placed_roomy : (at : Standing) (r : Rule) (all : Trees) (index : ℕ) (o : Option Symbol) (tree : Tree)
    → ((q : Symbol) → AllByRecursion Roomy (parts_at (Some (standing_at at r all index q)) tree))
    → AllByRecursion Roomy (parts_at (option_map (λ q. standing_at at r all index q) o) tree)
placed_roomy at r all index None (word bytes from to) each = tt
placed_roomy at r all index None (list parts from to) each = tt
placed_roomy at r all index (Some q) tree each = each q

mutual
  tree_roomy : (at : Standing) (tree : Tree) → HasRoom at.around → AllByRecursion Roomy (parts_at (Some at) tree)
  tree_roomy at (word bytes from to) room = (room, tt)
  tree_roomy at (list parts from to) room =
      form_roomy at parts from (rule_of at.place parts) (λ r. parts_in at r parts 0 parts) room
      (λ r. row_roomy at r parts 0 parts room)

  row_roomy : (at : Standing) (r : Rule) (all : Trees) (index : ℕ) (trees : Trees) → HasRoom at.around
      → AllByRecursion Roomy (parts_in at r all index trees)
  row_roomy at r all index nil room = tt
  row_roomy at r all index (cons tree trees) room =
      append_each Roomy (parts_at (standing_in at r all index) tree) (parts_in at r all (index + 1) trees)
      (placed_roomy at r all index (place_at r (count all) index) tree
      (λ q. tree_roomy (standing_at at r all index q) tree (room_in at.around r all index room)))
      (row_roomy at r all (index + 1) trees room)

pub all_roomy : (tree : Tree) → AllByRecursion Roomy (parts_of tree)
all_roomy tree = tree_roomy standing_alone tree (omega arith)
