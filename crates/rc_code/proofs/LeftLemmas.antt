-- What is left to run at a place in the code, by the instruction there.
use Rattle.std.proofs.Common.{◌≡◌, ℕ, ◌+◌, true, false, List, [], ◌∷◌, ◌++◌, drop, take, reverse, slice_get, Some, ap, ◌∙◌}
use Rattle.std.proofs.lemmas.List.{drop_more, drop-drop, reverse-append}
use Rattle.std.proofs.lemmas.Option.{slice_get_within, get_or_from_slice_get}
use Rattle.rc_sheet_spec.specs.Sheet.{Class, Test, Alt, SheetItem, SheetItems, do_item, stage, choice}
use Rattle.rc_sheet_spec.specs.Lists.{item_list}
use Rattle.rc_play_spec.specs.Step.{Part, todo, round, turn, todos}
use Rattle.rc_play_spec.specs.Path.{Path}
use Rattle.rc_code.specs.Instruction.{Block, Instruction, do_all, begin_stage, offer}
use Rattle.rc_code.specs.Meaning.{effects_in, items_in, items_from, first_stage, behind_stage, stage_at, behind_at, left_behind, left_by, left_in}
use Rattle.rc_code.proofs.MeaningLemmas.{items_do, items_stage, items_choice}

-- an instruction stands first in the code from its place on
pub first_there : (code : List Instruction) (n : ℕ) (i : Instruction) → slice_get code n ≡ Some i → drop n code ≡ i ∷ drop (n + 1) code
first_there code n i is =
    drop_more code n i (slice_get_within code n i is)
    ∙ ap (λ (x : Instruction). x ∷ drop (n + 1) code) (get_or_from_slice_get code n i i is)

module _ (code : List Instruction) (path : Path) where
  abbrev inner : List ℕ
  inner = reverse path.outer

  abbrev rest : List Part
  rest = left_behind code inner

  -- where no round is next
  pub left_here : path.at_round ≡ false → left_in code path ≡ todos (items_from (drop path.next code)) ++ rest
  left_here here = ap (left_by code inner path.next) here

  from_items : (i : Instruction) (items : SheetItems) → path.at_round ≡ false → slice_get code path.next ≡ Some i →
      items_in (i ∷ drop (path.next + 1) code) ≡ items → left_in code path ≡ todos (item_list items) ++ rest
  from_items i items here is are =
      left_here here ∙ ap (λ (list : List Instruction). todos (items_from list) ++ rest) (first_there code path.next i is)
      ∙ ap (λ (is : SheetItems). todos (item_list is) ++ rest) are

  -- a `do` item, and what is behind it
  pub left_do : (inside : ℕ) → path.at_round ≡ false → slice_get code path.next ≡ Some (do_all inside) →
      left_in code path
      ≡ todo (do_item (effects_in (take inside (drop (path.next + 1) code)))) ∷ todos (items_from (drop (path.next + 1 + inside) code)) ++ rest
  left_do inside here is =
      from_items (do_all inside) _ here is (items_do inside (drop (path.next + 1) code))
      ∙ ap (λ (list : List Instruction). todo (do_item (effects_in (take inside (drop (path.next + 1) code)))) ∷ todos (items_from list) ++ rest)
      (drop-drop inside (path.next + 1) code)

  -- a choice
  pub left_choice : (site : ℕ) (alts : List Alt) (blocks : List Block) (inside : ℕ) → path.at_round ≡ false →
      slice_get code path.next ≡ Some (offer site alts blocks inside) →
      left_in code path
      ≡ todo (choice site alts) ∷ todos (items_from (drop (path.next + 1 + inside) code)) ++ rest
  left_choice site alts blocks inside here is =
      from_items (offer site alts blocks inside) _ here is (items_choice site alts blocks inside (drop (path.next + 1) code))
      ∙ ap (λ (list : List Instruction). todo (choice site alts) ∷ todos (items_from list) ++ rest) (drop-drop inside (path.next + 1) code)

  -- a stage, and its round once it is open
  pub left_stage : (number : ℕ) (class : Class) (end : Test) (inside : ℕ) → path.at_round ≡ false →
      slice_get code path.next ≡ Some (begin_stage number class end inside) →
      left_in code path
      ≡ todo (stage number class end (items_in (drop (path.next + 1) code))) ∷ todos (items_from (drop (path.next + 1 + inside) code)) ++ rest
  left_stage number class end inside here is =
      from_items (begin_stage number class end inside) _ here is (items_stage number class end inside (drop (path.next + 1) code))
      ∙ ap (λ (list : List Instruction). todo (stage number class end (items_in (drop (path.next + 1) code))) ∷ todos (items_from list) ++ rest)
      (drop-drop inside (path.next + 1) code)

  pub left_opened : (number : ℕ) (class : Class) (end : Test) (inside next : ℕ) →
      slice_get code path.next ≡ Some (begin_stage number class end inside) →
      left_in code (record { outer = path.outer ++ path.next ∷ []; next = next; at_round = true })
      ≡ round (record { number = number; class = class; end = end; body = items_in (drop (path.next + 1) code) })
      ∷ todos (items_from (drop (path.next + 1 + inside) code)) ++ rest
  left_opened number class end inside next is =
      ap (λ ns. left_by code ns next true) (reverse-append path.outer (path.next ∷ []))
      ∙ ap (λ (list : List Instruction). round (first_stage list) ∷ todos (items_from (behind_stage list)) ++ rest) (first_there code path.next _ is)
      ∙ ap (λ (list : List Instruction). round (record { number = number; class = class; end = end; body = items_in (drop (path.next + 1) code) }) ∷ todos (items_from list) ++ rest)
      (drop-drop inside (path.next + 1) code)

  -- where no item is next and no stage is open, nothing is left
  pub left_done : path.at_round ≡ false → path.outer ≡ [] → items_from (drop path.next code) ≡ [] → left_in code path ≡ []
  left_done here none end =
      left_here here ∙ ap (λ (items : List SheetItem). todos items ++ rest) end ∙ ap (λ ns. left_behind code (reverse ns)) none

  -- within a stage
  module _ (outer : List ℕ) (place : ℕ) (within : path.outer ≡ outer ++ place ∷ []) where
    abbrev behind : List Part
    behind = todos (behind_at code place) ++ left_behind code (reverse outer)

    inner_is : inner ≡ place ∷ reverse outer
    inner_is = ap reverse within ∙ reverse-append outer (place ∷ [])

    -- the turn and the round behind the last item of its body
    pub left_turn : path.at_round ≡ false → items_from (drop path.next code) ≡ [] →
        left_in code path ≡ turn (stage_at code place) ∷ round (stage_at code place) ∷ behind
    left_turn here end =
        left_here here ∙ ap (λ (items : List SheetItem). todos items ++ rest) end ∙ ap (left_behind code) inner_is

    -- at a round
    pub left_round : path.at_round ≡ true → left_in code path ≡ round (stage_at code place) ∷ behind
    left_round here = ap (left_by code inner path.next) here ∙ ap (λ ns. left_by code ns path.next true) inner_is

-- at another instruction from which the same code goes on
pub left_from : (code : List Instruction) (outer : List ℕ) (n next : ℕ) → drop next code ≡ drop n code →
    left_in code (record { outer = outer; next = next; at_round = false }) ≡ todos (items_from (drop n code)) ++ left_behind code (reverse outer)
left_from code outer n next same = ap (λ (list : List Instruction). todos (items_from list) ++ left_behind code (reverse outer)) same

-- the body of an open stage, and behind it
pub left_body : (code : List Instruction) (outer : List ℕ) (place next : ℕ) →
    left_in code (record { outer = outer ++ place ∷ []; next = next; at_round = false })
    ≡ todos (items_from (drop next code))
    ++ (turn (stage_at code place) ∷ round (stage_at code place) ∷ (todos (behind_at code place) ++ left_behind code (reverse outer)))
left_body code outer place next =
    ap (λ ns. todos (items_from (drop next code)) ++ left_behind code ns) (reverse-append outer (place ∷ []))

-- what a stage in the code is, and what is behind it
pub stage_there : (code : List Instruction) (place number : ℕ) (class : Class) (end : Test) (inside : ℕ) →
    slice_get code place ≡ Some (begin_stage number class end inside) →
    stage_at code place ≡ record { number = number; class = class; end = end; body = items_in (drop (place + 1) code) }
stage_there code place number class end inside is = ap first_stage (first_there code place _ is)

pub behind_there : (code : List Instruction) (place number : ℕ) (class : Class) (end : Test) (inside : ℕ) →
    slice_get code place ≡ Some (begin_stage number class end inside) → behind_at code place ≡ items_from (drop (place + 1 + inside) code)
behind_there code place number class end inside is =
    ap (λ (list : List Instruction). items_from (behind_stage list)) (first_there code place _ is) ∙ ap items_from (drop-drop inside (place + 1) code)
