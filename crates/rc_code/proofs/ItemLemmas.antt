-- The code of items, one after the other, and the places of the choices in it.
use Rattle.std.proofs.Common.{◌≡◌, ℕ, ◌+◌, ◌<◌, List, ◌++◌, length, get_or, drop, sym, ap, ◌∙◌, append_assoc}
use Rattle.rc_ast.specs.declared.items.SheetItem.{SheetItem}
use Rattle.rc_ast.specs.Items.{item_seen, items_seen}
use Rattle.rc_ast.proofs.ViewLemmas.{items_seen-drop}
use Rattle.rc_code.specs.Instruction.{Instruction, SitePlace}
use Rattle.rc_code.specs.Compiled.{item_code, items_code, item_sites, items_sites}

module _ (items : List SheetItem) (n : ℕ) (i : SheetItem) (within : n < length items) (is : i ≡ get_or items n i) where
  -- one more of the items
  pub one_item : (now next first : List Instruction) → now ++ items_code (items_seen (drop n items)) ≡ first →
      next ≡ now ++ item_code (item_seen i) → next ++ items_code (items_seen (drop (n + 1) items)) ≡ first
  one_item now next first kept pushed =
      let rest = items_seen (drop (n + 1) items) in
      ap (λ code. code ++ items_code rest) pushed
      ∙ append_assoc now (item_code (item_seen i)) (items_code rest)
      ∙ ap (λ is. now ++ items_code is) (sym (items_seen-drop items n i within is)) ∙ kept

  -- and its places
  pub one_more_places : (now next first : List SitePlace) (outer : List ℕ) (at after : ℕ) → now ++ items_sites outer at (items_seen (drop n items)) ≡ first →
      next ≡ now ++ item_sites outer at (item_seen i) → after ≡ at + length (item_code (item_seen i)) →
      next ++ items_sites outer after (items_seen (drop (n + 1) items)) ≡ first
  one_more_places now next first outer at after kept pushed grown =
      let rest = items_seen (drop (n + 1) items) in
      ap (λ places. places ++ items_sites outer after rest) pushed
      ∙ ap (λ k. (now ++ item_sites outer at (item_seen i)) ++ items_sites outer k rest) grown
      ∙ append_assoc now (item_sites outer at (item_seen i)) (items_sites outer (at + length (item_code (item_seen i))) rest)
      ∙ ap (λ is. now ++ items_sites outer at is) (sym (items_seen-drop items n i within is)) ∙ kept
