-- Alternatives and items as the pure trees have them. A row is a vector's items.
use Rattle.std.specs.Prelude.{List, map}
use Rattle.rc_sheet_spec.specs.Sheet.{do_alt, if_alt, any_alt, do_item, stage, choice, SheetItems, no_item, item}
use Rattle.rc_sheet_spec.specs.Sheet.{Alt as PureAlt, SheetItem as PureItem}
use Rattle.rc_sheet_spec.specs.Lists.{items_from}
use Rattle.rc_ast.specs.declared.items.Alt.{Alt, Do as DoAlt, If as IfAlt, Any'}
use Rattle.rc_ast.specs.declared.items.SheetItem.{SheetItem, Do, Stage', Choice, Row_of-SheetItem, end_of-SheetItem, more_of-SheetItem}
use Rattle.rc_ast.specs.Expressions.{test_seen, domain_seen}
use Rattle.rc_ast.specs.Effects.{effects_seen}

abbrev pub alt_seen : Alt → PureAlt
alt_seen (DoAlt effects) = do_alt (effects_seen effects.items)
alt_seen (IfAlt guard effects) = if_alt (test_seen guard.value) (effects_seen effects.items)
alt_seen (Any' domain bound p alt) = any_alt (domain_seen domain) bound (alt_seen alt)

-- the trees of a vector's items
abbrev pub alts_seen : List Alt → List PureAlt
alts_seen alts = map alt_seen alts

abbrev mutual
  pub item_seen : SheetItem → PureItem
  item_seen (Do effects) = do_item (effects_seen effects.items)
  item_seen (Stage' number class end shape row) = stage number class (test_seen end) (items_of_row row)
  item_seen (Choice site alts) = choice site (alts_seen alts.items)

  pub items_of_row : {m : _} → Row_of-SheetItem m → SheetItems
  items_of_row end_of-SheetItem = no_item
  items_of_row (more_of-SheetItem i rest) = item (item_seen i) (items_of_row rest)

-- the trees of a vector's items
abbrev pub items_seen : List SheetItem → SheetItems
items_seen is = items_from (map item_seen is)
