-- What is read off items, and how many stages and choices have begun behind them.
use Rattle.std.specs.Prelude.{Vec}
use Rattle.std.specs.Global.{Global}
use Rattle.rc_sheet_spec.specs.Sheet.{SheetItems}
use Rattle.rc_sheet_spec.specs.Sheet.{SheetItem as PureItem}
use Rattle.rc_ast.specs.declared.items.SheetItem.{SheetItem}
use Rattle.rc_ast.specs.Items.{item_seen, items_seen}
use Rattle.rc_sheet.specs.ReadItems.{Begun as PureBegun}
use Rattle.rc_sheet.specs.declared.items.Begun.{Begun}

abbrev pub begun_seen : Begun → PureBegun
begun_seen begun = record { stages = begun.stages; sites = begun.sites }

-- an item and what has begun behind it
abbrev pub item_read : SheetItem × Begun → PureItem × PureBegun
item_read read = (item_seen read.0, begun_seen read.1)

-- several items and what has begun behind them
abbrev pub items_read : Vec SheetItem Global × Begun → SheetItems × PureBegun
items_read read = (items_seen read.0.items, begun_seen read.1)
