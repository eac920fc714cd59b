-- Stages among the items of a sheet, as the definitions have them.
use Rattle.std.proofs.Common.{◌≡◌, ℕ, List, [], ◌∷◌, map, Some, Vec, Global, refl, sym, ap, ◌∙◌}
use Rattle.rc_ast.specs.declared.items.SheetItem.{SheetItem, Stage}
use Rattle.rc_ast.specs.declared.expressions.Test.{Test}
use Rattle.rc_ast.specs.Expressions.{test_seen}
use Rattle.rc_ast.specs.Items.{item_seen, items_seen}
use Rattle.rc_ast.proofs.ViewLemmas.{stage_seen}
use Rattle.rc_ast.specs.declared.sheet.Sheet.{Sheet}
use Rattle.rc_ast.specs.Sheet.{sheet_seen}
use Rattle.rc_sheet_spec.specs.Sheet.{Class, SheetItem as PureItem, Sheet as PureSheet}
use Rattle.rc_sheet_spec.specs.Lists.{items_from, item_list}
use Rattle.rc_play_spec.specs.Path.{body_of, stage_in}

pub item_list-from : (items : List PureItem) → item_list (items_from items) ≡ items
item_list-from [] = refl
item_list-from (i ∷ items) = ap (λ is. i ∷ is) (item_list-from items)

pub stage_is : (item : SheetItem) (number : ℕ) (class : Class) (end : Test) (body : Vec SheetItem Global) → item ≡ Stage number class end body →
    stage_in (Some (item_seen item)) ≡ Some (record { number = number; class = class; end = test_seen end; body = items_seen body.items })
stage_is item number class end body is =
    ap (λ i. stage_in (Some (item_seen i))) is ∙ ap (λ i. stage_in (Some i)) (stage_seen number class end body)

pub body_is : (item : SheetItem) (number : ℕ) (class : Class) (end : Test) (body : Vec SheetItem Global) → item ≡ Stage number class end body →
    map item_seen body.items ≡ body_of (stage_in (Some (item_seen item)))
body_is item number class end body is =
    sym (item_list-from (map item_seen body.items)) ∙ sym (ap body_of (stage_is item number class end body is))

-- the items of a sheet, by what is known of its tree
pub items_are : (sheet : Sheet) (pure : PureSheet) → sheet_seen sheet ≡ pure → map item_seen sheet.items.items ≡ item_list pure.items
items_are sheet pure same = sym (item_list-from (map item_seen sheet.items.items)) ∙ ap (λ (s : PureSheet). item_list s.items) same
