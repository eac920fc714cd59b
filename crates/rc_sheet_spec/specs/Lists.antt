-- The list types of a sheet's tree, from lists and back.
use Rattle.std.specs.Prelude.{List, [], ◌∷◌}
use Rattle.rc_sheet_spec.specs.Sheet.{CollExpr, CollExprs, no_coll, coll, Test, Tests, no_test, test, Effect, Effects, no_effect, effect, SheetItem, SheetItems, no_item, item}

abbrev pub colls_from : List CollExpr → CollExprs
colls_from [] = no_coll
colls_from (c ∷ cs) = coll c (colls_from cs)

abbrev pub tests_from : List Test → Tests
tests_from [] = no_test
tests_from (t ∷ ts) = test t (tests_from ts)

abbrev pub effects_from : List Effect → Effects
effects_from [] = no_effect
effects_from (e ∷ es) = effect e (effects_from es)

abbrev pub items_from : List SheetItem → SheetItems
items_from [] = no_item
items_from (i ∷ is) = item i (items_from is)

abbrev pub coll_list : CollExprs → List CollExpr
coll_list no_coll = []
coll_list (coll c cs) = c ∷ coll_list cs

abbrev pub test_list : Tests → List Test
test_list no_test = []
test_list (test t ts) = t ∷ test_list ts

abbrev pub effect_list : Effects → List Effect
effect_list no_effect = []
effect_list (effect e es) = e ∷ effect_list es

abbrev pub item_list : SheetItems → List SheetItem
item_list no_item = []
item_list (item i is) = i ∷ item_list is
