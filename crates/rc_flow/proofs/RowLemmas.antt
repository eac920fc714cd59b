-- The locations of a value that holds a vector of others, from the vector's items.
use Rattle.std.proofs.Common.{◌≡◌, ℕ, Vec, Global, ap, ◌∙◌}
use Rattle.rc_sheet_spec.specs.Sight.{locs_in_coll, locs_in_colls, locs_in_test, locs_in_tests, locs_in_item, locs_in_items}
use Rattle.rc_sheet_spec.specs.Sheet.{Class}
use Rattle.rc_ast.specs.declared.expressions.CollExpr.{CollExpr, Union}
use Rattle.rc_ast.specs.declared.expressions.Test.{Test, And, Or}
use Rattle.rc_ast.specs.declared.items.SheetItem.{SheetItem, Stage}
use Rattle.rc_ast.specs.Expressions.{coll_seen, colls_seen, test_seen, tests_seen}
use Rattle.rc_ast.specs.Items.{item_seen, items_seen}
use Rattle.rc_ast.proofs.ViewLemmas.{union_seen, and_seen, or_seen, stage_seen}

pub union_locs : (cards : CollExpr) (parts : Vec CollExpr Global) → cards ≡ Union parts →
    locs_in_coll (coll_seen cards) ≡ locs_in_colls (colls_seen parts.items)
union_locs cards parts is = ap (λ c. locs_in_coll (coll_seen c)) is ∙ ap locs_in_coll (union_seen parts)

pub and_locs : (t : Test) (tests : Vec Test Global) → t ≡ And tests →
    locs_in_test (test_seen t) ≡ locs_in_tests (tests_seen tests.items)
and_locs t tests is = ap (λ u. locs_in_test (test_seen u)) is ∙ ap locs_in_test (and_seen tests)

pub or_locs : (t : Test) (tests : Vec Test Global) → t ≡ Or tests →
    locs_in_test (test_seen t) ≡ locs_in_tests (tests_seen tests.items)
or_locs t tests is = ap (λ u. locs_in_test (test_seen u)) is ∙ ap locs_in_test (or_seen tests)

pub stage_locs : (i : SheetItem) (number : ℕ) (class : Class) (end : Test) (body : Vec SheetItem Global) →
    i ≡ Stage number class end body → locs_in_item (item_seen i) ≡ locs_in_items (items_seen body.items)
stage_locs i number class end body is =
    ap (λ j. locs_in_item (item_seen j)) is ∙ ap locs_in_item (stage_seen number class end body)
