use Rattle.std.proofs.Common.{◌≡◌, ◌++◌, drop}
use Rattle.rc_base.specs.Tree.{printed_behind}
use Rattle.rc_sheet_spec.specs.Printing.{packed, coll_forms, test_forms}
use Rattle.rc_ast.specs.Expressions.{colls_seen, tests_seen}
use Rattle.rc_print.specs.Printing.{naming_seen, bound_seen}
use Rattle.rc_print.proofs.expressions.+expressions.Given as goal

-- what is printed and what is left are the whole
abbrev pub invariant-push_union-loop-cards : goal.invariant-push_union-loop-cards
invariant-push_union-loop-cards l =
    l.out.bytes.items ++ printed_behind (packed (coll_forms (naming_seen l.sheet) (bound_seen l.sheet l.bound)
    (colls_seen (drop l.cards-index l.cards-items))))
    ≡ l.initial.out.bytes.items ++ printed_behind (packed (coll_forms (naming_seen l.sheet) (bound_seen l.sheet l.bound)
    (colls_seen l.cards-items)))

abbrev pub invariant-push_tests-loop-test : goal.invariant-push_tests-loop-test
invariant-push_tests-loop-test l =
    l.out.bytes.items ++ printed_behind (packed (test_forms (naming_seen l.sheet) (bound_seen l.sheet l.bound)
    (tests_seen (drop l.test-index l.test-items))))
    ≡ l.initial.out.bytes.items ++ printed_behind (packed (test_forms (naming_seen l.sheet) (bound_seen l.sheet l.bound)
    (tests_seen l.test-items)))
