use Rattle.std.proofs.Common.{◌≡◌, map, drop}
use Rattle.rc_sheet_spec.specs.Sight.{locs_in_colls, locs_in_tests}
use Rattle.rc_ast.specs.Names.{loc_name_seen}
use Rattle.rc_ast.specs.Expressions.{colls_seen, tests_seen}
use Rattle.rc_flow.specs.Least.{least_with}
use Rattle.rc_flow.proofs.expressions.+expressions.Given as goal

-- what is left to go over, with what was found, gives what all of it gives
abbrev pub invariant-in_colls-loop-cards : goal.invariant-in_colls-loop-cards
invariant-in_colls-loop-cards l =
    least_with (map loc_name_seen l.names) l.least (locs_in_colls (colls_seen (drop l.cards-index l.cards-items)))
    ≡ least_with (map loc_name_seen l.names) l.fn.found (locs_in_colls (colls_seen l.cards-items))

abbrev pub invariant-in_tests-loop-test : goal.invariant-in_tests-loop-test
invariant-in_tests-loop-test l =
    least_with (map loc_name_seen l.names) l.least (locs_in_tests (tests_seen (drop l.test-index l.test-items)))
    ≡ least_with (map loc_name_seen l.names) l.fn.found (locs_in_tests (tests_seen l.test-items))
