use Rattle.std.proofs.Common.{◌≡◌}
use Rattle.rc_form.specs.Form.{trees_of, packed}
use Rattle.rc_ast.specs.Expressions.{coll_seen, test_seen}
use Rattle.rc_sheet_spec.specs.Sheet.{coll, test}
use Rattle.rc_sheet.specs.ReadExpressions.{colls_at, tests_at}
use Rattle.rc_sheet.proofs.InTurn.{so_far}
use Rattle.rc_sheet.proofs.reader.Reader.+reading.Given as goal

-- what was read stands before what the other forms say
abbrev pub invariant-collections-loop-form : goal.invariant-collections-loop-form
invariant-collections-loop-form l =
    let all = colls_at l.self l.scope in
    so_far coll_seen coll all l.all.items l.forms l.form-index ≡ all (packed (trees_of l.forms))

abbrev pub invariant-tests-loop-form : goal.invariant-tests-loop-form
invariant-tests-loop-form l =
    let all = tests_at l.self l.scope in
    so_far test_seen test all l.all.items l.forms l.form-index ≡ all (packed (trees_of l.forms))
