use Rattle.std.proofs.Common.{sym, ap, ◌∙◌}
use Rattle.rc_sheet_spec.specs.Sheet.{union_of, and_of, or_of}
use Rattle.rc_sheet_spec.specs.Lists.{colls_from, tests_from}
use Rattle.rc_ast.specs.Expressions.{coll_seen, test_seen}
use Rattle.rc_ast.proofs.ViewLemmas.{union_seen, and_seen, or_seen}
use Rattle.rc_code.proofs.copies.+copies.Goals as goal

pub copy_coll-returns-in_ok-copy_colls-in-Union : goal.copy_coll-returns-in_ok-copy_colls-in-Union
copy_coll-returns-in_ok-copy_colls-in-Union t c =
    c.union_of.ensures ∙ ap (λ cs. union_of (colls_from cs)) c.in_ok-copy_colls-in-Union.ensures
    ∙ sym (ap coll_seen c.in-Union.is ∙ union_seen c.in-Union.parts)

pub copy_test-returns-in_ok-copy_tests-in-And : goal.copy_test-returns-in_ok-copy_tests-in-And
copy_test-returns-in_ok-copy_tests-in-And t c =
    c.and_of.ensures ∙ ap (λ ts. and_of (tests_from ts)) c.in_ok-copy_tests-in-And.ensures
    ∙ sym (ap test_seen c.in-And.is ∙ and_seen c.in-And.tests)

pub copy_test-returns-in_ok-copy_tests-in-Or : goal.copy_test-returns-in_ok-copy_tests-in-Or
copy_test-returns-in_ok-copy_tests-in-Or t c =
    c.or_of.ensures ∙ ap (λ ts. or_of (tests_from ts)) c.in_ok-copy_tests-in-Or.ensures
    ∙ sym (ap test_seen c.in-Or.is ∙ or_seen c.in-Or.tests)
