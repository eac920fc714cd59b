-- The parts of a guard: how many there are, and whether each is one.
use Rattle.std.proofs.Common.{◌≡◌, ℕ, suc, ◌+◌, ◌<◌, ◌≤◌, ◌&&◌, true, false, List, [], ◌∷◌, length, get_or, drop, refl, sym, ap, ◌∙◌, arith}
use Rattle.std.proofs.lemmas.Bool.{le-leb, lt-leb}
use Rattle.std.proofs.lemmas.List.{drop_all}
use Rattle.rc_sheet_spec.specs.Lists.{test_list}
use Rattle.rc_ast.specs.declared.expressions.Test.{Test}
use Rattle.rc_ast.specs.Expressions.{test_seen, tests_seen}
use Rattle.rc_ast.proofs.ViewLemmas.{tests_seen-drop}
use Rattle.rc_code.specs.GuardParts.{in_some_sense, is_guard_test, are_parts, are_few_parts}

tests_count : (tests : List Test) → length (test_list (tests_seen tests)) ≡ length tests
tests_count [] = refl
tests_count (t ∷ tests) = ap suc (tests_count tests)

pub too_many : (tests : List Test) → 4 < length tests → false ≡ are_few_parts (tests_seen tests)
too_many tests many =
    let count = tests_count tests in
    sym (ap (λ b. b && are_parts (tests_seen tests)) (lt-leb (length (test_list (tests_seen tests))) 4 (omega (arith, count, many))))

-- one more is a part
pub one_part : (tests : List Test) (i : ℕ) (t : Test) → i < length tests → t ≡ get_or tests i t → true ≡ in_some_sense is_guard_test (test_seen t) →
    are_parts (tests_seen (drop i tests)) ≡ are_parts (tests_seen (drop (i + 1) tests))
one_part tests i t lt is part =
    ap are_parts (tests_seen-drop tests i t lt is) ∙ ap (λ b. b && are_parts (tests_seen (drop (i + 1) tests))) (sym part)

-- all are parts
pub all_parts : (tests : List Test) (i : ℕ) → length tests ≤ i → are_parts (tests_seen tests) ≡ are_parts (tests_seen (drop i tests)) →
    length tests ≤ 4 → true ≡ are_few_parts (tests_seen tests)
all_parts tests i end parts few =
    let count = tests_count tests in
    let each : are_parts (tests_seen tests) ≡ true = parts ∙ ap (λ ts. are_parts (tests_seen ts)) (drop_all i tests end) in
    sym (ap (λ b. b && are_parts (tests_seen tests)) (le-leb (length (test_list (tests_seen tests))) 4 (omega (arith, count, few))) ∙ each)
