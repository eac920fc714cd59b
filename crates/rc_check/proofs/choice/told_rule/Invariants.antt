use Rattle.std.proofs.Common.{◌≡◌, ◌&&◌, drop}
use Rattle.std.specs.List.{find}
use Rattle.rc_form.specs.Form.{tree_of, trees_of, packed}
use Rattle.rc_check.specs.Faults.{begins, is_told, second_word, told_rule}
use Rattle.rc_check.proofs.choice.told_rule.Given as goal

-- the form that is told among those that are left is the one that is told among all
abbrev pub invariant-loop-rule : goal.invariant-loop-rule
invariant-loop-rule l =
    find (λ rule. begins (tree_of l.head) rule && is_told (second_word rule) (packed (trees_of l.others))) (drop l.rule-index l.rule-items) ≡ told_rule l.fn.place (tree_of l.head) (packed (trees_of l.others))
