use Rattle.std.proofs.Common.{◌≡◌, drop}
use Rattle.rc_form.specs.Form.{trees_of, packed}
use Rattle.rc_check.specs.SecondParts.{Standing, parts_in}
use Rattle.rc_check.specs.Summary.{know_all}
use Rattle.rc_check.proofs.whole.Whole.+learning.Given as goal

-- what is known with the parts that are left is what is known with all
abbrev pub invariant-learn_parts-loop-index : goal.invariant-learn_parts-loop-index
invariant-learn_parts-loop-index l = (at : Standing) → at.role ≡ l.role
    → know_all l.self (parts_in at l.rule (packed (trees_of l.parts)) l.index (packed (trees_of (drop l.index l.parts))))
    ≡ know_all l.fn.self (parts_in at l.rule (packed (trees_of l.parts)) 0 (packed (trees_of l.parts)))
