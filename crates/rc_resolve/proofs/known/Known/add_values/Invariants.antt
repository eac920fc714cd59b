use Rattle.std.proofs.Common.{◌≡◌, drop}
use Rattle.rc_form.specs.Form.{trees_of, packed}
use Rattle.rc_resolve.specs.Known.{with_all, in_values}
use Rattle.rc_resolve.proofs.known.Known.add_values.Given as goal

-- what is known so far and what is left to mention are the whole
abbrev pub invariant-loop-value : goal.invariant-loop-value
invariant-loop-value l =
    with_all l.self (in_values (packed (trees_of (drop l.value-index l.values))))
    ≡ with_all l.initial.self (in_values (packed (trees_of l.values)))
