use Rattle.std.proofs.Common.{◌≡◌, drop}
use Rattle.rc_form.specs.Form.{trees_of, packed}
use Rattle.rc_resolve.specs.Known.{with_all, in_trees}
use Rattle.rc_resolve.proofs.known.Known.+names.Given as goal

-- what is known so far and what is left to mention are the whole
abbrev pub invariant-add_names-loop-form : goal.invariant-add_names-loop-form
invariant-add_names-loop-form l =
    with_all l.self (in_trees (packed (trees_of (drop l.form-index l.forms))))
    ≡ with_all l.initial.self (in_trees (packed (trees_of l.forms)))
