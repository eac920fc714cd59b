use Rattle.std.proofs.Common.{◌≡◌, drop}
use Rattle.rc_form.specs.Form.{trees_of, packed}
use Rattle.rc_sheet_spec.specs.FormMentions.{all_var_words}
use Rattle.rc_resolve.specs.Known.{with_all, variables}
use Rattle.rc_resolve.proofs.known.Known.+binding.Given as goal

-- what is known so far and what is left to mention are the whole
abbrev pub invariant-add_all_variables-loop-form : goal.invariant-add_all_variables-loop-form
invariant-add_all_variables-loop-form l =
    with_all l.self (variables (all_var_words (packed (trees_of (drop l.form-index l.forms)))))
    ≡ with_all l.initial.self (variables (all_var_words (packed (trees_of l.forms))))
