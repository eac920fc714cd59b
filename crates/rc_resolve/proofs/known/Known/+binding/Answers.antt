use Rattle.std.proofs.Common.{◌∙◌, ap}
use Rattle.rc_deck.proofs.EachLemmas.{on_ok}
use Rattle.rc_sheet_spec.specs.FormMentions.{all_var_words, var_words}
use Rattle.rc_resolve.specs.Known.{with_all, variables}
use Rattle.rc_resolve.proofs.Steps.{step, variables-split}
use Rattle.rc_resolve.proofs.Lengths.{bound_short}
use Rattle.rc_resolve.proofs.known.Known.+binding.Goals as goal

pub add_all_variables-loop-form-preserved : goal.add_all_variables-loop-form-preserved
add_all_variables-loop-form-preserved t c =
    step (λ trees. variables (all_var_words trees)) (λ tree. variables (var_words tree)) variables-split c.loop-form.self _
    c.args.forms.now _ c.form-item.result c.loop-form-test.true c.form-item.is c.in_ok-add_variables.ensures
    ∙ c.loop-form.invariant

pub add_bound-returns-in_default : goal.add_bound-returns-in_default
add_bound-returns-in_default t c =
    on_ok c.add_all_variables.result c.add_all_variables.ensures (λ added.
    added ∙ ap (λ words. with_all c.args.self.now (variables words)) (bound_short c.args.parts.now c.in_default.len_below))
