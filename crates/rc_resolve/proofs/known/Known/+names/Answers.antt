use Rattle.std.proofs.Common.{◌∙◌}
use Rattle.rc_resolve.specs.Known.{in_tree, in_trees}
use Rattle.rc_resolve.proofs.Steps.{step, trees-split}
use Rattle.rc_resolve.proofs.known.Known.+names.Goals as goal

pub add_names-loop-form-preserved : goal.add_names-loop-form-preserved
add_names-loop-form-preserved t c =
    step in_trees in_tree trees-split c.loop-form.self _ c.args.forms.now _
    c.form-item.result
    c.loop-form-test.true c.form-item.is c.in_ok-add_names_in.ensures
    ∙ c.loop-form.invariant
