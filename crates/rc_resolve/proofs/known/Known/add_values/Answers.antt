use Rattle.std.proofs.Common.{◌∙◌, []}
use Rattle.rc_sheet_spec.specs.FormMentions.{word_of}
use Rattle.rc_resolve.specs.Known.{in_deck_of, in_values}
use Rattle.rc_resolve.proofs.Steps.{step, values-split}
use Rattle.rc_resolve.proofs.known.Known.add_values.Goals as goal

pub loop-value-preserved : goal.loop-value-preserved
loop-value-preserved c =
    step in_values (λ tree. in_deck_of [] (word_of tree)) values-split c.loop-value.self _ c.args.values.now _ c.value-item.result
    c.loop-value-test.true c.value-item.is c.in_ok-add_value.ensures
    ∙ c.loop-value.invariant
