use Rattle.std.proofs.Common.{◌∙◌}
use Rattle.rc_sheet_spec.specs.FormMentions.{gathered, all_gathered}
use Rattle.rc_resolve.specs.Mentions.{loc_mention}
use Rattle.rc_resolve.specs.Known.{locs_alone}
use Rattle.rc_resolve.proofs.Steps.{step, locations-split}
use Rattle.rc_resolve.proofs.known.Known.+locations.Goals as goal

pub add_locations-loop-form-preserved : goal.add_locations-loop-form-preserved
add_locations-loop-form-preserved t c =
    step (λ trees. locs_alone (all_gathered loc_mention trees)) (λ tree. locs_alone (gathered loc_mention tree)) locations-split
    c.loop-form.self _ c.args.forms.now _
    c.form-item.result
    c.loop-form-test.true c.form-item.is c.in_ok-add_locations_in.ensures
    ∙ c.loop-form.invariant
