use Rattle.std.proofs.Common.{◌≡◌, drop}
use Rattle.rc_form.specs.Form.{trees_of, packed}
use Rattle.rc_sheet_spec.specs.FormMentions.{all_gathered}
use Rattle.rc_resolve.specs.Mentions.{loc_mention}
use Rattle.rc_resolve.specs.Known.{with_all, locs_alone}
use Rattle.rc_resolve.proofs.known.Known.+locations.Given as goal

-- what is known so far and what is left to mention are the whole
abbrev pub invariant-add_locations-loop-form : goal.invariant-add_locations-loop-form
invariant-add_locations-loop-form l =
    with_all l.self (locs_alone (all_gathered loc_mention (packed (trees_of (drop l.form-index l.forms)))))
    ≡ with_all l.initial.self (locs_alone (all_gathered loc_mention (packed (trees_of l.forms))))
