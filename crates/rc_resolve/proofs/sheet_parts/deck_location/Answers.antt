use Rattle.rc_form.specs.Form.{tree_of}
use Rattle.rc_resolve.proofs.Lengths.{location_short}
use Rattle.rc_resolve.proofs.sheet_parts.deck_location.Goals as goal

pub returns-in_default : goal.returns-in_default
returns-in_default c = location_short c.parts_of.result.now (tree_of c.args.line.now) c.parts_of.ensures c.in_default.len_below
