use Rattle.rc_rules.specs.Record.{pick_seen}
use Rattle.rc_text.specs.BoundSeen.{option_seen}
use Rattle.rc_text.proofs.FirstLines.{choice_first, first_shorter}
use Rattle.rc_text.proofs.lines.first_choice.Goals as goal

pub returns-clause-found : goal.returns-clause-found
returns-clause-found c =
    choice_first c.args.named c.args.bytes.now c.in_ok-pick.rest.now c.in_ok-marks.marks.now c.in_ok-marks.later.now
    (pick_seen c.in_ok-pick.pick) (option_seen c.in_ok-bounds.bounds) c.in_ok-pick.ensures
    c.in_ok-marks.ensures.found c.in_ok-bounds.ensures.found

pub returns-clause-shorter : goal.returns-clause-shorter
returns-clause-shorter c =
    let found = returns-clause-found c in first_shorter c.args.bytes.now found.0 c.in_ok-marks.later.now found.1
