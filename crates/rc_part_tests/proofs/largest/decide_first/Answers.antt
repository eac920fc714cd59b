use Rattle.std.proofs.Common.{ap}
use Rattle.rc_play_spec.specs.Keyed.{dealing_of}
use Rattle.rc_rules.specs.Control.{stop_seen}
use Rattle.rc_plain.specs.Plain.{config_of}
use Rattle.rc_part_tests.proofs.Decided.{first_decides}
use Rattle.rc_part_tests.proofs.largest.decide_first.Goals as goal

pub returns-in-Ok-Decide-clause-decides : goal.returns-in-Ok-Decide-clause-decides
returns-in-Ok-Decide-clause-decides c =
    let stop = c.in-Ok-Decide in
    first_decides c.args.about.now c.args.machine.now.about (dealing_of c.args.dealer.now.deal) c.args.dealer.now.count c.advance.new.dealer.count
    stop.field-0-0 stop.field-0-1 (stop_seen stop.field-0) (config_of c.args.machine.now) (config_of c.advance.new.self)
    c.controls_fit_their_sites.ensures c.sheet-sheet.ensures.shape c.sheet-sheet.ensures.well c.requires.about c.requires.start
    stop.ensures.leads (ap stop_seen stop.field-0-is) stop.ensures.stands
