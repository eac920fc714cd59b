use Rattle.std.proofs.Common.{ap, ◌∙◌, subst}
use Rattle.rc_log_spec.specs.Reading.{read_log}
use Rattle.rc_log_spec.specs.Log.{log_text}
use Rattle.rc_seatlog.specs.Gives.{Gives}
use Rattle.rc_log_spec.proofs.Matches.{is_small}
use Rattle.rc_seatlog.proofs.Exactly.{read_is, read_spelled, read_of, fault_first}
use Rattle.rc_seatlog.proofs.reading.read_log.Goals as goal

pub returns-clause-text : goal.returns-clause-text
returns-clause-text c = read_is c.args.shape.now c.args.bytes.now c.read_lines.result c.players-players.ensures.limits c.read_lines.ensures c.logs_are_read.ensures.only

pub returns-clause-spelled : goal.returns-clause-spelled
returns-clause-spelled c = read_spelled c.args.shape.now c.args.bytes.now c.read_lines.result c.players-players.ensures.limits c.read_lines.ensures c.logs_are_read.ensures.only

pub returns-clause-again : goal.returns-clause-again
returns-clause-again c =
    λ told is e. subst (Gives c.read_lines.result)
    (ap (read_log c.args.shape.now) e ∙ c.logs_are_read.ensures.again c.args.shape.now told (is_small c.args.shape.now c.players-players.ensures.limits) is) c.read_lines.ensures

pub returns-clause-of : goal.returns-clause-of
returns-clause-of c =
    read_of c.args.shape.now c.args.bytes.now c.read_lines.result c.players-players.ensures.limits c.read_lines.ensures c.logs_are_read.ensures.only c.logs_tell_views.ensures.of

pub returns-clause-log : goal.returns-clause-log
returns-clause-log c =
    λ seat number views less le all e. subst (Gives c.read_lines.result)
    (ap (read_log c.args.shape.now) e
    ∙ c.logs_are_read.ensures.again c.args.shape.now (log_text seat number views) (is_small c.args.shape.now c.players-players.ensures.limits)
    (c.logs_tell_views.ensures.has c.args.shape.now seat number views less le all)) c.read_lines.ensures

pub returns-clause-fault : goal.returns-clause-fault
returns-clause-fault c = fault_first c.args.shape.now c.args.bytes.now c.read_lines.result c.players-players.ensures.limits c.read_lines.ensures c.faults_are_first.ensures.only

pub returns-clause-first : goal.returns-clause-first
returns-clause-first c =
    λ line f. subst (Gives c.read_lines.result)
    (c.faults_are_first.ensures.again c.args.shape.now c.args.bytes.now line (is_small c.args.shape.now c.players-players.ensures.limits) f) c.read_lines.ensures
