use Rattle.std.proofs.Common.{ap, ◌∙◌, subst, rules}
use Rattle.rc_play_spec.specs.HouseText.{naming}
use Rattle.rc_play_spec.specs.Reading.{lines_in, read_in}
use Rattle.rc_play_spec.proofs.LineCuts.{lines_one}
use Rattle.rc_text.specs.Gives.{Gives}
use Rattle.rc_text.specs.House.{named_seen}
use Rattle.rc_text.proofs.Exactly.{read_is, read_spelled, read_few, read_fault}
use Rattle.rc_text.proofs.reading.read_named.Goals as goal

pub returns-clause-text : goal.returns-clause-text
returns-clause-text c =
    read_is (naming (lines_in c.args.legend.now).0) named_seen c.args.bytes.now c.read_lines.result c.read_lines.ensures.reads c.texts_are_read.ensures.only

pub returns-clause-spelled : goal.returns-clause-spelled
returns-clause-spelled c =
    read_spelled (naming (lines_in c.args.legend.now).0) named_seen c.args.bytes.now c.read_lines.result c.read_lines.ensures.reads c.texts_are_read.ensures.only

pub returns-clause-few : goal.returns-clause-few
returns-clause-few c =
    read_few (naming (lines_in c.args.legend.now).0) named_seen c.args.bytes.now c.read_lines.result c.read_lines.ensures.reads c.texts_are_read.ensures.only
    c.texts_are_of_lines.ensures.few

pub returns-clause-again : goal.returns-clause-again
returns-clause-again c = λ told is e.
    let f = naming (lines_in c.args.legend.now).0 in
    subst (Gives named_seen c.read_lines.result)
    (ap (read_in f) e ∙ c.texts_are_read.ensures.again f told (search rules, lines_one c.args.legend.now) is) c.read_lines.ensures.reads

pub returns-clause-fault : goal.returns-clause-fault
returns-clause-fault c =
    let f = naming (lines_in c.args.legend.now).0 in
    read_fault f named_seen c.args.bytes.now c.read_lines.result c.read_lines.ensures.reads
    (λ n e. c.faults_are_first.ensures.only f c.args.bytes.now n (search rules, lines_one c.args.legend.now) e)

pub returns-clause-first : goal.returns-clause-first
returns-clause-first c = λ line fault.
    let f = naming (lines_in c.args.legend.now).0 in
    subst (Gives named_seen c.read_lines.result)
    (c.faults_are_first.ensures.again f c.args.bytes.now line (search rules, lines_one c.args.legend.now) fault) c.read_lines.ensures.reads
