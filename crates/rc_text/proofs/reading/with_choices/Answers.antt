use Rattle.std.proofs.Common.{map, ap, ◌∙◌}
use Rattle.rc_rules.specs.Record.{record_seen}
use Rattle.rc_play_spec.specs.Reading.{lines_in, read_from}
use Rattle.rc_text.specs.PlaceSeen.{marks_of, stand_seen}
use Rattle.rc_text.proofs.reading.with_choices.Goals as goal

pub returns-in_ok-number-in-Playing-clause-reads : goal.returns-in_ok-number-in-Playing-clause-reads
returns-in_ok-number-in-Playing-clause-reads c =
    let before = c.in-Playing.before in
    ap (λ place. read_from c.args.named c.args.from (stand_seen place) (lines_in c.args.bytes.now).0 (lines_in c.args.bytes.now).1) c.in-Playing.is
    ∙ c.in_ok-number-in-Playing.ensures.reads (map record_seen before.records.items) (marks_of before)
