use Rattle.std.proofs.Common.{◌++◌, [], ap, ◌∙◌}
use Rattle.rc_rules.specs.Record.{record_seen}
use Rattle.rc_play_spec.specs.TextParts.{record_told}
use Rattle.rc_play_spec.proofs.SameTexts.{bare_record}
use Rattle.rc_text.proofs.house.write_record.Goals as goal

pub returns : goal.returns
returns c = c.in_ok-add_record.ensures ∙ ap (λ front. front ++ record_told [] (record_seen c.args.item.now)) c.new-out.ensures.items ∙ bare_record (record_seen c.args.item.now)
