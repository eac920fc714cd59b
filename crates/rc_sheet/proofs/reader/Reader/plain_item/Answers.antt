use Rattle.rc_sheet.specs.Begun.{begun_seen, item_read}
use Rattle.rc_sheet.proofs.Lists.{gives_same}
use Rattle.rc_sheet.proofs.PlainLemmas.{do_item_read, choice_read}
use Rattle.rc_sheet.proofs.reader.Reader.plain_item.Goals as goal

pub returns-in-Do : goal.returns-in-Do
returns-in-Do c =
    gives_same item_read c.setting.result _ _
    (do_item_read c.args.self.now (begun_seen c.args.begun) c.args.parts.now c.args.rule c.requires c.in-Do.is) c.setting.ensures

pub returns-in-Choice : goal.returns-in-Choice
returns-in-Choice c =
    gives_same item_read c.choice.result _ _
    (choice_read c.args.self.now (begun_seen c.args.begun) c.args.parts.now c.args.rule c.requires c.in-Choice.is) c.choice.ensures
