use Rattle.rc_ast.specs.Names.{num_seen}
use Rattle.rc_ast.specs.Expressions.{int_seen}
use Rattle.rc_sheet.proofs.MadeLemmas.{both_gives}
use Rattle.rc_sheet.proofs.reader.Reader.counter_and_value.Goals as goal

pub returns : goal.returns
returns c =
    both_gives num_seen int_seen c.counter-num.result c.integer-value.result c.both_read.result _ _ c.both_read.ensures c.counter-num.ensures c.integer-value.ensures
