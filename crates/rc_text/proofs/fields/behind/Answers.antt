use Rattle.rc_text.proofs.Words.{too_short}
use Rattle.rc_text.proofs.fields.behind.Goals as goal

pub returns-then-bytes-word : goal.returns-then-bytes-word
returns-then-bytes-word c = too_short c.args.word.now c.args.bytes.now c.if-bytes-word.true
