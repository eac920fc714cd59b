use Rattle.std.proofs.Common.{ℕ}
use Rattle.rc_sheet.proofs.MadeLemmas.{both_gives}
use Rattle.rc_sheet.proofs.reader.Reader.face.Goals as goal

pub returns : goal.returns
returns c =
    both_gives (λ (n : ℕ). n) (λ (n : ℕ). n) c.attr-attr.result c.value-value.result c.both_read.result _ _ c.both_read.ensures
    c.attr-attr.ensures c.value-value.ensures
