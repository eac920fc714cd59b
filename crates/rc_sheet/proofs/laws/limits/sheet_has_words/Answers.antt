use Rattle.rc_sheet.proofs.PlainWords.{has_words}
use Rattle.rc_sheet.proofs.laws.limits.sheet_has_words.Goals as goal

pub returns : goal.returns
returns c = λ tree sheet shaped sound atoms is. has_words tree sheet shaped sound atoms is
