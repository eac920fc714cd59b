use Rattle.rc_sheet.proofs.Fine.Decks.{decks_are_decks}
use Rattle.rc_sheet.proofs.laws.setup.decks_are_decks.Goals as goal

pub returns : goal.returns
returns c = λ tree sheet shaped sound is. decks_are_decks tree sheet shaped sound is
