use Rattle.rc_sheet.proofs.Fine.Cards.{sheet_has_cards}
use Rattle.rc_sheet.proofs.laws.setup.there_are_few_cards.Goals as goal

pub returns-clause-some : goal.returns-clause-some
returns-clause-some c tree sheet shaped sound is = let cards = sheet_has_cards tree sheet shaped sound is in cards.0

pub returns-clause-few : goal.returns-clause-few
returns-clause-few c tree sheet shaped sound is = let cards = sheet_has_cards tree sheet shaped sound is in cards.1
