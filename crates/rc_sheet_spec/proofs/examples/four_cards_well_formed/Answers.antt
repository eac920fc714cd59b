use Rattle.std.proofs.Common.{rules, length, [], ◌≤◌, get_or, All, arith}
use Rattle.std.proofs.lemmas.List.Elements.{All-from_recursion}
use Rattle.rc_sheet_spec.specs.Stands.{Stands}
use Rattle.rc_sheet_spec.specs.WellFormed.{HasWords, IsWithinLimits, IsDeck, IsEntry, AreItems, outside, IsInt, scored}
use Rattle.rc_sheet_spec.specs.Numbering.{IsNumbered}
use Rattle.rc_base.specs.Tree.{IsOpenAtMost}
use Rattle.rc_base.specs.Limits.{most_open}
use Rattle.rc_sheet_spec.specs.Examples.{form_of, four_cards, four_cards_text}
use Rattle.rc_sheet_spec.proofs.examples.four_cards_well_formed.Goals as goal

words : HasWords four_cards
words = search rules

numbered : IsNumbered four_cards
numbered = search rules

limits : IsWithinLimits four_cards
limits = search rules

stands : Stands four_cards (form_of four_cards_text)
stands = search arith

shallow : IsOpenAtMost most_open (form_of four_cards_text)
shallow = search arith

items : AreItems four_cards outside four_cards.items
items = search rules

score : IsInt four_cards scored four_cards.score
score = search rules

decks : All (IsDeck four_cards) four_cards.decks
decks = All-from_recursion (IsDeck four_cards) four_cards.decks (search rules)

entries : All (All IsEntry) four_cards.points
entries = All-from_recursion (All IsEntry) four_cards.points (All-from_recursion IsEntry (get_or four_cards.points 0 []) (search rules), tt)

some_entry : All (λ entries. 1 ≤ length entries) four_cards.points
some_entry = All-from_recursion (λ entries. 1 ≤ length entries) four_cards.points (search rules)

pub returns : goal.returns
returns c = record {
  words = words;
  numbered = numbered;
  limits = limits;
  shallow = (form_of four_cards_text, stands, shallow);
  teams = search rules;
  some_deck = search rules;
  decks = decks;
  some_entry = some_entry;
  entries = entries;
  some_item = search rules;
  items = items;
  score = score;
}
