use Rattle.std.proofs.Common.{◌≡◌, List, [], ◌∷◌, length, refl, sym, ap₂, ◌∙◌, ◌+◌}
use Rattle.std.specs.Prelude.{sum_by}
use Rattle.std.specs.List.{AllZip}
use Rattle.std.proofs.lemmas.List.Sums.{sum_by-cons}
use Rattle.rc_base.specs.Deck.{Face, AreFaces, face_count}
use Rattle.rc_deck.proofs.PathLaws.{length-AreFaces}
use Rattle.rc_sheet_spec.specs.Sheet.{DeckLine}
use Rattle.rc_ast.proofs.laws.cards_are_faces.Goals as goal

pub returns-clause-deck : goal.returns-clause-deck
returns-clause-deck c = λ groups faces are. sym (length-AreFaces groups faces are)

all_counted : (decks : List DeckLine) (faces : List (List Face)) → AllZip (λ line. AreFaces line.groups) decks faces
    → sum_by (λ line. face_count line.groups) decks ≡ sum_by length faces
all_counted [] [] are = refl
all_counted [] (list ∷ faces) are = absurd are
all_counted (line ∷ decks) [] are = absurd are
all_counted (line ∷ decks) (list ∷ faces) are =
    sum_by-cons (λ (line : DeckLine). face_count line.groups) line decks
    ∙ ap₂ ◌+◌ (sym (length-AreFaces line.groups list are.0)) (all_counted decks faces are.1)
    ∙ sym (sum_by-cons length list faces)

pub returns-clause-decks : goal.returns-clause-decks
returns-clause-decks c = all_counted
