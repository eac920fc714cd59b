-- A sheet has no more faces than cards are within the limits.
use Rattle.std.proofs.Common.{◌≤◌, length, arith}
use Rattle.std.proofs.lemmas.List.Concat.{length-flat_map}
use Rattle.rc_base.specs.Deck.{face_count}
use Rattle.rc_deck.specs.Product.{faces_of_groups}
use Rattle.rc_deck.proofs.PathLaws.{AreFaces-faces_of_groups, length-AreFaces}
use Rattle.rc_sheet_spec.specs.Sheet.{DeckLine, Sheet}
use Rattle.rc_sheet_spec.specs.WellFormed.{IsWellFormed}
use Rattle.rc_play_spec.specs.Shape.{shape_of}
use Rattle.rc_rules.proofs.ShapeLemmas.{sums_same}

pub cards_few : (sheet : Sheet) → IsWellFormed sheet → length (shape_of sheet).faces ≤ 512
cards_few sheet formed =
    let count = length-flat_map (λ (line : DeckLine). faces_of_groups line.groups) sheet.decks in
    let same = sums_same (λ (line : DeckLine). length (faces_of_groups line.groups)) (λ line. face_count line.groups)
    (λ line. length-AreFaces line.groups (faces_of_groups line.groups) (AreFaces-faces_of_groups line.groups)) sheet.decks in
    let most = formed.limits.cards in
    omega (arith, count, same, most)
