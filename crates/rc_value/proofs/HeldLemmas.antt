-- References stay where they are, and cards go.
use Rattle.std.proofs.Common.{◌≡◌, ℕ, ◌+◌, ◌<◌, List, [], ◌∷◌, ◌++◌, length, get_or, take, refl, ap, ◌∙◌}
use Rattle.std.specs.Prelude.{fold, All}
use Rattle.std.proofs.lemmas.List.{take_more, map-append}
use Rattle.std.proofs.lemmas.List.Elements.{recursion_from_All, All-from_recursion}
use Rattle.rc_sheet_spec.specs.Sheet.{End}
use Rattle.rc_play_spec.specs.Shape.{Shape}
use Rattle.rc_play_spec.specs.Table.{Table}
use Rattle.rc_play_spec.specs.Bound.{IsCardOf}
use Rattle.rc_play_spec.specs.Effects.{put, move_card}
use Rattle.rc_play_spec.specs.Scene.{CardValue, held, noted}
use Rattle.rc_value.specs.Cards.{value_seen, values_seen}
use Rattle.rc_value.specs.declared.cards.Card.{Card}
use Rattle.rc_value.specs.declared.cards.Card.TheVariants.{Held, Noted}
use Rattle.rc_value.specs.Held.{held_among}

pub held_go : (shape : Shape) (end : End) (loc : ℕ) (cards : List CardValue) (table : Table) →
    fold (move_card shape end loc) table cards ≡ fold (λ table id. put shape end id loc table) table (held_among cards)
held_go shape end loc [] table = refl
held_go shape end loc (held id ∷ cards) table = held_go shape end loc cards (put shape end id loc table)
held_go shape end loc (noted from id ∷ cards) table = held_go shape end loc cards table

one_held : (shape : Shape) (card : Card) → IsCardOf shape (value_seen card) → (cards : List Card) →
    All (λ id. id < length shape.faces) (held_among (values_seen cards)) → All (λ id. id < length shape.faces) (held_among (values_seen (card ∷ cards)))
one_held shape (Held id) is cards all =
    All-from_recursion (λ id. id < length shape.faces) (id ∷ held_among (values_seen cards))
    (is, recursion_from_All (λ id. id < length shape.faces) (held_among (values_seen cards)) all)
one_held shape (Noted loc id) is cards all = all

pub held_cards : (shape : Shape) (cards : List Card) → All (λ card. IsCardOf shape (value_seen card)) cards →
    All (λ id. id < length shape.faces) (held_among (values_seen cards))
held_cards shape [] all = All-from_recursion (λ id. id < length shape.faces) [] tt
held_cards shape (card ∷ cards) all =
    let each = recursion_from_All (λ card. IsCardOf shape (value_seen card)) (card ∷ cards) all in
    one_held shape card each.0 cards (held_cards shape cards (All-from_recursion (λ card. IsCardOf shape (value_seen card)) cards each.1))

-- one more
held_more : (cards : List CardValue) (card : CardValue) → held_among (cards ++ card ∷ []) ≡ held_among cards ++ held_among (card ∷ [])
held_more [] card = refl
held_more (held id ∷ cards) card = ap (λ ids. id ∷ ids) (held_more cards card)
held_more (noted loc id ∷ cards) card = held_more cards card

pub one_more : (cards : List Card) (at : ℕ) (d card : Card) → at < length cards → get_or cards at d ≡ card →
    held_among (values_seen (take (at + 1) cards)) ≡ held_among (values_seen (take at cards)) ++ held_among (value_seen card ∷ [])
one_more cards at d card less is =
    ap (λ cards. held_among (values_seen cards)) (take_more cards at d less)
    ∙ ap held_among (map-append value_seen (take at cards) (get_or cards at d ∷ []))
    ∙ held_more (values_seen (take at cards)) (value_seen (get_or cards at d))
    ∙ ap (λ card. held_among (values_seen (take at cards)) ++ held_among (value_seen card ∷ [])) is
