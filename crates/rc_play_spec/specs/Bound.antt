-- Card values and bindings that a shape has: what variables stand for in a match.
use Rattle.std.specs.Prelude.{◌≡◌, ℕ, ◌<◌, true, false, length, slice_get, Some, All}
use Rattle.rc_sheet_spec.specs.WellFormed.{is_mem}
use Rattle.rc_play_spec.specs.Shape.{Place, Shape}
use Rattle.rc_play_spec.specs.Value.{Bind, player_bound, card_bound, group_bound}
use Rattle.rc_play_spec.specs.Scene.{CardValue, held, noted}

-- a location of cards, and one of references
abbrev pub HoldsCards : Shape → ℕ → Type 0
HoldsCards shape loc = (place : Place) × (slice_get shape.places loc ≡ Some place) × (is_mem place.kind ≡ false)

abbrev pub HoldsReferences : Shape → ℕ → Type 0
HoldsReferences shape loc = (place : Place) × (slice_get shape.places loc ≡ Some place) × (is_mem place.kind ≡ true)

-- a card of the shape, or a reference to one that was read in a location of references
abbrev pub IsCardOf : Shape → CardValue → Type 0
IsCardOf shape (held id) = id < length shape.faces
IsCardOf shape (noted loc id) = HoldsReferences shape loc × (id < length shape.faces)

-- a player, a card or cards of the shape
abbrev pub IsBindOf : Shape → Bind CardValue → Type 0
IsBindOf shape (player_bound n) = n < shape.players
IsBindOf shape (card_bound card) = IsCardOf shape card
IsBindOf shape (group_bound cards) = All (IsCardOf shape) cards

-- each card has a first location, which holds cards
pub record HasHomes (shape : Shape) : Type 0 where
  pub each : length shape.home ≡ length shape.faces
  pub hold : All (HoldsCards shape) shape.home
