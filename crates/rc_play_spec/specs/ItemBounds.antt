-- What an item binds, as people are told it: a card by the number of its face, and not by its id.
use Rattle.std.specs.Prelude.{ℕ, List, [], ◌∷◌, map, slice_index_or}
use Rattle.rc_play_spec.specs.Shape.{Shape, face_number}
use Rattle.rc_play_spec.specs.Value.{Bind, player_bound, card_bound, group_bound}
use Rattle.rc_play_spec.specs.Scene.{CardValue, id_of}
use Rattle.rc_play_spec.specs.Menu.{alts_at, alt_in, bindings_of, menu_from}
use Rattle.rc_play_spec.specs.About.{About, scene_at}
use Rattle.rc_play_spec.specs.Step.{Config}

-- a player; the face of a card, by its number; the face of the first card of a group
pub data Bound : Type 0 where
  player : (n : ℕ) → Bound
  card : (face : ℕ) → Bound
  group : (face : ℕ) → Bound

-- the face of the first card; a group has one
abbrev pub first_face : Shape → List CardValue → ℕ
first_face shape [] = 0
first_face shape (c ∷ cards) = face_number shape (id_of c)

-- the number of a face is the smallest id that has it
abbrev pub bound_of : Shape → Bind CardValue → Bound
bound_of shape (player_bound n) = player n
bound_of shape (card_bound c) = card (face_number shape (id_of c))
bound_of shape (group_bound cards) = group (first_face shape cards)

-- what the x-th item of the menu at a site binds, from outside to inside
abbrev pub bindings_at : About → ℕ → ℕ → Config → List (Bind CardValue)
bindings_at about site x c =
    let scene = scene_at about c.table c.control.frames in
    let alts = alts_at about.sheet site in
    let chosen = slice_index_or (menu_from scene alts) x (record { alt = 0; spots = [] }) in
    bindings_of scene [] (alt_in alts chosen.alt) chosen.spots

abbrev pub bounds_at : About → ℕ → ℕ → Config → List Bound
bounds_at about site x c = map (bound_of about.shape) (bindings_at about site x c)
