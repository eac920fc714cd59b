-- The cards among card values, without the references.
use Rattle.std.specs.Prelude.{ℕ, List, [], ◌∷◌}
use Rattle.rc_play_spec.specs.Scene.{CardValue, held, noted}

abbrev pub held_among : List CardValue → List ℕ
held_among [] = []
held_among (held id ∷ cards) = id ∷ held_among cards
held_among (noted loc id ∷ cards) = held_among cards
