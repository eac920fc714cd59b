-- The forms of point maps that are numbered on from a number.
use Rattle.std.proofs.Common.{◌≡◌, ℕ, ◌+◌, List, [], ◌∷◌, length, map, refl, ap}
use Rattle.std.specs.List.{zip, range_with_len}
use Rattle.rc_base.specs.Tree.{Tree}
use Rattle.rc_base.specs.Deck.{Entry}
use Rattle.rc_sheet_spec.specs.Naming.{Naming}
use Rattle.rc_sheet_spec.specs.Printing.{map_form}

abbrev pub maps_from : Naming → ℕ → List (List Entry) → List Tree
maps_from naming n [] = []
maps_from naming n (entries ∷ maps) = map_form naming (n, entries) ∷ maps_from naming (n + 1) maps

pub numbered_maps : (naming : Naming) (n : ℕ) (maps : List (List Entry)) →
    map (map_form naming) (zip (range_with_len n (length maps)) maps) ≡ maps_from naming n maps
numbered_maps naming n [] = refl
numbered_maps naming n (entries ∷ maps) = ap (λ rest. map_form naming (n, entries) ∷ rest) (numbered_maps naming (n + 1) maps)
