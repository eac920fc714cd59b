-- The two ends of a list.
use Rattle.std.specs.Prelude.{List, [], ◌∷◌, Option, Some, None}

-- the last, and the first
abbrev pub last_of : {C : Type 0} → List C → Option C
last_of [] = None
last_of (c ∷ []) = Some c
last_of (c ∷ d ∷ cards) = last_of (d ∷ cards)

abbrev pub first_of : {C : Type 0} → List C → Option C
first_of [] = None
first_of (c ∷ cards) = Some c
