-- Whether one of a list passes, or all of it do.
use Rattle.std.specs.Prelude.{Bool, List, if◌then◌else◌}
use Rattle.std.specs.List.{list_any, list_all}

abbrev pub over : {X : Type 0} → Bool → (X → Bool) → List X → Bool
over any P xs = if any then list_any P xs else list_all P xs
