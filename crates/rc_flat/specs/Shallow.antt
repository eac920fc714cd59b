-- How many stages stand inside one another in what is left to run.
use Rattle.std.specs.Prelude.{◌+◌, ◌≤◌, List, [], ◌∷◌, length}
use Rattle.rc_play_spec.specs.Step.{Part, todo, round, turn}
use Rattle.rc_play_spec.specs.Path.{item_depth, items_depth}
use Rattle.rc_play_spec.specs.Fits.{around}

-- with those that are open around it each part has at most 63
abbrev pub AreShallow : List Part → Type 0
AreShallow [] = Unit {0}
AreShallow (todo i ∷ parts) = (item_depth i + length (around parts) ≤ 63) × AreShallow parts
AreShallow (round s ∷ parts) = (items_depth s.body + (length (around parts) + 1) ≤ 63) × AreShallow parts
AreShallow (turn s ∷ parts) = AreShallow parts
