-- Where the parts of a tree begin.
use Rattle.std.specs.Prelude.{ℕ, ◌+◌, ◌≤◌, List, [], ◌∷◌, ◌++◌}
use Rattle.rc_base.specs.Tree.{Tree, word, list, Trees, nil, cons}

-- where the tree and its parts begin, a list before its own parts
abbrev mutual
  pub starts : Tree → List ℕ
  starts (word bytes from to) = from ∷ []
  starts (list parts from to) = from ∷ all_starts parts

  pub all_starts : Trees → List ℕ
  all_starts nil = []
  all_starts (cons tree trees) = starts tree ++ all_starts trees

-- the numbers rise from the first number on, and stay below the second
abbrev pub Rise : ℕ → ℕ → List ℕ → Type 0
Rise low high [] = low ≤ high
Rise low high (n ∷ ns) = (low ≤ n) × Rise (n + 1) high ns

-- The tree stands in a text of so many bytes: each part begins behind those before it.
abbrev pub IsPlaced : ℕ → Tree → Type 0
IsPlaced size tree = Rise 0 size (starts tree)
