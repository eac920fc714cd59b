-- Attributes and values have the numbers of their names.
use Rattle.std.proofs.Common.{◌≡◌, ℕ, List, refl}
use Rattle.rc_base.specs.Tree.{Tree, word, list}
use Rattle.rc_resolve.specs.NamedNumbers.{number_of}
use Rattle.rc_sheet.specs.ReadNames.{name_at}

-- a name's number is its place
pub number_of_name : (words : List (List ℕ)) (tree : Tree) → name_at words tree ≡ number_of words tree
unfolding name_at
number_of_name words (word bytes from to) = refl
number_of_name words (list parts from to) = refl
