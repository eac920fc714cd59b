-- How the form that is printed for a sheet comes from another one that stands for it: the lines of the setup are put in order, and
-- numbers are spelled in decimal digits. Offsets don't matter.
use Rattle.std.specs.Prelude.{◌≡◌, ◌⊎◌, ℕ, List, ◌++◌, ℤ, Some}
use Rattle.std.specs.Fmt.{signed_decimal}
use Rattle.rc_base.specs.Literal.{integer}
use Rattle.rc_base.specs.Tree.{Tree, word, list, Trees, nil, cons}
use Rattle.rc_sheet_spec.specs.Printing.{packed}
use Rattle.rc_sheet_spec.specs.StandsSetup.{lines_with}

-- the same word, or the digits of the number that a literal spells
abbrev pub IsWordRespelled : List ℕ → List ℕ → Type 0
IsWordRespelled bytes others =
    (others ≡ bytes) ⊎ ((value : ℤ) × (integer bytes ≡ Some value) × (others ≡ signed_decimal value))

abbrev mutual
  pub IsRespelled : Tree → Tree → Type 0
  IsRespelled (word bytes from to) (word others start end) = IsWordRespelled bytes others
  IsRespelled (word bytes from to) (list parts start end) = ⊥
  IsRespelled (list parts from to) (word bytes start end) = ⊥
  IsRespelled (list parts from to) (list others start end) = AreRespelled parts others

  pub AreRespelled : Trees → Trees → Type 0
  AreRespelled nil nil = Unit {0}
  AreRespelled nil (cons other others) = ⊥
  AreRespelled (cons tree trees) nil = ⊥
  AreRespelled (cons tree trees) (cons other others) = IsRespelled tree other × AreRespelled trees others

-- the lines of a setup in the order players, teams, decks, points, those of one kind as they stand
abbrev pub lines_in_order : Trees → List Tree
lines_in_order lines =
    lines_with "create" "players" lines
    ++ (lines_with "create" "teams" lines ++ (lines_with "create" "deck" lines ++ lines_with "put" "points" lines))

abbrev pub setup_in_order : Tree → Tree
setup_in_order (list (cons setup lines) from to) = list (cons setup (packed (lines_in_order lines))) from to
setup_in_order form = form

-- a game with the lines of its setup in this order
abbrev pub in_order : Tree → Tree
in_order (list (cons game (cons setup parts)) from to) = list (cons game (cons (setup_in_order setup) parts)) from to
in_order form = form
