-- Forms that differ in their offsets alone, and forms whose words are atoms.
use Rattle.std.specs.Prelude.{◌≡◌, ℕ, ◌≤◌, List, [], ◌∷◌, length, IsTrue}
use Rattle.std.specs.List.{list_all}
use Rattle.rc_base.specs.Token.{is_part}
use Rattle.rc_base.specs.Spelled.{Spelled}
use Rattle.rc_base.specs.Tree.{Tree, word, list, Trees, nil, cons}

-- the same words in the same lists, wherever they stand
abbrev mutual
  pub SameForm : Tree → Tree → Type 0
  SameForm (word bytes from to) (word others start end) = bytes ≡ others
  SameForm (word bytes from to) (list parts start end) = ⊥
  SameForm (list parts from to) (word bytes start end) = ⊥
  SameForm (list parts from to) (list others start end) = SameForms parts others

  pub SameForms : Trees → Trees → Type 0
  SameForms nil nil = Unit {0}
  SameForms nil (cons other others) = ⊥
  SameForms (cons tree trees) nil = ⊥
  SameForms (cons tree trees) (cons other others) = SameForm tree other × SameForms trees others

-- these bytes spell the form and nothing else, at offsets of their own
pub record SpellsAgain (tree : Tree) (bytes : List ℕ) : Type 0 where
  pub again : Tree
  pub same : SameForm tree again
  pub spelled : Spelled bytes 1 (again ∷ []) (length bytes)

-- 1 to 64 bytes that may stand in an atom
pub record IsAtom (bytes : List ℕ) : Type 0 where
  pub some : 1 ≤ length bytes
  pub short : length bytes ≤ 64
  pub parts : IsTrue (list_all is_part bytes)

-- each word of the tree is an atom
abbrev mutual
  pub IsOfAtoms : Tree → Type 0
  IsOfAtoms (word bytes from to) = IsAtom bytes
  IsOfAtoms (list parts from to) = AreOfAtoms parts

  pub AreOfAtoms : Trees → Type 0
  AreOfAtoms nil = Unit {0}
  AreOfAtoms (cons tree trees) = IsOfAtoms tree × AreOfAtoms trees
