-- A form as a tree: an atom or a list, with the offset of its first byte and the offset behind its last.
use Rattle.std.specs.Prelude.{◌≡◌, ℕ, zero, suc, Option, Some, None, ◌+◌, ◌-◌, ◌<◌, ◌≤◌, List, [], ◌∷◌, ◌++◌, length}
use Rattle.rc_base.specs.Token.{Token, opening, closing, atom}

mutual
  pub data Tree : Type 0 where
    word : (bytes : List ℕ) (from to : ℕ) → Tree
    list : (parts : Trees) (from to : ℕ) → Tree

  -- a list of trees
  pub data Trees : Type 0 where
    nil : Trees
    cons : Tree → Trees → Trees

-- these trees as the parts of a list
abbrev pub packed : List Tree → Trees
packed [] = nil
packed (tree ∷ trees) = cons tree (packed trees)

-- how many trees there are
abbrev pub count : Trees → ℕ
count nil = 0
count (cons tree trees) = suc (count trees)

-- where a tree begins
abbrev pub start_of : Tree → ℕ
start_of (word bytes from to) = from
start_of (list parts from to) = from

-- the tokens that spell a tree
abbrev mutual
  pub spelling : Tree → List Token
  spelling (word bytes from to) = atom from bytes ∷ []
  spelling (list parts from to) = opening from ∷ spellings parts ++ closing (to - 1) ∷ []

  pub spellings : Trees → List Token
  spellings nil = []
  spellings (cons tree trees) = spelling tree ++ spellings trees

-- what may stand where `room` more lists may be open: atoms of at most 64 bytes, and the spans of the bytes
abbrev mutual
  pub IsSound : ℕ → Tree → Type 0
  IsSound room (word bytes from to) = (length bytes ≤ 64) × (to ≡ from + length bytes)
  IsSound room (list parts from to) = (0 < room) × (from < to) × AreSound (room - 1) parts

  pub AreSound : ℕ → Trees → Type 0
  AreSound room nil = Unit {0}
  AreSound room (cons tree trees) = IsSound room tree × AreSound room trees

-- no more lists than these are open at one place of a tree, or of trees
abbrev mutual
  pub IsOpenAtMost : ℕ → Tree → Type 0
  IsOpenAtMost room (word bytes from to) = Unit {0}
  IsOpenAtMost room (list parts from to) = (0 < room) × AreOpenAtMost (room - 1) parts

  pub AreOpenAtMost : ℕ → Trees → Type 0
  AreOpenAtMost room nil = Unit {0}
  AreOpenAtMost room (cons tree trees) = IsOpenAtMost room tree × AreOpenAtMost room trees

-- the bytes of a tree with one space between parts and none elsewhere
abbrev mutual
  pub printed : Tree → List ℕ
  printed (word bytes from to) = bytes
  printed (list parts from to) = 40 ∷ printed_parts parts ++ 41 ∷ []

  pub printed_parts : Trees → List ℕ
  printed_parts nil = []
  printed_parts (cons tree trees) = printed tree ++ printed_behind trees

  -- the parts that follow another
  pub printed_behind : Trees → List ℕ
  printed_behind nil = []
  printed_behind (cons tree trees) = 32 ∷ printed tree ++ printed_behind trees
