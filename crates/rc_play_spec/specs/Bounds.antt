-- What an item binds, as a transcript tells it: a mark for each of its variables, from outside to inside.
use Rattle.std.specs.Prelude.{ℕ, zero, suc, ◌≤◌, ◌==◌, Bool, true, false, ◌&&◌, List, [], ◌∷◌, ◌++◌, length, codes, decimal, Option, Some, None}
use Rattle.std.specs.List.{AllByRecursion}
use Rattle.rc_play_spec.specs.ItemBounds.{Bound, player, card, group}
use Rattle.rc_play_spec.specs.Fields.{◌>>=◌, number, ◌or_else◌}

abbrev pub mark_text : Bound → List ℕ
mark_text (player n) = codes " p" ++ decimal n
mark_text (card face) = codes " c" ++ decimal face
mark_text (group face) = codes " g" ++ decimal face

-- its number is in its range
abbrev pub IsMark : Bound → Type 0
IsMark (player n) = n ≤ 7
IsMark (card face) = face ≤ 511
IsMark (group face) = face ≤ 511

-- marks of as many variables as an item can bind
abbrev pub AreMarks : List Bound → Type 0
AreMarks marks = (length marks ≤ 4) × AllByRecursion IsMark marks

-- ---- read

abbrev pub player_in : List ℕ → Option (Bound × List ℕ)
player_in bytes = do
  n ← number (codes " p") 7 bytes
  Some (player n.0, n.1)

abbrev pub card_in : List ℕ → Option (Bound × List ℕ)
card_in bytes = do
  n ← number (codes " c") 511 bytes
  Some (card n.0, n.1)

abbrev pub group_in : List ℕ → Option (Bound × List ℕ)
group_in bytes = do
  n ← number (codes " g") 511 bytes
  Some (group n.0, n.1)

-- the mark that comes next, and the bytes behind it
abbrev pub mark_in : List ℕ → Option (Bound × List ℕ)
mark_in bytes = player_in bytes or_else card_in bytes or_else group_in bytes

-- the marks up to the end of the line, at most so many
abbrev pub marks_in : (most : ℕ) → List ℕ → Option (List Bound)
marks_in zero [] = Some []
marks_in zero (b ∷ bytes) = None
marks_in (suc most) [] = Some []
marks_in (suc most) (b ∷ bytes) =
    mark_in (b ∷ bytes) >>= λ mark. marks_in most mark.1 >>= λ marks. Some (mark.0 ∷ marks)

-- ---- compared

abbrev pub is_bound : Bound → Bound → Bool
is_bound (player n) (player m) = n == m
is_bound (player n) (card f) = false
is_bound (player n) (group f) = false
is_bound (card f) (player n) = false
is_bound (card f) (card g) = f == g
is_bound (card f) (group g) = false
is_bound (group f) (player n) = false
is_bound (group f) (card g) = false
is_bound (group f) (group g) = f == g

abbrev pub are_bounds : List Bound → List Bound → Bool
are_bounds [] [] = true
are_bounds [] (b ∷ bs) = false
are_bounds (a ∷ more) [] = false
are_bounds (a ∷ more) (b ∷ bs) = is_bound a b && are_bounds more bs
