-- What is said of each form that is read.
use Rattle.std.proofs.Common.{ℕ, ◌-◌, List, [], ◌∷◌}
use Rattle.std.specs.List.{All}
use Rattle.std.proofs.lemmas.List.Elements.{All-nil, All-cons, All-weaker}
use Rattle.rc_base.specs.Tree.{Tree, word, list, Trees, nil, cons, IsSound, AreSound, IsOpenAtMost, AreOpenAtMost}
use Rattle.rc_base.specs.Spelled.{Spelled, IsTopList, AreTopLists}
use Rattle.rc_form.specs.Form.{tree_of, trees_of, IsPrintable}
use Rattle.rc_form.specs.declared.form.Form.{Form}

mutual
  -- what is sound has room
  IsOpenAtMost-sound : (room : ℕ) (tree : Tree) → IsSound room tree → IsOpenAtMost room tree
  IsOpenAtMost-sound room (word bytes from to) sound = tt
  IsOpenAtMost-sound room (list parts from to) sound = (sound.0, AreOpenAtMost-sound (room - 1) parts sound.2)

  -- the same of several trees
  AreOpenAtMost-sound : (room : ℕ) (trees : Trees) → AreSound room trees → AreOpenAtMost room trees
  AreOpenAtMost-sound room nil sound = tt
  AreOpenAtMost-sound room (cons tree trees) sound = (IsOpenAtMost-sound room tree sound.0, AreOpenAtMost-sound room trees sound.1)

-- what may stand at top level may be printed
IsPrintable-top : (tree : Tree) → IsTopList tree → IsPrintable tree
IsPrintable-top (word bytes from to) is_top = is_top
IsPrintable-top (list parts from to) is_top = IsOpenAtMost-sound 64 (list parts from to) is_top

-- each form is a list
pub All-top : (forms : List Form) → AreTopLists (trees_of forms) → All (λ form. IsTopList (tree_of form)) forms
All-top [] are_top = All-nil (λ form. IsTopList (tree_of form))
All-top (form ∷ forms) are_top = All-cons (λ form. IsTopList (tree_of form)) form forms are_top.0 (All-top forms are_top.1)

-- each form may be printed
pub All-printable : (forms : List Form) → AreTopLists (trees_of forms) → All (λ form. IsPrintable (tree_of form)) forms
All-printable forms are_top =
    All-weaker (λ form. IsTopList (tree_of form)) (λ form. IsPrintable (tree_of form)) (λ form is_top. IsPrintable-top (tree_of form) is_top) forms (All-top forms are_top)

-- at most 64 lists are open in the first tree that a text spells
fits-top : (tree : Tree) → IsTopList tree → IsOpenAtMost 64 tree
fits-top (word bytes from to) is_top = absurd is_top
fits-top (list parts from to) is_top = IsOpenAtMost-sound 64 (list parts from to) is_top

pub fits-first : (text : List ℕ) (want : ℕ) (tree : Tree) (trees : List Tree) (rest : ℕ) → Spelled text want (tree ∷ trees) rest → IsOpenAtMost 64 tree
fits-first text want tree trees rest spelled = fits-top tree spelled.sound.0
