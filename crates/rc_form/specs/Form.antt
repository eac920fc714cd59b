-- A form as a tree, in which no clause meets a slice.
use Rattle.std.specs.Prelude.{ℕ, List, map}
use Rattle.rc_base.specs.Tree.{Tree, word, list, IsOpenAtMost}
pub use Rattle.rc_base.specs.Tree.{packed}
use Rattle.rc_form.specs.declared.form.Form.{Form}
use Rattle.rc_form.specs.declared.form.Parts.{Parts}
use Rattle.rc_form.specs.declared.form.Span.{Span}
use Rattle.rc_form.specs.declared.form.Form.TheOpen.{Form-F, Parts-F, Atom, List as ListOf}
use Rattle.rc_form.specs.declared.form.Form.TheFolds.{fold-Form, fold-Parts}

-- the tree of a form whose parts are trees
abbrev pub tree_step : Form-F Tree (List Tree) → Tree
tree_step (Atom bytes span) = word bytes span.from span.to
tree_step (ListOf items span) = list (packed items) span.from span.to

-- the trees of parts that are trees
abbrev pub parts_step : Parts-F Tree (List Tree) → List Tree
parts_step parts = parts.forms.now

-- the tree of a form
abbrev pub tree_of : Form → Tree
tree_of = fold-Form Tree (List Tree) tree_step parts_step

-- the trees of a list's parts
abbrev pub trees_in : Parts → List Tree
trees_in = fold-Parts Tree (List Tree) tree_step parts_step

-- the trees of several forms
abbrev pub trees_of : List Form → List Tree
trees_of forms = map tree_of forms

-- the tree of an atom
abbrev pub atom_tree : List ℕ → Span → Tree
atom_tree bytes span = word bytes span.from span.to

-- the tree of a list
abbrev pub list_tree : List Tree → Span → Tree
list_tree parts span = list (packed parts) span.from span.to

-- the tree is a list, and at most 64 lists are open at one place, itself among them
abbrev pub IsPrintable : Tree → Type 0
IsPrintable (word bytes from to) = ⊥
IsPrintable (list parts from to) = IsOpenAtMost 64 (list parts from to)
