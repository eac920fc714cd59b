-- The tree of an atom, and of a list; how many trees there are of forms.
use Rattle.std.proofs.Common.{◌≡◌, ℕ, List, sym, ap, ◌∙◌, suc, [], ◌∷◌, length, refl}
use Rattle.rc_base.specs.Tree.{Tree, count}
use Rattle.rc_form.specs.declared.form.Form.{Form}
use Rattle.rc_form.specs.declared.form.Parts.{Parts}
use Rattle.rc_form.specs.declared.form.Span.{Span}
use Rattle.rc_form.specs.declared.form.Form.TheVariants.{Atom, rolls-Atom, List as ListOf, rolls-List}
use Rattle.rc_form.specs.declared.form.Form.TheFolds.{fold-roll-Form}
use Rattle.rc_form.specs.Form.{tree_step, parts_step, tree_of, trees_in, atom_tree, list_tree, trees_of, packed}

pub tree_of_atom : (form : Form) (bytes : List ℕ) (span : Span) → form ≡ Atom bytes span →
    tree_of form ≡ atom_tree bytes span
tree_of_atom form bytes span is =
    ap tree_of is ∙ ap tree_of (sym (rolls-Atom bytes span)) ∙ fold-roll-Form Tree (List Tree) tree_step parts_step _

pub tree_of_list : (form : Form) (items : Parts) (span : Span) → form ≡ ListOf items span →
    tree_of form ≡ list_tree (trees_in items) span
tree_of_list form items span is =
    ap tree_of is ∙ ap tree_of (sym (rolls-List items span)) ∙ fold-roll-Form Tree (List Tree) tree_step parts_step _

-- as many trees as forms
pub count_packed : (forms : List Form) → count (packed (trees_of forms)) ≡ length forms
count_packed [] = refl
count_packed (form ∷ forms) = ap (λ n. suc n) (count_packed forms)
