-- What a form of two parts is read as, and what a list of branches is.
use Rattle.std.proofs.Common.{◌≡◌, List, ◌∷◌, length, get_or, true, sym, ap, ◌∙◌, arith}
use Rattle.std.specs.Prelude.{codes}
use Rattle.std.proofs.lemmas.Bool.{cond-true}
use Rattle.std.proofs.lemmas.List.{get_or_default}
use Rattle.rc_resolve.specs.NamedNumbers.{DeckNames}
use Rattle.rc_form.specs.declared.form.Form.{Form}
use Rattle.rc_form.specs.declared.form.Parts.{Parts}
use Rattle.rc_form.specs.declared.form.Span.{Span}
use Rattle.rc_form.specs.declared.form.Form.TheVariants.{List as ListOf}
use Rattle.rc_form.specs.Form.{tree_of, trees_of, trees_in, packed}
use Rattle.rc_form.proofs.FormLemmas.{tree_of_list}
use Rattle.rc_form.proofs.SliceLemmas.{three}
use Rattle.rc_resolve.specs.NamedNumbers.{number_of}
use Rattle.rc_resolve.specs.Reading.{both, read_group, read_group_parts, read_branch_list, read_branches, read_branch, read_branch_parts, read_groups, read_deck, read_deck_parts, is_word, unless_nil, entry_with, read_entry, read_entry_parts, read_value_list, read_points, read_entries, read_all_entries}
use Rattle.rc_resolve.proofs.SliceLemmas.{two, unless_nil_some}

pub read_group_with : (names : DeckNames) (form : Form) (items : Parts) (span : Span) (parts : List Form)
    (head second : Form) →
    form ≡ ListOf items span → trees_of parts ≡ trees_in items → length parts ≡ 2 → head ≡ get_or parts 0 head →
    second ≡ get_or parts 1 second →
    read_group names (tree_of form) ≡ both (λ attr branches. (attr, branches)) (number_of names.attrs (tree_of head)) (read_branch_list names (tree_of second))
read_group_with names form items span parts head second is same long is-head is-second =
    ap (read_group names) (tree_of_list form items span is)
    ∙ ap (λ trees. read_group_parts names (packed trees)) (sym same)
    ∙ ap (λ forms. read_group_parts names (packed (trees_of forms))) (two parts head second long is-head is-second)

-- where only the first part is looked at
pub read_group_of : (names : DeckNames) (form : Form) (items : Parts) (span : Span) (parts : List Form) (head : Form) →
    form ≡ ListOf items span → trees_of parts ≡ trees_in items → length parts ≡ 2 → head ≡ get_or parts 0 head →
    (second : Form)
    × (read_group names (tree_of form) ≡ both (λ attr branches. (attr, branches)) (number_of names.attrs (tree_of head)) (read_branch_list names (tree_of second)))
read_group_of names form items span parts head is same long is-head =
    let second = get_or parts 1 head in
    let is-second : second ≡ get_or parts 1 second = get_or_default parts 1 head second (omega arith) in
    (second, read_group_with names form items span parts head second is same long is-head is-second)

pub read_branch_list_of : (names : DeckNames) (form : Form) (items : Parts) (span : Span) (parts : List Form) →
    form ≡ ListOf items span → trees_of parts ≡ trees_in items → (length parts ≡ 0 → ⊥) →
    read_branch_list names (tree_of form) ≡ read_branches names (packed (trees_of parts))
read_branch_list_of names form items span parts is same some =
    ap (read_branch_list names) (tree_of_list form items span is)
    ∙ ap (λ trees. unless_nil (packed trees) (read_branches names (packed trees))) (sym same)
    ∙ unless_nil_some parts (read_branches names (packed (trees_of parts))) some

pub read_branch_of : (names : DeckNames) (form : Form) (items : Parts) (span : Span) (parts : List Form) (head : Form)
    (below : List Form) →
    form ≡ ListOf items span → trees_of parts ≡ trees_in items → parts ≡ head ∷ below → (length below ≡ 0 → ⊥) →
    read_branch names (tree_of form) ≡ both (λ number inner. (number, inner)) (number_of names.values (tree_of head)) (read_groups names (packed (trees_of below)))
read_branch_of names form items span parts head below is same cut some =
    ap (read_branch names) (tree_of_list form items span is)
    ∙ ap (λ trees. read_branch_parts names (packed trees)) (sym same)
    ∙ ap (λ forms. read_branch_parts names (packed (trees_of forms))) cut
    ∙ ap (both (λ number inner. (number, inner)) (number_of names.values (tree_of head))) (unless_nil_some below (read_groups names (packed (trees_of below))) some)

pub read_deck_of : (names : DeckNames) (form : Form) (items : Parts) (span : Span) (parts : List Form) (head : Form)
    (below : List Form) →
    form ≡ ListOf items span → trees_of parts ≡ trees_in items → parts ≡ head ∷ below → is_word (codes "deck")
    (tree_of head) ≡ true → (length below ≡ 0 → ⊥) →
    read_deck names (tree_of form) ≡ read_groups names (packed (trees_of below))
read_deck_of names form items span parts head below is same cut word some =
    ap (read_deck names) (tree_of_list form items span is)
    ∙ ap (λ trees. read_deck_parts names (packed trees)) (sym same)
    ∙ ap (λ forms. read_deck_parts names (packed (trees_of forms))) cut
    ∙ cond-true _ _ _ word
    ∙ unless_nil_some below (read_groups names (packed (trees_of below))) some

pub read_entry_of : (names : DeckNames) (form : Form) (items : Parts) (span : Span) (parts : List Form)
    (head second third : Form) →
    form ≡ ListOf items span → trees_of parts ≡ trees_in items → length parts ≡ 3 → head ≡ get_or parts 0 head →
    second ≡ get_or parts 1 second → third ≡ get_or parts 2 third →
    read_entry names (tree_of form)
    ≡ both entry_with (number_of names.attrs (tree_of head)) (both (λ values points. (values, points)) (read_value_list names (tree_of second)) (read_points (tree_of third)))
read_entry_of names form items span parts head second third is same long is-head is-second is-third =
    ap (read_entry names) (tree_of_list form items span is)
    ∙ ap (λ trees. read_entry_parts names (packed trees)) (sym same)
    ∙ ap (λ forms. read_entry_parts names (packed (trees_of forms))) (three parts head second third long is-head
    is-second is-third)

pub read_entries_of : (names : DeckNames) (form : Form) (items : Parts) (span : Span) (parts : List Form) →
    form ≡ ListOf items span → trees_of parts ≡ trees_in items → (length parts ≡ 0 → ⊥) →
    read_entries names (tree_of form) ≡ read_all_entries names (packed (trees_of parts))
read_entries_of names form items span parts is same some =
    ap (read_entries names) (tree_of_list form items span is)
    ∙ ap (λ trees. unless_nil (packed trees) (read_all_entries names (packed trees))) (sym same)
    ∙ unless_nil_some parts (read_all_entries names (packed (trees_of parts))) some
