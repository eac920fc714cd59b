-- What a group of a deck mentions, by the parts that are found.
use Rattle.std.proofs.Common.{◌≡◌, ℕ, List, [], ◌∷◌, ◌++◌, length, get_or, refl, sym, ap, ◌∙◌}
use Rattle.std.proofs.lemmas.List.{append-nil}
use Rattle.rc_base.specs.Tree.{Tree, word, list, Trees, nil, cons}
use Rattle.rc_form.specs.declared.form.Form.{Form}
use Rattle.rc_form.specs.declared.form.Parts.{Parts}
use Rattle.rc_form.specs.declared.form.Span.{Span}
use Rattle.rc_form.specs.declared.form.Form.TheVariants.{Atom, List as ListOf}
use Rattle.rc_form.specs.Form.{tree_of, trees_of, trees_in, packed}
use Rattle.rc_form.proofs.FormLemmas.{tree_of_atom, tree_of_list}
use Rattle.rc_resolve.proofs.SliceLemmas.{two}
use Rattle.rc_sheet_spec.specs.FormMentions.{word_of, branch_attr_words, branch_value_words}
use Rattle.rc_resolve.specs.Mentions.{Mentions}
use Rattle.rc_resolve.specs.Known.{with_all, none, in_groups, in_branches, in_deck_of}
use Rattle.rc_resolve.proofs.Steps.{with_all-joined}

-- a list of these parts, alone
abbrev alone : Trees → Span → Trees
alone parts span = cons (list parts span.from span.to) nil

long_group : (a b c : Tree) (cs : Trees) (span : Span) → in_groups (alone (cons a (cons b (cons c cs))) span) ≡ none
long_group a (word bytes from to) c cs span = refl
long_group a (list parts from to) c cs span = refl

other_group : (forms : List Form) (span : Span) → (length forms ≡ 2 → ⊥) → in_groups (alone (packed (trees_of forms)) span) ≡ none
other_group [] span other = refl
other_group (a ∷ []) span other = refl
other_group (a ∷ b ∷ []) span other = absurd (other refl)
other_group (a ∷ b ∷ c ∷ cs) span other = long_group (tree_of a) (tree_of b) (tree_of c) (packed (trees_of cs)) span

module _ (group : Form) (items : Parts) (span : Span) (is : group ≡ ListOf items span)
    (slice : List Form) (same : trees_of slice ≡ trees_in items) where
  group_tree : in_groups (cons (tree_of group) nil) ≡ in_groups (alone (packed (trees_of slice)) span)
  group_tree =
      ap (λ tree. in_groups (cons tree nil)) (tree_of_list group items span is)
      ∙ ap (λ trees. in_groups (alone (packed trees) span)) (sym same)

  -- it has two parts
  pub group_other : (length slice ≡ 2 → ⊥) → in_groups (cons (tree_of group) nil) ≡ none
  group_other other = group_tree ∙ other_group slice span other

  module _ (attr second : Form) (long : length slice ≡ 2)
      (is-attr : attr ≡ get_or slice 0 attr) (is-second : second ≡ get_or slice 1 second) where
    parts : in_groups (cons (tree_of group) nil) ≡ in_groups (alone (cons (tree_of attr) (cons (tree_of second) nil)) span)
    parts =
        group_tree
        ∙ ap (λ forms. in_groups (alone (packed (trees_of forms)) span)) (two slice attr second long is-attr is-second)

    -- the second is a list
    pub group_atom : (bytes : List ℕ) (at : Span) → second ≡ Atom bytes at → in_groups (cons (tree_of group) nil) ≡ none
    group_atom bytes at atom =
        parts ∙ ap (λ tree. in_groups (alone (cons (tree_of attr) (cons tree nil)) span)) (tree_of_atom second bytes at atom)

    -- which has the branches
    pub group_two : (branches : Parts) (at : Span) → second ≡ ListOf branches at → (known : Mentions) →
        with_all (with_all known (in_deck_of (word_of (tree_of attr)) [])) (in_branches (packed (trees_in branches)))
        ≡ with_all known (in_groups (cons (tree_of group) nil))
    group_two branches at listed known =
        let inner = packed (trees_in branches) in
        with_all-joined known (in_deck_of (word_of (tree_of attr)) []) (in_branches inner)
        ∙ ap (λ attrs. with_all known (in_deck_of attrs (branch_value_words inner)))
        (sym (append-nil (word_of (tree_of attr) ++ branch_attr_words inner)))
        ∙ ap (λ values. with_all known (in_deck_of ((word_of (tree_of attr) ++ branch_attr_words inner) ++ []) values))
        (sym (append-nil (branch_value_words inner)))
        ∙ sym (ap (with_all known) (
        parts ∙ ap (λ tree. in_groups (alone (cons (tree_of attr) (cons tree nil)) span))
        (tree_of_list second branches at listed)))
