use Rattle.std.proofs.Common.{◌≡◌, ◌∷◌, ◌++◌, [], List, ℕ, sym, ap, subst, ◌∙◌, append-nil, arith, OnOk}
use Rattle.rc_base.specs.Tree.{Tree}
use Rattle.rc_form.specs.Form.{trees_of, packed}
use Rattle.rc_form.specs.declared.form.Form.{Form}
use Rattle.rc_check.specs.SecondParts.{attributes_of, attributes_below}
use Rattle.rc_check.proofs.Words.{attach}
use Rattle.rc_check.proofs.GroupLemmas.{list_seen, pair_seen, none_of_short, none_of_long, none_of_lists, none_of_words, some_attributes}
use Rattle.rc_check.proofs.names.WordList.+attributes.Goals as goal

-- nothing more behind these words
nothing_more : (words : List (List ℕ)) (tree seen : Tree) → tree ≡ seen → attributes_of seen ≡ [] → words ≡ words
    ++ attributes_of tree
nothing_more words tree seen is none = sym (ap (λ more. words ++ more) (ap attributes_of is ∙ none) ∙ append-nil words)

pub push_attributes-returns-in_default-as_slice-clause-after : goal.push_attributes-returns-in_default-as_slice-clause-after
push_attributes-returns-in_default-as_slice-clause-after t c =
    nothing_more _ _ _ (list_seen _ _ _ _ c.in-List.is c.as_slice.ensures.trees)
    (none_of_short _ _ _ c.in_default-as_slice.len_below)

pub push_attributes-returns-in_default-as_slice-2-clause-after : goal.push_attributes-returns-in_default-as_slice-2-clause-after
push_attributes-returns-in_default-as_slice-2-clause-after t c =
    nothing_more _ _ _ (list_seen _ _ _ _ c.in-List.is c.as_slice.ensures.trees)
    (none_of_long _ _ _ (omega (arith, c.in_default-as_slice.len_at_least)))

pub push_attributes-returns-in_default-attribute-clause-after : goal.push_attributes-returns-in_default-attribute-clause-after
push_attributes-returns-in_default-attribute-clause-after t c =
    nothing_more _ _ _ (pair_seen _ _ _ _ _ _ c.in-List.is c.as_slice.ensures.trees c.in-len2.len_at_least c.in-len2.len_below
    c.attribute-item.is c.branches-item.is)
    (none_of_lists _ _ _ _ _ _ c.in_default-attribute.is)

pub push_attributes-returns-in_default-branches-clause-after : goal.push_attributes-returns-in_default-branches-clause-after
push_attributes-returns-in_default-branches-clause-after t c =
    nothing_more _ _ _ (pair_seen _ _ _ _ _ _ c.in-List.is c.as_slice.ensures.trees c.in-len2.len_at_least c.in-len2.len_below
    c.attribute-item.is c.branches-item.is)
    (none_of_words _ _ _ _ _ _ c.in_default-branches.is)

-- an attribute and those in its branches, behind these words
grown : (before pushed : List (List ℕ)) (bytes attr : List ℕ) (tree seen : Tree) (these : List Form) (branches : List Tree) → pushed ≡ before
    ++ bytes ∷ []
    → bytes ≡ attr → tree ≡ seen → attributes_of seen ≡ attr ∷ attributes_below (packed branches) → trees_of these ≡ branches
    → pushed ++ attributes_below (packed (trees_of these)) ≡ before ++ attributes_of tree
grown before pushed bytes attr tree seen these branches is same is_seen group alike =
    let below : List Tree → List (List ℕ) = λ trees. attributes_below (packed trees) in
    ap (λ names. names ++ below (trees_of these)) is
    ∙ attach before (bytes ∷ []) (below (trees_of these))
    ∙ ap (λ more. before ++ more)
    (ap (λ first. first ∷ below (trees_of these)) same ∙ ap (λ trees. attr ∷ below trees) alike ∙ sym (ap attributes_of is_seen ∙ group))

pub push_attributes-returns-clause-after : goal.push_attributes-returns-clause-after
push_attributes-returns-clause-after t c =
    let seen = pair_seen _ _ _ _ _ _ c.in-List.is c.as_slice.ensures.trees c.in-len2.len_at_least c.in-len2.len_below
    c.attribute-item.is c.branches-item.is in
    let same = grown _ _ _ _ _ _ _ _ c.in_ok-push.ensures.after
    c.bytes.ensures.bytes seen
    (some_attributes _ _ _ _ _ _ _ _ c.in-Atom.is c.in-List-branches.is) c.as_slice-2.ensures.trees in
    subst (λ names. OnOk c.push_inner_attributes.result
    (c.push_inner_attributes.new.self ≡ names)) same c.push_inner_attributes.ensures.after
