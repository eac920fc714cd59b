-- Loops that read form by form.
use Rattle.std.proofs.Common.{◌≡◌, ℕ, ◌+◌, ◌<◌, ◌≤◌, List, [], ◌∷◌, ◌++◌, length, get_or, drop, Option, Some, None, option_map, refl, sym, ap, ◌∙◌}
use Rattle.std.proofs.lemmas.List.{at_drop_more, at_drop_all}
use Rattle.rc_base.specs.Tree.{Tree, Trees, nil, cons}
use Rattle.rc_form.specs.declared.form.Form.{Form}
use Rattle.rc_form.specs.Form.{tree_of, trees_of, packed}
use Rattle.rc_resolve.specs.Reading.{both}

-- `all` reads trees one by one by `one`, and `onto` puts what is read so far before what is read behind
pub record Reads {X Y V : Type 0} (one : Tree → Option X) (all : Trees → Option Y) (add : X → Y → Y) (seen : V → X) (onto : List V → Y → Y) : Type 0 where
  pub splits : (tree : Tree) (trees : Trees) → all (cons tree trees) ≡ both add (one tree) (all trees)
  pub pushes : (read : List V) (next : V) (rest : Y) → onto (read ++ next ∷ []) rest ≡ onto read (add (seen next) rest)

module _ {X Y V : Type 0} {one : Tree → Option X} {all : Trees → Option Y} {add : X → Y → Y} {seen : V → X} {onto : List V → Y → Y}
    (reads : Reads one all add seen onto) where
  -- what is left begins with a form
  left_splits : (forms : List Form) (i : ℕ) (form : Form) → i < length forms → form ≡ get_or forms i form →
      all (packed (trees_of (drop i forms))) ≡ both add (one (tree_of form)) (all (packed (trees_of (drop (i + 1) forms))))
  left_splits forms i form lt is =
      at_drop_more (λ fs. all (packed (trees_of fs))) forms i form lt
      ∙ ap (λ x. all (cons (tree_of x) (packed (trees_of (drop (i + 1) forms))))) (sym is)
      ∙ reads.splits (tree_of form) (packed (trees_of (drop (i + 1) forms)))

  mapped : (read : List V) (next : V) (rest : Option Y) → option_map (onto (read ++ next ∷ [])) rest ≡ option_map (onto read) (option_map (add (seen next)) rest)
  mapped read next None = refl
  mapped read next (Some rest) = ap (λ y. Some y) (reads.pushes read next rest)

  -- one more form is read
  pub read_more : (forms : List Form) (i : ℕ) (form : Form) (read new : List V) (next : V) → i < length forms → form ≡ get_or forms i form →
      Some (seen next) ≡ one (tree_of form) → new ≡ read ++ next ∷ [] →
      option_map (onto new) (all (packed (trees_of (drop (i + 1) forms)))) ≡ option_map (onto read) (all (packed (trees_of (drop i forms))))
  read_more forms i form read new next lt is found pushed =
      let rest = all (packed (trees_of (drop (i + 1) forms))) in
      ap (λ vs. option_map (onto vs) rest) pushed
      ∙ mapped read next rest
      ∙ ap (λ o. option_map (onto read) (both add o rest)) found
      ∙ ap (option_map (onto read)) (sym (left_splits forms i form lt is))

-- nothing is left
pub read_end : {Y : Type 0} (all : Trees → Option Y) (onto : Y → Y) (none : Y) (forms : List Form) (i : ℕ) → all nil ≡ Some none → length forms ≤ i →
    option_map onto (all (packed (trees_of (drop i forms)))) ≡ Some (onto none)
read_end all onto none forms i ends past = ap (option_map onto) (at_drop_all (λ fs. all (packed (trees_of fs))) forms i past ∙ ends)
