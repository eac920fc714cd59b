-- Lists that have fewer parts than a row of the grammar, or more.
use Rattle.std.proofs.Common.{◌≡◌, ◌<◌, false, List, [], ◌∷◌, ◌++◌, length, None, refl, ap, sym, ◌∙◌, arith}
use Rattle.std.proofs.lemmas.List.{append-nil}
use Rattle.rc_base.specs.Tree.{Tree, word, list, nil, cons, count}
use Rattle.rc_form.specs.declared.form.Form.{Form}
use Rattle.rc_form.specs.Form.{tree_of, trees_of, packed}
use Rattle.rc_form.proofs.FormLemmas.{count_packed}
use Rattle.rc_check.specs.declared.keyword.Keyword.{Keyword}
use Rattle.rc_sheet_spec.specs.FormMentions.{attr_word, value_word, map_word, setup_lines, body, deck_groups, points_map, points_entries, bound_words, var_words, all_var_words}
use Rattle.rc_resolve.specs.Mentions.{loc_mention, num_mention}
use Rattle.rc_resolve.specs.Known.{parts_in, begins_by, third_part}

-- as many as the forms that are found
counted : (tree : Tree) (forms : List Form) → packed (trees_of forms) ≡ parts_in tree → count (parts_in tree) ≡ length forms
counted tree forms is = ap count (sym is) ∙ count_packed forms

module _ (forms : List Form) where
  pub begins_short : (first second : Keyword) (tree : Tree) → packed (trees_of forms) ≡ parts_in tree → length forms < 2 →
      false ≡ begins_by first second tree
  begins_short first second (word bytes from to) is short = refl
  begins_short first second (list nil from to) is short = refl
  begins_short first second (list (cons a nil) from to) is short = refl
  begins_short first second (list (cons a (cons b rest)) from to) is short =
      let many = counted (list (cons a (cons b rest)) 0 0) forms is in absurd (omega arith)

  pub body_short : (tree : Tree) → packed (trees_of forms) ≡ parts_in tree → length forms < 2 → nil ≡ body tree
  body_short (word bytes from to) is short = refl
  body_short (list nil from to) is short = refl
  body_short (list (cons a nil) from to) is short = refl
  body_short (list (cons a (cons b rest)) from to) is short =
      let many = counted (list (cons a (cons b rest)) 0 0) forms is in absurd (omega arith)

  pub setup_short : (tree : Tree) → packed (trees_of forms) ≡ parts_in tree → length forms < 2 → nil ≡ setup_lines tree
  setup_short (word bytes from to) is short = refl
  setup_short (list nil from to) is short = refl
  setup_short (list (cons a nil) from to) is short = refl
  setup_short (list (cons a (cons b rest)) from to) is short =
      let many = counted (list (cons a (cons b rest)) 0 0) forms is in absurd (omega arith)

  pub location_short : (tree : Tree) → packed (trees_of forms) ≡ parts_in tree → length forms < 3 → None ≡ third_part tree
  location_short (word bytes from to) is short = refl
  location_short (list nil from to) is short = refl
  location_short (list (cons a nil) from to) is short = refl
  location_short (list (cons a (cons b nil)) from to) is short = refl
  location_short (list (cons a (cons b (cons c rest))) from to) is short =
      let many = counted (list (cons a (cons b (cons c rest))) 0 0) forms is in absurd (omega arith)

  pub map_short : (tree : Tree) → packed (trees_of forms) ≡ parts_in tree → length forms < 3 → [] ≡ points_map tree
  map_short (word bytes from to) is short = refl
  map_short (list nil from to) is short = refl
  map_short (list (cons a nil) from to) is short = refl
  map_short (list (cons a (cons b nil)) from to) is short = refl
  map_short (list (cons a (cons b (cons c rest))) from to) is short =
      let many = counted (list (cons a (cons b (cons c rest))) 0 0) forms is in absurd (omega arith)

  pub groups_other : (tree : Tree) → packed (trees_of forms) ≡ parts_in tree → (length forms ≡ 4 → ⊥) → nil ≡ deck_groups tree
  groups_other (word bytes from to) is other = refl
  groups_other (list nil from to) is other = refl
  groups_other (list (cons a nil) from to) is other = refl
  groups_other (list (cons a (cons b nil)) from to) is other = refl
  groups_other (list (cons a (cons b (cons c nil))) from to) is other = refl
  groups_other (list (cons a (cons b (cons c (cons (word bytes x y) rest)))) from to) is other = refl
  groups_other (list (cons a (cons b (cons c (cons (list nil x y) rest)))) from to) is other = refl
  groups_other (list (cons a (cons b (cons c (cons (list (cons d ds) x y) nil)))) from to) is other =
      absurd (other (sym (counted (list (cons a (cons b (cons c (cons (list (cons d ds) x y) nil)))) 0 0) forms is)))
  groups_other (list (cons a (cons b (cons c (cons (list (cons d ds) x y) (cons e es))))) from to) is other = refl

  pub entries_other : (tree : Tree) → packed (trees_of forms) ≡ parts_in tree → (length forms ≡ 4 → ⊥) → nil ≡ points_entries tree
  entries_other (word bytes from to) is other = refl
  entries_other (list nil from to) is other = refl
  entries_other (list (cons a nil) from to) is other = refl
  entries_other (list (cons a (cons b nil)) from to) is other = refl
  entries_other (list (cons a (cons b (cons c nil))) from to) is other = refl
  entries_other (list (cons a (cons b (cons c (cons (word bytes x y) rest)))) from to) is other = refl
  entries_other (list (cons a (cons b (cons c (cons (list ds x y) nil)))) from to) is other =
      absurd (other (sym (counted (list (cons a (cons b (cons c (cons (list ds x y) nil)))) 0 0) forms is)))
  entries_other (list (cons a (cons b (cons c (cons (list ds x y) (cons e es))))) from to) is other = refl

pub attr_other : (forms : List Form) → (length forms ≡ 3 → ⊥) → (length forms ≡ 4 → ⊥) → [] ≡ attr_word (packed (trees_of forms))
attr_other [] three four = refl
attr_other (a ∷ []) three four = refl
attr_other (a ∷ b ∷ []) three four = refl
attr_other (a ∷ b ∷ c ∷ []) three four = absurd (three refl)
attr_other (a ∷ b ∷ c ∷ d ∷ []) three four = absurd (four refl)
attr_other (a ∷ b ∷ c ∷ d ∷ e ∷ es) three four = refl

pub value_other : (forms : List Form) → (length forms ≡ 4 → ⊥) → [] ≡ value_word (packed (trees_of forms))
value_other [] four = refl
value_other (a ∷ []) four = refl
value_other (a ∷ b ∷ []) four = refl
value_other (a ∷ b ∷ c ∷ []) four = refl
value_other (a ∷ b ∷ c ∷ d ∷ []) four = absurd (four refl)
value_other (a ∷ b ∷ c ∷ d ∷ e ∷ es) four = refl

pub map_other : (forms : List Form) → (length forms ≡ 4 → ⊥) → [] ≡ map_word (packed (trees_of forms))
map_other [] four = refl
map_other (a ∷ []) four = refl
map_other (a ∷ b ∷ []) four = refl
map_other (a ∷ b ∷ c ∷ []) four = refl
map_other (a ∷ b ∷ c ∷ d ∷ []) four = absurd (four refl)
map_other (a ∷ b ∷ c ∷ d ∷ e ∷ es) four = refl

pub loc_other : (forms : List Form) → (length forms ≡ 3 → ⊥) → [] ≡ loc_mention (packed (trees_of forms))
loc_other [] three = refl
loc_other (a ∷ []) three = refl
loc_other (a ∷ b ∷ []) three = refl
loc_other (a ∷ b ∷ c ∷ []) three = absurd (three refl)
loc_other (a ∷ b ∷ c ∷ d ∷ ds) three = refl

pub num_other : (forms : List Form) → (length forms ≡ 3 → ⊥) → [] ≡ num_mention (packed (trees_of forms))
num_other [] three = refl
num_other (a ∷ []) three = refl
num_other (a ∷ b ∷ []) three = refl
num_other (a ∷ b ∷ c ∷ []) three = absurd (three refl)
num_other (a ∷ b ∷ c ∷ d ∷ ds) three = refl

-- fewer than three parts bind nothing themselves
pub bound_short : (forms : List Form) → length forms < 3 →
    all_var_words (packed (trees_of forms)) ≡ bound_words (packed (trees_of forms))
bound_short [] short = refl
bound_short (a ∷ []) short = append-nil (var_words (tree_of a))
bound_short (a ∷ b ∷ []) short = ap (λ words. var_words (tree_of a) ++ words) (append-nil (var_words (tree_of b)))
bound_short (a ∷ b ∷ c ∷ cs) short = absurd (omega arith)
