-- What is mentioned in several forms is what is mentioned in each, one behind the other.
use Rattle.std.proofs.Common.{◌≡◌, ℕ, ◌+◌, ◌<◌, Bool, true, false, List, [], ◌∷◌, ◌++◌, length, get_or, drop, if◌then◌else◌, refl, sym, ap, ◌∙◌}
use Rattle.std.proofs.lemmas.List.{append-nil, at_drop_more}
use Rattle.std.proofs.lemmas.List.Sums.{fold-append}
use Rattle.rc_base.specs.Tree.{Tree, word, list, Trees, nil, cons}
use Rattle.rc_form.specs.declared.form.Form.{Form}
use Rattle.rc_form.specs.Form.{tree_of, trees_of, packed}
use Rattle.rc_sheet_spec.specs.FormMentions.{gathered, all_gathered, all_var_words, var_words, word_of, words_of, group_attr_words, group_value_words, branch_attr_words, branch_value_words, entry_attr_words, entry_value_words}
use Rattle.rc_sheet_spec.specs.StandsSetup.{begins_with, lines_with}
use Rattle.rc_resolve.specs.Mentions.{Mentions, loc_mention}
use Rattle.rc_resolve.specs.Known.{with_first, with_all, joined, in_tree, in_trees, locs_alone, variables, in_groups, in_branches, in_values, in_entries, in_deck_of, none, in_deck_line, in_deck_lines, deck_in, decks_in, in_points_line, in_points_lines, points_in, all_points_in}

-- mentions are added in turn
pub with_all-joined : (known first later : Mentions) → with_all (with_all known first) later ≡ with_all known (joined first later)
with_all-joined known first later =
    sym (rw (
      fold-append (with_first (λ bytes. bytes)) known.attrs first.attrs later.attrs,
      fold-append (with_first (λ bytes. bytes)) known.values first.values later.values,
      fold-append (with_first (λ bytes. bytes)) known.maps first.maps later.maps,
      fold-append (with_first (λ mention. mention.name)) known.locs first.locs later.locs,
      fold-append (with_first (λ mention. mention.name)) known.nums first.nums later.nums,
      fold-append (with_first (λ bytes. bytes)) known.vars first.vars later.vars,
    ) refl)

-- a form's mentions stand before those of the forms behind it
abbrev pub Splits : (Trees → Mentions) → (Tree → Mentions) → Type 0
Splits all one = (tree : Tree) (trees : Trees) → all (cons tree trees) ≡ joined (one tree) (all trees)

pub trees-split : Splits in_trees in_tree
trees-split tree trees = refl

pub locations-split : Splits (λ trees. locs_alone (all_gathered loc_mention trees)) (λ tree. locs_alone (gathered loc_mention tree))
locations-split tree trees = refl

pub variables-split : Splits (λ trees. variables (all_var_words trees)) (λ tree. variables (var_words tree))
variables-split tree trees = refl

pub values-split : Splits in_values (λ tree. in_deck_of [] (word_of tree))
values-split tree trees = refl

-- attributes and values of several parts
two-append : {A : Type 0} (a b : List A) → a ++ b ≡ (a ++ []) ++ b
two-append a b = ap (λ xs. xs ++ b) (sym (append-nil a))

both : (attrs attrs' values values' : List (List ℕ)) → attrs ≡ attrs' → values ≡ values'
    → in_deck_of attrs values ≡ in_deck_of attrs' values'
both attrs attrs' values values' is-attrs is-values =
    ap (λ words. in_deck_of words values) is-attrs ∙ ap (in_deck_of attrs') is-values

pub groups-split : Splits in_groups (λ tree. in_groups (cons tree nil))
groups-split (word bytes from to) trees = refl
groups-split (list nil from to) trees = refl
groups-split (list (cons attr nil) from to) trees = refl
groups-split (list (cons attr (cons (word bytes x y) rest)) from to) trees = refl
groups-split (list (cons attr (cons (list branches x y) nil)) from to) trees =
    both _ _ _ _ (two-append (word_of attr ++ branch_attr_words branches) (group_attr_words trees))
    (two-append (branch_value_words branches) (group_value_words trees))
groups-split (list (cons attr (cons (list branches x y) (cons other rest))) from to) trees = refl

pub branches-split : Splits in_branches (λ tree. in_branches (cons tree nil))
branches-split (word bytes from to) trees = refl
branches-split (list nil from to) trees = refl
branches-split (list (cons value groups) from to) trees =
    both _ _ _ _ (two-append (group_attr_words groups) (branch_attr_words trees))
    (two-append (word_of value ++ group_value_words groups) (branch_value_words trees))

pub entries-split : Splits in_entries (λ tree. in_entries (cons tree nil))
entries-split (word bytes from to) trees = refl
entries-split (list nil from to) trees = refl
entries-split (list (cons attr nil) from to) trees = both _ _ _ _ (two-append (word_of attr) (entry_attr_words trees)) refl
entries-split (list (cons attr (cons (word bytes x y) rest)) from to) trees =
    both _ _ _ _ (two-append (word_of attr) (entry_attr_words trees)) refl
entries-split (list (cons attr (cons (list values x y) rest)) from to) trees =
    both _ _ _ _ (two-append (word_of attr) (entry_attr_words trees)) (two-append (words_of values) (entry_value_words trees))

-- lines that are passed over mention nothing
deck_line : (line : Tree) (lines : Trees) (is : Bool) →
    in_deck_lines (if is then line ∷ lines_with "create" "deck" lines else lines_with "create" "deck" lines)
    ≡ joined (if is then in_deck_line line else none) (decks_in lines)
deck_line line lines true = refl
deck_line line lines false = refl

pub decks-split : Splits decks_in deck_in
decks-split line lines = deck_line line lines (begins_with "create" "deck" line)

points_line : (line : Tree) (lines : Trees) (is : Bool) →
    in_points_lines (if is then line ∷ lines_with "put" "points" lines else lines_with "put" "points" lines)
    ≡ joined (if is then in_points_line line else none) (all_points_in lines)
points_line line lines true = refl
points_line line lines false = refl

pub points-split : Splits all_points_in points_in
points-split line lines = points_line line lines (begins_with "put" "points" line)

-- what is added form by form
pub step : (all : Trees → Mentions) (one : Tree → Mentions) → Splits all one
    → (known new : Mentions) (forms : List Form) (i : ℕ) (form : Form) →
    i < length forms → form ≡ get_or forms i form → new ≡ with_all known (one (tree_of form)) →
    with_all new (all (packed (trees_of (drop (i + 1) forms)))) ≡ with_all known (all (packed (trees_of (drop i forms))))
step all one splits known new forms i form lt is added =
    let rest = all (packed (trees_of (drop (i + 1) forms))) in
    let whole : all (packed (trees_of (drop i forms))) ≡ joined (one (tree_of form)) rest =
    at_drop_more (λ fs. all (packed (trees_of fs))) forms i form lt
    ∙ ap (λ x. all (cons (tree_of x) (packed (trees_of (drop (i + 1) forms))))) (sym is)
    ∙ splits (tree_of form) (packed (trees_of (drop (i + 1) forms))) in
    ap (λ n. with_all n rest) added ∙ with_all-joined known (one (tree_of form)) rest ∙ ap (with_all known) (sym whole)
