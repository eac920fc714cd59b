-- The names that are known at the end are the names of the form.
use Rattle.std.proofs.Common.{◌≡◌, ℕ, ◌+◌, ◌≤◌, List, [], ◌∷◌, length, map, refl, sym, ap, ◌∙◌, subst}
use Rattle.std.specs.List.{range_with_len}
use Rattle.std.proofs.lemmas.List.{length-map}
use Rattle.rc_base.specs.Tree.{Tree}
use Rattle.rc_sheet_spec.specs.Sheet.{LocName, NumName}
use Rattle.rc_base.specs.Numbers.{below}
use Rattle.rc_base.specs.Words.{different}
use Rattle.rc_sheet_spec.specs.Naming.{Naming}
use Rattle.rc_sheet_spec.specs.FormMentions.{names_of, attr_mentions, value_mentions, map_mentions, var_mentions}
use Rattle.rc_check.specs.SecondNames.{OwnedMention}
use Rattle.rc_resolve.specs.Mentions.{all_locations, all_numbers, mentions_of}
use Rattle.rc_resolve.specs.Naming.{naming_of, loc_names, num_names, firsts}
use Rattle.rc_resolve.specs.Known.{with_all, with_mentions, none, naming_by}
use Rattle.rc_resolve.proofs.Firsts.{words_added, mentions_added, names_added}
use Rattle.rc_resolve.proofs.Gathered.{location_words, number_words}

pub same_naming : (attrs attrs' values values' maps maps' locs locs' nums nums' vars vars' : List (List ℕ))
    (loc_names loc_names' : List LocName) (num_names num_names' : List NumName)
    → attrs ≡ attrs' → values ≡ values' → maps ≡ maps' → locs ≡ locs' → nums ≡ nums' → vars ≡ vars'
    → loc_names ≡ loc_names' → num_names ≡ num_names'
    → ◌≡◌ {A = Naming}
    (record {
      names = record { attrs = attrs; values = values; maps = maps; locs = locs; nums = nums; vars = vars };
      locs = loc_names;
      nums = num_names;
    })
    (record {
      names = record { attrs = attrs'; values = values'; maps = maps'; locs = locs'; nums = nums'; vars = vars' };
      locs = loc_names';
      nums = num_names';
    })
same_naming _ _ _ _ _ _ _ _ _ _ _ _ _ _ _ _ a b c d e f g h =
    rw (a, b, c, d, e, f, g, h) refl

-- the words of the mentions that are known
locs_known : (form : Tree) → map (λ mention. mention.name) (with_mentions [] (all_locations form)) ≡ (names_of form).locs
locs_known form = names_added (λ mention. mention.name) (all_locations form) ∙ ap different (location_words form)

nums_known : (form : Tree) → map (λ mention. mention.name) (with_mentions [] (all_numbers form)) ≡ (names_of form).nums
nums_known form = names_added (λ mention. mention.name) (all_numbers form) ∙ ap different (number_words form)

pub naming_is : (form : Tree) → naming_by (with_all none (mentions_of form)) ≡ naming_of form
naming_is form =
    same_naming _ _ _ _ _ _ _ _ _ _ _ _ _ _ _ _
    (words_added (attr_mentions form))
    (words_added (value_mentions form))
    (words_added (map_mentions form))
    (locs_known form)
    (nums_known form)
    (words_added (var_mentions form))
    (ap (loc_names 0) (mentions_added (all_locations form)))
    (ap (num_names 0) (mentions_added (all_numbers form)))

-- there are as many as names
pub locs_fit : (form : Tree) (most : ℕ) →
    length (names_of form).locs ≤ most → length (with_mentions [] (all_locations form)) ≤ most
locs_fit form most fits =
    subst (λ n. n ≤ most)
    (sym (ap (λ words. length words) (locs_known form))
    ∙ length-map (with_mentions [] (all_locations form)) (λ mention. mention.name))
    fits

pub nums_fit : (form : Tree) (most : ℕ) →
    length (names_of form).nums ≤ most → length (with_mentions [] (all_numbers form)) ≤ most
nums_fit form most fits =
    subst (λ n. n ≤ most)
    (sym (ap (λ words. length words) (nums_known form))
    ∙ length-map (with_mentions [] (all_numbers form)) (λ mention. mention.name))
    fits

-- the first mentions are those of the names
pub locs_in_order : (form : Tree) → map (λ mention. mention.name) (firsts (all_locations form)) ≡ (names_of form).locs
locs_in_order form = ap (map (λ mention. mention.name)) (sym (mentions_added (all_locations form))) ∙ locs_known form

pub nums_in_order : (form : Tree) → map (λ mention. mention.name) (firsts (all_numbers form)) ≡ (names_of form).nums
nums_in_order form = ap (map (λ mention. mention.name)) (sym (mentions_added (all_numbers form))) ∙ nums_known form

-- they are numbered one by one
loc_numbers_from : (number : ℕ) (mentions : List OwnedMention) →
    map (λ loc. loc.name) (loc_names number mentions) ≡ range_with_len number (length mentions)
loc_numbers_from number [] = refl
loc_numbers_from number (mention ∷ mentions) = ap (λ rest. number ∷ rest) (loc_numbers_from (number + 1) mentions)

num_numbers_from : (number : ℕ) (mentions : List OwnedMention) →
    map (λ num. num.name) (num_names number mentions) ≡ range_with_len number (length mentions)
num_numbers_from number [] = refl
num_numbers_from number (mention ∷ mentions) = ap (λ rest. number ∷ rest) (num_numbers_from (number + 1) mentions)

-- as many as mentions
as_many : (mentions : List OwnedMention) (words : List (List ℕ)) → map (λ mention. mention.name) mentions ≡ words
    → length mentions ≡ length words
as_many mentions words are = sym (length-map mentions (λ mention. mention.name)) ∙ ap (λ all. length all) are

pub loc_numbers : (form : Tree) → map (λ loc. loc.name) (naming_of form).locs ≡ below (length (names_of form).locs)
loc_numbers form =
    loc_numbers_from 0 (firsts (all_locations form))
    ∙ ap below (as_many (firsts (all_locations form)) (names_of form).locs (locs_in_order form))

pub num_numbers : (form : Tree) → map (λ num. num.name) (naming_of form).nums ≡ below (length (names_of form).nums)
num_numbers form =
    num_numbers_from 0 (firsts (all_numbers form))
    ∙ ap below (as_many (firsts (all_numbers form)) (names_of form).nums (nums_in_order form))
