-- The words of the mentions of locations and of stored numbers are those that a form mentions.
use Rattle.std.proofs.Common.{◌≡◌, ℕ, Bool, true, false, if◌then◌else◌, List, [], ◌∷◌, ◌++◌, map, flat_map, refl, ap, ◌∙◌}
use Rattle.std.proofs.lemmas.List.{map-append}
use Rattle.rc_base.specs.Tree.{Tree, word, list, Trees, nil, cons}
use Rattle.rc_sheet_spec.specs.FormMentions.{is_kind, gathered, all_gathered, word_of, loc_word, num_word, deck_loc, body, deck_lines, loc_mentions, num_mentions, is_text}
use Rattle.rc_check.specs.SecondNames.{OwnedMention}
use Rattle.rc_resolve.specs.Mentions.{mention_by, loc_mention, num_mention, deck_location, all_locations, all_numbers}

abbrev names : List OwnedMention → List (List ℕ)
names mentions = map (λ mention. mention.name) mentions

-- what is gathered, item by item
module _ {A B : Type 0} (f : A → B) (own : Trees → List A) (other : Trees → List B)
    (same : (parts : Trees) → map f (own parts) ≡ other parts) where
  mutual
    gathered-map : (tree : Tree) → map f (gathered own tree) ≡ gathered other tree
    gathered-map (word bytes from to) = refl
    gathered-map (list parts from to) =
        map-append f (all_gathered own parts) (own parts)
        ∙ ap (λ xs. xs ++ map f (own parts)) (all_gathered-map parts)
        ∙ ap (λ xs. all_gathered other parts ++ xs) (same parts)

    all_gathered-map : (trees : Trees) → map f (all_gathered own trees) ≡ all_gathered other trees
    all_gathered-map nil = refl
    all_gathered-map (cons tree trees) =
        map-append f (gathered own tree) (all_gathered own trees)
        ∙ ap (λ xs. xs ++ map f (all_gathered own trees)) (gathered-map tree)
        ∙ ap (λ xs. gathered other tree ++ xs) (all_gathered-map trees)

-- the word of a mention
mentioned : (holder kind name : Tree) (is : Bool) →
    names (if is then mention_by holder kind name else []) ≡ (if is then word_of name else [])
mentioned holder kind (word bytes from to) true = refl
mentioned holder kind (list parts from to) true = refl
mentioned holder kind name false = refl

loc_words : (parts : Trees) → names (loc_mention parts) ≡ loc_word parts
loc_words nil = refl
loc_words (cons holder nil) = refl
loc_words (cons holder (cons kind nil)) = refl
loc_words (cons holder (cons kind (cons name nil))) = mentioned holder kind name (is_kind kind)
loc_words (cons holder (cons kind (cons name (cons more rest)))) = refl

num_words : (parts : Trees) → names (num_mention parts) ≡ num_word parts
num_words nil = refl
num_words (cons holder nil) = refl
num_words (cons holder (cons kind nil)) = refl
num_words (cons holder (cons kind (cons name nil))) = mentioned holder kind name (is_text "sto" kind)
num_words (cons holder (cons kind (cons name (cons more rest)))) = refl

deck_words : (line : Tree) → names (deck_location line) ≡ deck_loc line
deck_words (word bytes from to) = refl
deck_words (list nil from to) = refl
deck_words (list (cons create nil) from to) = refl
deck_words (list (cons create (cons deck nil)) from to) = refl
deck_words (list (cons create (cons deck (cons loc rest))) from to) =
    gathered-map (λ mention. mention.name) loc_mention loc_word loc_words loc

all_deck_words : (lines : List Tree) → names (flat_map deck_location lines) ≡ flat_map deck_loc lines
all_deck_words [] = refl
all_deck_words (line ∷ lines) =
    map-append (λ mention. mention.name) (deck_location line) (flat_map deck_location lines)
    ∙ ap (λ words. words ++ names (flat_map deck_location lines)) (deck_words line)
    ∙ ap (λ words. deck_loc line ++ words) (all_deck_words lines)

pub location_words : (form : Tree) → names (all_locations form) ≡ loc_mentions form
location_words form =
    map-append (λ mention. mention.name) (flat_map deck_location (deck_lines form)) (all_gathered loc_mention (body form))
    ∙ ap (λ words. words ++ names (all_gathered loc_mention (body form))) (all_deck_words (deck_lines form))
    ∙ ap (λ words. flat_map deck_loc (deck_lines form) ++ words)
    (all_gathered-map (λ mention. mention.name) loc_mention loc_word loc_words (body form))

pub number_words : (form : Tree) → names (all_numbers form) ≡ num_mentions form
number_words form = all_gathered-map (λ mention. mention.name) num_mention num_word num_words (body form)
