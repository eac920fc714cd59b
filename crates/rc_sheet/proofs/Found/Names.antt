-- Where the names that a form mentions are found among its numbered names.
use Rattle.std.proofs.Common.{◌≡◌, ℕ, ◌+◌, ◌<◌, zero, suc, Bool, true, false, not, ◌||◌, cond, List, [], ◌∷◌, ◌++◌, ◌⊎◌, inl, inr, ⊎_elim, length, Option, Some, None, map, position, slice_get, option_map, bytes_eq, refl, sym, ap, ap₂, ◌∙◌, arith}
use Rattle.std.specs.Prelude.{codes, flat_map}
use Rattle.std.specs.List.{list_any, position_or_len}
use Rattle.std.proofs.lemmas.Bool.{cond-true, lt-ltb}
use Rattle.std.proofs.lemmas.List.{map-append}
use Rattle.std.proofs.lemmas.Option.{slice_get-map, same_Some}
use Rattle.std.proofs.lemmas.Slice.Eq.{bytes_eq-Decides}
use Rattle.rc_base.specs.Tree.{Tree, word, list, Trees, nil, cons}
use Rattle.rc_sheet_spec.specs.Sheet.{vloc, iloc, hloc, mem, LocName, NumName}
use Rattle.rc_sheet_spec.specs.Naming.{kind_word as kind_bytes}
use Rattle.rc_base.specs.Words.{different, different_from}
use Rattle.rc_sheet_spec.specs.FormMentions.{is_kind, word_of, gathered, all_gathered, loc_word, num_word, deck_loc, deck_lines, body, loc_mentions, num_mentions, is_text}
use Rattle.rc_check.specs.Faults.{is_kind as is_kind_word}
use Rattle.rc_check.specs.SecondNames.{is_named, firsts_from, OwnedMention}
use Rattle.rc_resolve.specs.Mentions.{mention_by, loc_mention, num_mention, deck_location, all_locations, all_numbers}
use Rattle.rc_resolve.specs.Naming.{kind_by, firsts, loc_names, num_names, naming_of}
use Rattle.rc_sheet.proofs.Means.{place_passes, means_so}
use Rattle.rc_sheet.proofs.Among.{Among, Within, among_either, among_named, among_map}
use Rattle.rc_sheet.proofs.Agreed.{Agree, agree_two}
use Rattle.rc_sheet.proofs.Fine.Common.{IsLocMention, IsNumMention}

-- where one passes, the first that does stands within the list
first_within : {A : Type 0} (p : A → Bool) (xs : List A) → list_any p xs ≡ true → position_or_len p xs < length xs
first_within p [] some = absurd cc
first_within p (x ∷ xs) some = by (p x) (position_or_len p xs) (length xs) some (first_within p xs)
  where
    by : (b : Bool) (n m : ℕ) → (b || list_any p xs) ≡ true → (list_any p xs ≡ true → n < m) → cond (not b) (1 + n) 0 < suc m
    by true n m some later = omega arith
    by false n m some later = let less = later some in omega (arith, less)

-- a word among words has a place there
place_named : (x : List ℕ) (words : List (List ℕ)) → is_named x words ≡ true
    → (n : ℕ) × (position (bytes_eq x) words ≡ Some n) × (slice_get words n ≡ Some x)
place_named x words named =
    let at = position_or_len (bytes_eq x) words in
    let is : position (bytes_eq x) words ≡ Some at =
    cond-true _ (Some at) None (lt-ltb at (length words) (first_within (bytes_eq x) words named)) in
    let found = means_so (position (bytes_eq x) words) at (place_passes (bytes_eq x) words) is in
    (at, is, found.1 ∙ ap Some (sym ((bytes_eq-Decides x found.0).0 found.2)))

-- what stands at a place is among them
pub get_among : {A : Type 0} (xs : List A) (n : ℕ) (x : A) → slice_get xs n ≡ Some x → Among x xs
get_among [] n x is = absurd cc
get_among (y ∷ xs) zero x is = inl cc
get_among (y ∷ xs) (suc n) x is = inr (get_among xs n x is)

-- each word stands among the different ones, but for those that were seen
named_different : (x : List ℕ) (seen words : List (List ℕ)) → is_named x words ≡ true
    → (is_named x seen ≡ true) ⊎ (is_named x (different_from seen words) ≡ true)
named_different x seen [] named = absurd cc
named_different x seen (other ∷ words) named =
    by_first (bytes_eq x other) (is_named other seen) refl refl named (named_different x seen words)
    (named_different x (other ∷ seen) words)
  where
    by_first : (same old : Bool) → bytes_eq x other ≡ same → is_named other seen ≡ old → (same || is_named x words) ≡ true
        → (is_named x words ≡ true → (is_named x seen ≡ true) ⊎ (is_named x (different_from seen words) ≡ true))
        → (is_named x words ≡ true
        → (is_named x (other ∷ seen) ≡ true) ⊎ (is_named x (different_from (other ∷ seen) words) ≡ true))
        → (is_named x seen ≡ true)
        ⊎ (is_named x (cond old (different_from seen words) (other ∷ different_from (other ∷ seen) words)) ≡ true)
    by_first true true same old some kept new =
        inl (ap (λ w. is_named w seen) ((bytes_eq-Decides x other).0 same) ∙ old)
    by_first true false same old some kept new =
        inr (ap (λ b. b || is_named x (different_from (other ∷ seen) words)) same)
    by_first false true same old some kept new = kept some
    by_first false false same old some kept new =
        ⊎_elim (λ is. inl (ap (λ b. b || is_named x seen) (sym same) ∙ is))
        (λ is. inr (ap (λ b. b || is_named x (different_from (other ∷ seen) words)) same ∙ is)) (new some)

-- a word among all stands among the different ones
pub among_different : (x : List ℕ) (words : List (List ℕ)) → Among x words → is_named x (different words) ≡ true
among_different x words is =
    ⊎_elim (λ old. absurd cc) (λ new. new) (named_different x [] words (among_named x words is))

-- and those are among all
pub different_within : (seen words : List (List ℕ)) → Within (different_from seen words) words
different_within seen [] x is = is
different_within seen (other ∷ words) x is =
    by (is_named other seen) is (different_within seen words x) (different_within (other ∷ seen) words x)
  where
    by : (old : Bool) → Among x (cond old (different_from seen words) (other ∷ different_from (other ∷ seen) words))
        → (Among x (different_from seen words) → Among x words)
        → (Among x (different_from (other ∷ seen) words) → Among x words) → Among x (other ∷ words)
    by true is kept new = inr (kept is)
    by false (inl is) kept new = inl is
    by false (inr is) kept new = inr (new is)

abbrev pub name_of : OwnedMention → List ℕ
name_of mention = mention.name

-- the names of the first mentions are the different names
pub names_different : (seen : List (List ℕ)) (mentions : List OwnedMention)
    → different_from seen (map name_of mentions) ≡ map name_of (firsts_from seen mentions)
names_different seen [] = refl
names_different seen (mention ∷ mentions) =
    by (is_named mention.name seen) (names_different seen mentions) (names_different (mention.name ∷ seen) mentions)
  where
    by : (old : Bool) → different_from seen (map name_of mentions) ≡ map name_of (firsts_from seen mentions)
        → different_from (mention.name ∷ seen) (map name_of mentions) ≡ map name_of (firsts_from (mention.name ∷ seen) mentions)
        → cond old (different_from seen (map name_of mentions))
        (mention.name ∷ different_from (mention.name ∷ seen) (map name_of mentions))
        ≡ map name_of (cond old (firsts_from seen mentions) (mention ∷ firsts_from (mention.name ∷ seen) mentions))
    by true kept new = kept
    by false kept new = ap (λ l. mention.name ∷ l) new

-- the first mentions are mentions
pub firsts_within : (seen : List (List ℕ)) (mentions : List OwnedMention) → Within (firsts_from seen mentions) mentions
firsts_within seen [] x is = is
firsts_within seen (mention ∷ mentions) x is =
    by (is_named mention.name seen) is (firsts_within seen mentions x) (firsts_within (mention.name ∷ seen) mentions x)
  where
    by : (old : Bool)
        → Among x (cond old (firsts_from seen mentions) (mention ∷ firsts_from (mention.name ∷ seen) mentions))
        → (Among x (firsts_from seen mentions) → Among x mentions)
        → (Among x (firsts_from (mention.name ∷ seen) mentions) → Among x mentions) → Among x (mention ∷ mentions)
    by true is kept new = inr (kept is)
    by false (inl is) kept new = inl is
    by false (inr is) kept new = inr (new is)

-- the first mention of a name has the place of its name
pub first_found : (mention : OwnedMention) (mentions : List OwnedMention) → Among mention mentions
    → (n : ℕ) × (position (bytes_eq mention.name) (different (map name_of mentions)) ≡ Some n)
    × (first : OwnedMention) × (slice_get (firsts mentions) n ≡ Some first) × (first.name ≡ mention.name) × Among first mentions
first_found mention mentions is =
    let place = place_named mention.name (different (map name_of mentions))
    (among_different mention.name (map name_of mentions) (among_map name_of mention mentions is)) in
    let there : option_map name_of (slice_get (firsts mentions) place.0) ≡ Some mention.name =
    sym (slice_get-map name_of (firsts mentions) place.0)
    ∙ ap (λ l. slice_get l place.0) (sym (names_different [] mentions)) ∙ place.2 in
    let first = by (slice_get (firsts mentions) place.0) refl there in (
      place.0,
      place.1,
      first.0,
      first.1,
      first.2,
      firsts_within [] mentions first.0 (get_among (firsts mentions) place.0 first.0 first.1),
    )
  where
    by : (o : Option OwnedMention) {p : Option OwnedMention} → p ≡ o → option_map name_of o ≡ Some mention.name
        → (first : OwnedMention) × (p ≡ Some first) × (first.name ≡ mention.name)
    by None is some = absurd cc
    by (Some first) is some = (first, is, same_Some first.name mention.name some)

-- what the names say at a place
loc_said : (number : ℕ) (mentions : List OwnedMention) (n : ℕ) (mention : OwnedMention) → slice_get mentions n ≡ Some mention
    → (loc : LocName) × (slice_get (loc_names number mentions) n ≡ Some loc) × (loc.kind ≡ kind_by mention.kind)
    × (loc.class ≡ mention.class)
loc_said number [] n mention is = absurd cc
loc_said number (first ∷ mentions) zero mention is = (
  record { name = number; kind = kind_by first.kind; class = first.class },
  refl,
  ap (λ m. kind_by m.kind) (same_Some first mention is),
  ap (λ m. m.class) (same_Some first mention is),
)
loc_said number (first ∷ mentions) (suc n) mention is = loc_said (number + 1) mentions n mention is

num_said : (number : ℕ) (mentions : List OwnedMention) (n : ℕ) (mention : OwnedMention) → slice_get mentions n ≡ Some mention
    → (num : NumName) × (slice_get (num_names number mentions) n ≡ Some num) × (num.class ≡ mention.class)
num_said number [] n mention is = absurd cc
num_said number (first ∷ mentions) zero mention is =
    (record { name = number; class = first.class }, refl, ap (λ m. m.class) (same_Some first mention is))
num_said number (first ∷ mentions) (suc n) mention is = num_said (number + 1) mentions n mention is

-- THE NAMES ARE THOSE OF THE MENTIONS

loc_name_of : (parts : Trees) → loc_word parts ≡ map name_of (loc_mention parts)
loc_name_of nil = refl
loc_name_of (cons h nil) = refl
loc_name_of (cons h (cons k nil)) = refl
loc_name_of (cons h (cons k (cons n nil))) = by (is_kind k) n
  where
    by : (b : Bool) (n : Tree) → cond b (word_of n) [] ≡ map name_of (cond b (mention_by h k n) [])
    by true (word bytes from to) = refl
    by true (list parts from to) = refl
    by false n = refl
loc_name_of (cons h (cons k (cons n (cons m parts)))) = refl

num_name_of : (parts : Trees) → num_word parts ≡ map name_of (num_mention parts)
num_name_of nil = refl
num_name_of (cons h nil) = refl
num_name_of (cons h (cons k nil)) = refl
num_name_of (cons h (cons k (cons n nil))) = by (is_text "sto" k) n
  where
    by : (b : Bool) (n : Tree) → cond b (word_of n) [] ≡ map name_of (cond b (mention_by h k n) [])
    by true (word bytes from to) = refl
    by true (list parts from to) = refl
    by false n = refl
num_name_of (cons h (cons k (cons n (cons m parts)))) = refl

module _ (words : Trees → List (List ℕ)) (own : Trees → List OwnedMention) (same : (parts : Trees) → words parts ≡ map name_of
    (own parts)) where
  mutual
    names_gathered : (tree : Tree) → gathered words tree ≡ map name_of (gathered own tree)
    names_gathered (word bytes from to) = refl
    names_gathered (list parts from to) =
        ap₂ (λ l m. l ++ m) (all_names_gathered parts) (same parts)
        ∙ sym (map-append name_of (all_gathered own parts) (own parts))

    all_names_gathered : (trees : Trees) → all_gathered words trees ≡ map name_of (all_gathered own trees)
    all_names_gathered nil = refl
    all_names_gathered (cons tree trees) =
        ap₂ (λ l m. l ++ m) (names_gathered tree) (all_names_gathered trees)
        ∙ sym (map-append name_of (gathered own tree) (all_gathered own trees))

flat_names : (f : Tree → List (List ℕ)) (g : Tree → List OwnedMention) → ((tree : Tree) → f tree ≡ map name_of (g tree))
    → (trees : List Tree) → flat_map f trees ≡ map name_of (flat_map g trees)
flat_names f g each [] = refl
flat_names f g each (tree ∷ trees) =
    ap₂ (λ l m. l ++ m) (each tree) (flat_names f g each trees) ∙ sym (map-append name_of (g tree) (flat_map g trees))

deck_name : (line : Tree) → deck_loc line ≡ map name_of (deck_location line)
deck_name (word bytes from to) = refl
deck_name (list nil from to) = refl
deck_name (list (cons a nil) from to) = refl
deck_name (list (cons a (cons b nil)) from to) = refl
deck_name (list (cons a (cons b (cons loc rest))) from to) = names_gathered loc_word loc_mention loc_name_of loc

pub loc_names_are : (form : Tree) → loc_mentions form ≡ map name_of (all_locations form)
loc_names_are form =
    ap₂ (λ l m. l ++ m) (flat_names deck_loc deck_location deck_name (deck_lines form))
    (all_names_gathered loc_word loc_mention loc_name_of (body form))
    ∙ sym (map-append name_of (flat_map deck_location (deck_lines form)) (all_gathered loc_mention (body form)))

pub num_names_are : (form : Tree) → num_mentions form ≡ map name_of (all_numbers form)
num_names_are form = all_names_gathered num_word num_mention num_name_of (body form)

-- a kind by its word
pub kind_back : (bytes : List ℕ) → is_kind_word bytes ≡ true → kind_bytes (kind_by bytes) ≡ bytes
kind_back bytes is =
    by (bytes_eq bytes (codes "vloc")) (bytes_eq bytes (codes "iloc")) (bytes_eq bytes (codes "hloc")) (bytes_eq bytes
    (codes "mem"))
    refl refl refl refl is
  where
    by : (a b c d : Bool) → bytes_eq bytes (codes "vloc") ≡ a → bytes_eq bytes (codes "iloc") ≡ b
        → bytes_eq bytes (codes "hloc") ≡ c → bytes_eq bytes (codes "mem") ≡ d → (a || b || c || d) ≡ true
        → kind_bytes (cond a vloc (cond b iloc (cond c hloc mem))) ≡ bytes
    by true b c d v i h m is = sym ((bytes_eq-Decides bytes (codes "vloc")).0 v)
    by false true c d v i h m is = sym ((bytes_eq-Decides bytes (codes "iloc")).0 i)
    by false false true d v i h m is = sym ((bytes_eq-Decides bytes (codes "hloc")).0 h)
    by false false false true v i h m is = sym ((bytes_eq-Decides bytes (codes "mem")).0 m)
    by false false false false v i h m is = absurd cc

-- a location is mentioned by the word of a kind
abbrev KindWord : OwnedMention → Type 0
KindWord mention = is_kind_word mention.kind ≡ true

loc_kinds : (parts : Trees) (mention : OwnedMention) → Among mention (loc_mention parts) → KindWord mention
loc_kinds nil mention is = absurd is
loc_kinds (cons h nil) mention is = absurd is
loc_kinds (cons h (cons k nil)) mention is = absurd is
loc_kinds (cons h (cons k (cons n nil))) mention is = by k (is_kind k) refl n is
  where
    by : (k : Tree) (b : Bool) → is_kind k ≡ b → (n : Tree) → Among mention (cond b (mention_by h k n) []) → KindWord mention
    by k false kind n is = absurd is
    by k true kind (list parts from to) is = absurd is
    by (list parts a b) true kind (word bytes from to) is = absurd cc
    by (word other a b) true kind (word bytes from to) (inl is) = ap (λ m. is_kind_word m.kind) is ∙ kind
    by (word other a b) true kind (word bytes from to) (inr is) = absurd is
loc_kinds (cons h (cons k (cons n (cons m parts)))) mention is = absurd is

mutual
  gathered_kinds : (tree : Tree) (mention : OwnedMention) → Among mention (gathered loc_mention tree) → KindWord mention
  gathered_kinds (word bytes from to) mention is = absurd is
  gathered_kinds (list parts from to) mention is =
      ⊎_elim (λ one. all_gathered_kinds parts mention one) (λ one. loc_kinds parts mention one)
      (among_either mention (all_gathered loc_mention parts) (loc_mention parts) is)

  all_gathered_kinds : (trees : Trees) (mention : OwnedMention) → Among mention (all_gathered loc_mention trees) → KindWord mention
  all_gathered_kinds nil mention is = absurd is
  all_gathered_kinds (cons tree trees) mention is =
      ⊎_elim (λ one. gathered_kinds tree mention one) (λ one. all_gathered_kinds trees mention one)
      (among_either mention (gathered loc_mention tree) (all_gathered loc_mention trees) is)

deck_kinds : (lines : List Tree) (mention : OwnedMention) → Among mention (flat_map deck_location lines) → KindWord mention
deck_kinds [] mention is = absurd is
deck_kinds (line ∷ lines) mention is =
    ⊎_elim (λ one. by line one) (λ one. deck_kinds lines mention one)
    (among_either mention (deck_location line) (flat_map deck_location lines) is)
  where
    by : (line : Tree) → Among mention (deck_location line) → KindWord mention
    by (word bytes from to) one = absurd one
    by (list nil from to) one = absurd one
    by (list (cons a nil) from to) one = absurd one
    by (list (cons a (cons b nil)) from to) one = absurd one
    by (list (cons a (cons b (cons loc rest))) from to) one = gathered_kinds loc mention one

kinds_of_locations : (form : Tree) (mention : OwnedMention) → Among mention (all_locations form) → KindWord mention
kinds_of_locations form mention is =
    ⊎_elim (λ one. deck_kinds (deck_lines form) mention one) (λ one. all_gathered_kinds (body form) mention one)
    (among_either mention (flat_map deck_location (deck_lines form)) (all_gathered loc_mention (body form)) is)

-- THE NAMING OF A FORM

-- a mention of a location among mentions that agree has its number, its kind and its class
pub loc_mention_found : (form : Tree) (mentions : List OwnedMention) → Agree mentions → Within (all_locations form) mentions
    → (mention : OwnedMention) → Among mention (all_locations form) → IsLocMention (naming_of form) mention
loc_mention_found form mentions agree within mention is =
    let found = first_found mention (all_locations form) is in
    let said = loc_said 0 (firsts (all_locations form)) found.0 found.2 found.3 in
    let same = agree_two mentions agree found.2 mention (within found.2 found.5) (within mention is) found.4 in
    record {
      number = found.0;
      numbered = ap (λ l. position (bytes_eq mention.name) (different l)) (loc_names_are form) ∙ found.1;
      loc = said.0;
      is = said.1;
      same_kind = ap kind_bytes said.2 ∙ kind_back found.2.kind (kinds_of_locations form found.2 found.5) ∙ same.0;
      same_class = said.3 ∙ same.1;
    }

-- the same of stored numbers
pub num_mention_found : (form : Tree) (mentions : List OwnedMention) → Agree mentions → Within (all_numbers form) mentions
    → (mention : OwnedMention) → Among mention (all_numbers form) → IsNumMention (naming_of form) mention
num_mention_found form mentions agree within mention is =
    let found = first_found mention (all_numbers form) is in
    let said = num_said 0 (firsts (all_numbers form)) found.0 found.2 found.3 in
    let same = agree_two mentions agree found.2 mention (within found.2 found.5) (within mention is) found.4 in
    record {
      number = found.0;
      numbered = ap (λ l. position (bytes_eq mention.name) (different l)) (num_names_are form) ∙ found.1;
      num = said.0;
      is = said.1;
      same_class = said.2 ∙ same.1;
    }
