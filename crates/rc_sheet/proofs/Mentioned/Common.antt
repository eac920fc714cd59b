-- What a part of a sheet mentions are the words that its form mentions, in order: of one kind of names, whichever it is.
use Prim.Native.String.{String}
use Rattle.std.proofs.Common.{◌≡◌, ℕ, nat_le, Bool, true, false, if◌then◌else◌, not, ◌&&◌, ◌||◌, List, [], ◌++◌, map, flat_map, codes, slice_index_or, refl, sym, subst, ap, ap₂, ◌∙◌, append_assoc}
use Rattle.std.proofs.lemmas.Bool.{cond-false, and_parts, false≢true, or_parts}
use Rattle.std.proofs.lemmas.List.{append-nil, map-append}
use Rattle.std.proofs.lemmas.Grind.{flat_map-append}
use Rattle.rc_base.specs.Tree.{Tree, word, list, Trees, nil, cons}
use Rattle.rc_sheet_spec.specs.Sheet.{Names}
use Rattle.rc_sheet_spec.specs.Mentions.{Mention, attr_of, value_of, map_of, loc_of, num_of, var_of}
use Rattle.rc_sheet_spec.specs.FormMentions.{is_kind, word_of, gathered, all_gathered, loc_word, num_word, is_measure, map_word, attr_word, value_word, is_binder, var_words, bound_words, all_var_words, is_text}
use Rattle.rc_sheet_spec.specs.Rows.{◌▸◌, End, AtLeast, Row, Word, Atom}

-- the six kinds of names
pub data Kind : Type 0 where
  attrs : Kind
  values : Kind
  maps : Kind
  locs : Kind
  nums : Kind
  vars : Kind

-- the numbers that a mention says of a kind, and the words of that kind
abbrev pub of_kind : Kind → Mention → List ℕ
of_kind attrs = attr_of
of_kind values = value_of
of_kind maps = map_of
of_kind locs = loc_of
of_kind nums = num_of
of_kind vars = var_of

abbrev pub names_in : Kind → Names → List (List ℕ)
names_in attrs names = names.attrs
names_in values names = names.values
names_in maps names = names.maps
names_in locs names = names.locs
names_in nums names = names.nums
names_in vars names = names.vars

-- the words that mentions say
abbrev pub said : Kind → Names → List Mention → List (List ℕ)
said kind names mentions = map (λ n. slice_index_or (names_in kind names) n []) (flat_map (of_kind kind) mentions)

-- the words that a form mentions, and that parts do
abbrev pub words_in : Kind → Tree → List (List ℕ)
words_in attrs tree = gathered attr_word tree
words_in values tree = gathered value_word tree
words_in maps tree = gathered map_word tree
words_in locs tree = gathered loc_word tree
words_in nums tree = gathered num_word tree
words_in vars tree = var_words tree

abbrev pub all_words_in : Kind → Trees → List (List ℕ)
all_words_in attrs trees = all_gathered attr_word trees
all_words_in values trees = all_gathered value_word trees
all_words_in maps trees = all_gathered map_word trees
all_words_in locs trees = all_gathered loc_word trees
all_words_in nums trees = all_gathered num_word trees
all_words_in vars trees = all_var_words trees

-- what a list of these parts mentions itself, behind its parts; a variable is mentioned where it stands
abbrev pub own : Kind → Trees → List (List ℕ)
own attrs parts = attr_word parts
own values parts = value_word parts
own maps parts = map_word parts
own locs parts = loc_word parts
own nums parts = num_word parts
own vars parts = []

-- one behind the other
pub said-append : (kind : Kind) (names : Names) (xs ys : List Mention)
    → said kind names (xs ++ ys) ≡ said kind names xs ++ said kind names ys
said-append kind names xs ys =
    ap (map (λ n. slice_index_or (names_in kind names) n [])) (flat_map-append (of_kind kind) xs ys)
    ∙ map-append (λ n. slice_index_or (names_in kind names) n []) (flat_map (of_kind kind) xs) (flat_map (of_kind kind) ys)

-- an atom mentions nothing itself
pub words_in-word : (kind : Kind) (bytes : List ℕ) (from to : ℕ) → words_in kind (word bytes from to) ≡ []
words_in-word values bytes from to = refl
words_in-word kind bytes from to = refl

-- no part mentions nothing
pub all_words_in-nil : (kind : Kind) → all_words_in kind nil ≡ []
all_words_in-nil values = refl
all_words_in-nil kind = refl

-- the first part, and the others
pub all_words_in-cons : (kind : Kind) (tree : Tree) (trees : Trees)
    → all_words_in kind (cons tree trees) ≡ words_in kind tree ++ all_words_in kind trees
all_words_in-cons values tree trees = refl
all_words_in-cons kind tree trees = refl

-- where no variable is bound, variables stand in the parts
bound_words-plain : (head : Tree) (rest : Trees) → is_binder head ≡ false
    → bound_words (cons head rest) ≡ all_var_words (cons head rest)
bound_words-plain head nil no_binder = sym (append-nil (var_words head))
bound_words-plain head (cons tree nil) no_binder = ap (λ words. var_words head ++ words) (sym (append-nil (var_words tree)))
bound_words-plain head (cons domain (cons var rest)) no_binder =
    let stands : List (List ℕ) = if is_binder head then word_of var else var_words var in
    let unbound : stands ≡ var_words var = cond-false _ _ _ no_binder in
    append_assoc (var_words head ++ var_words domain) stands (all_var_words rest)
    ∙ ap (λ words. var_words head ++ var_words domain ++ (words ++ all_var_words rest)) unbound
    ∙ append_assoc (var_words head) (var_words domain) (var_words var ++ all_var_words rest)

-- what a list mentions
pub words_in-list : (kind : Kind) (head : Tree) (rest : Trees) (from to : ℕ) → is_binder head ≡ false
    → words_in kind (list (cons head rest) from to) ≡ all_words_in kind (cons head rest) ++ own kind (cons head rest)
words_in-list attrs head rest from to no_binder = refl
words_in-list values head rest from to no_binder = refl
words_in-list maps head rest from to no_binder = refl
words_in-list locs head rest from to no_binder = refl
words_in-list nums head rest from to no_binder = refl
words_in-list vars head rest from to no_binder =
    bound_words-plain head rest no_binder ∙ sym (append-nil (all_var_words (cons head rest)))

-- what is said of a part are its words
pub record Says (kind : Kind) (names : Names) (mentions : List Mention) (tree : Tree) : Type 0 where
  pub same : said kind names mentions ≡ words_in kind tree

pub record SayAll (kind : Kind) (names : Names) (mentions : List Mention) (trees : Trees) : Type 0 where
  pub same : said kind names mentions ≡ all_words_in kind trees

-- parts behind one that says nothing, behind an atom, and behind one that says something
pub behind_silent : (kind : Kind) (names : Names) (ns : List Mention) (tree : Tree) (trees : Trees) → words_in kind tree ≡ []
    → SayAll kind names ns trees → SayAll kind names ns (cons tree trees)
behind_silent kind names ns tree trees silent later =
    record {
      same =
          later.same
          ∙ ap (λ words. words ++ all_words_in kind trees) (sym silent)
          ∙ sym (all_words_in-cons kind tree trees);
    }

pub behind_word : (kind : Kind) (names : Names) (ns : List Mention) (bytes : List ℕ) (from to : ℕ) (trees : Trees)
    → SayAll kind names ns trees → SayAll kind names ns (cons (word bytes from to) trees)
behind_word kind names ns bytes from to trees =
    behind_silent kind names ns (word bytes from to) trees (words_in-word kind bytes from to)

pub behind_part : (kind : Kind) (names : Names) (ms ns : List Mention) (tree : Tree) (trees : Trees) → Says kind names ms tree
    → SayAll kind names ns trees → SayAll kind names (ms ++ ns) (cons tree trees)
behind_part kind names ms ns tree trees first later =
    record {
      same = said-append kind names ms ns ∙ ap₂ ◌++◌ (first.same) (later.same) ∙ sym (all_words_in-cons kind tree trees);
    }

-- no part
pub no_part : (kind : Kind) (names : Names) → SayAll kind names [] nil
no_part kind names = record { same = sym (all_words_in-nil kind) }

-- an atom says nothing
pub text_silent : (kind : Kind) (W : List ℕ → Type 0) (tree : Tree) → Word W tree → words_in kind tree ≡ []
text_silent kind W (word bytes from to) is = words_in-word kind bytes from to
text_silent kind W (list parts from to) is = absurd is

-- a part says what it says, with nothing behind it
pub alone : (kind : Kind) (names : Names) (ms : List Mention) (trees : Trees) → SayAll kind names (ms ++ []) trees
    → SayAll kind names ms trees
alone kind names ms trees all = record { same = ap (said kind names) (sym (append-nil ms)) ∙ all.same }

-- the part is the word of a kind of locations, or that of stored numbers
abbrev pub is_sort_word : Tree → Bool
is_sort_word tree = is_kind tree || is_text "sto" tree

-- A form of this description says what is mentioned, and is no such word.
pub record Speaks (kind : Kind) (names : Names) (P : Tree → Type 0) (mentions : List Mention) : Type 0 where
  pub says : (tree : Tree) → P tree → Says kind names mentions tree
  pub other : (tree : Tree) → P tree → is_sort_word tree ≡ false

-- parts of this description say what is mentioned
pub record Speak (kind : Kind) (names : Names) (P : Trees → Type 0) (mentions : List Mention) : Type 0 where
  pub says : (trees : Trees) → P trees → SayAll kind names mentions trees

-- no part says nothing
pub end_speaks : {kind : Kind} {names : Names} → Speak kind names End []
end_speaks {kind} {names} = record { says = end_says }
  where
    end_says : (trees : Trees) → End trees → SayAll kind names [] trees
    end_says nil at_end = no_part kind names
    end_says (cons tree trees) at_end = absurd at_end

-- a part, and parts behind it
pub then_speak : {kind : Kind} {names : Names} {P : Tree → Type 0} {Q : Trees → Type 0} {ms ns : List Mention}
    → Speaks kind names P ms → Speak kind names Q ns → Speak kind names (P ▸ Q) (ms ++ ns)
then_speak {kind} {names} {P} {Q} {ms} {ns} first later = record { says = both_say }
  where
    both_say : (trees : Trees) → (P ▸ Q) trees → SayAll kind names (ms ++ ns) trees
    both_say nil stand = absurd stand
    both_say (cons tree trees) stand =
        behind_part kind names ms ns tree trees (first.says tree stand.0) (later.says trees stand.1)

-- the last part
pub last_speaks : {kind : Kind} {names : Names} {P : Tree → Type 0} {ms : List Mention}
    → Speaks kind names P ms → Speak kind names (P ▸ End) ms
last_speaks {kind} {names} {P} {ms} last =
    record { says = λ trees stand. alone kind names ms trees ((then_speak last end_speaks).says trees stand) }

-- an atom, whatever it is, and parts behind it
pub atom_then : {kind : Kind} {names : Names} {W : List ℕ → Type 0} {Q : Trees → Type 0} {ns : List Mention}
    → Speak kind names Q ns → Speak kind names (Word W ▸ Q) ns
atom_then {kind} {names} {W} {Q} {ns} later = record { says = both_say }
  where
    both_say : (trees : Trees) → (Word W ▸ Q) trees → SayAll kind names ns trees
    both_say nil stand = absurd stand
    both_say (cons tree trees) stand =
        behind_silent kind names ns tree trees (text_silent kind W tree stand.0) (later.says trees stand.1)

-- so many parts at least
pub at_least_speak : {kind : Kind} {names : Names} {P : Trees → Type 0} {ms : List Mention}
    (least : ℕ) → Speak kind names P ms → Speak kind names (AtLeast least P) ms
at_least_speak {kind} {names} {P} {ms} least all = record { says = λ trees stand. all.says trees stand.1 }

-- What a head tells of its list: whether a point map, an attribute, an attribute and a value, or a variable are mentioned.
pub record IsHead (measure attr is binder : Bool) (head : Tree) : Type 0 where
  pub of_map : is_measure head ≡ measure
  pub of_attr : (is_text "attr" head || is_text "partition" head) ≡ attr
  pub of_value : is_text "is" head ≡ is
  pub of_var : is_binder head ≡ binder

-- that an atom with this text tells so, as a test
abbrev pub same : Bool → Bool → Bool
same true b = b
same false b = not b

abbrev pub tells : Bool → Bool → Bool → Bool → String → Bool
tells measure attr is binder text =
    same measure (is_measure (word (codes text) 0 0))
    && (same attr (is_text "attr" (word (codes text) 0 0) || is_text "partition" (word (codes text) 0 0))
    && (same is (is_text "is" (word (codes text) 0 0)) && same binder (is_binder (word (codes text) 0 0))))

-- it is so where the test says so
same_is : (a b : Bool) → same a b ≡ true → b ≡ a
same_is true b is = is
same_is false true is = absurd cc
same_is false false is = refl

-- the atom with this text
pub head_at : {measure attr is binder : Bool} (text : String) (head : Tree) → Atom text head
    → tells measure attr is binder text ≡ true → IsHead measure attr is binder head
head_at {measure} {attr} {is} {binder} text (word bytes from to) stands told =
    let first = and_parts _ _ told in
    let second = and_parts _ _ first.1 in
    let third = and_parts _ _ second.1 in
    subst (λ b. IsHead measure attr is binder (word b from to)) (sym stands)
    (record {
      of_map = same_is measure _ first.0;
      of_attr = same_is attr _ second.0;
      of_value = same_is is _ third.0;
      of_var = same_is binder _ third.1;
    })
head_at text (list parts from to) stands told = absurd stands

abbrev pub IsPlain : Tree → Type 0
IsPlain head = IsHead false false false false head

-- no word of a kind of locations, and not that of stored numbers
pub no_kind : (tree : Tree) → is_sort_word tree ≡ false → is_kind tree ≡ false
no_kind tree other = (or_parts (is_kind tree) (is_text "sto" tree) other).0

pub no_number : (tree : Tree) → is_sort_word tree ≡ false → is_text "sto" tree ≡ false
no_number tree other = (or_parts (is_kind tree) (is_text "sto" tree) other).1

-- what a list mentions itself whose head tells nothing, and whose second part is no word of a kind
pub own-plain : (kind : Kind) (binder : Bool) (head second : Tree) (rest : Trees) → IsHead false false false binder head
    → is_sort_word second ≡ false → own kind (cons head (cons second rest)) ≡ []
own-plain attrs binder head second nil told other = refl
own-plain attrs binder head second (cons third nil) told other = cond-false _ _ _ told.of_attr
own-plain attrs binder head second (cons third (cons fourth nil)) told other = cond-false _ _ _ told.of_value
own-plain attrs binder head second (cons third (cons fourth (cons fifth rest))) told other = refl
own-plain values binder head second nil told other = refl
own-plain values binder head second (cons third nil) told other = refl
own-plain values binder head second (cons third (cons fourth nil)) told other = cond-false _ _ _ told.of_value
own-plain values binder head second (cons third (cons fourth (cons fifth rest))) told other = refl
own-plain maps binder head second nil told other = refl
own-plain maps binder head second (cons third nil) told other = refl
own-plain maps binder head second (cons third (cons fourth nil)) told other = cond-false _ _ _ told.of_map
own-plain maps binder head second (cons third (cons fourth (cons fifth rest))) told other = refl
own-plain locs binder head second nil told other = refl
own-plain locs binder head second (cons third nil) told other = cond-false _ _ _ (no_kind second other)
own-plain locs binder head second (cons third (cons fourth rest)) told other = refl
own-plain nums binder head second nil told other = refl
own-plain nums binder head second (cons third nil) told other = cond-false _ _ _ (no_number second other)
own-plain nums binder head second (cons third (cons fourth rest)) told other = refl
own-plain vars binder head second rest told other = refl

-- the form is a list, and so no word
pub row_other : (P : Trees → Type 0) (tree : Tree) → Row P tree → is_sort_word tree ≡ false
row_other P (word bytes from to) stands = absurd stands
row_other P (list parts from to) stands = refl

-- a list whose head tells nothing says what its parts say
plain_says : {kind : Kind} {names : Names} {ms : List Mention} (head second : Tree) (rest : Trees) (from to : ℕ) (text : String)
    → tells false false false false text ≡ true → Atom text head → is_sort_word second ≡ false
    → SayAll kind names ms (cons second rest) → Says kind names ms (list (cons head (cons second rest)) from to)
plain_says {kind} {names} {ms} head second rest from to text nothing is other parts =
    let told : IsPlain head = head_at text head is nothing in
    let silent : words_in kind head ≡ [] = text_silent kind _ head is in
    let behind = behind_silent kind names ms head (cons second rest) silent parts in
    let itself = own-plain kind false head second rest told other in
    record {
      same =
          behind.same
          ∙ sym (append-nil (all_words_in kind (cons head (cons second rest))))
          ∙ ap (λ words. all_words_in kind (cons head (cons second rest)) ++ words) (sym itself)
          ∙ sym (words_in-list kind head (cons second rest) from to told.of_var);
    }

-- by its description
pub plain_speaks : {kind : Kind} {names : Names} {First : Tree → Type 0} {Rest : Trees → Type 0} {ms : List Mention}
    (text : String) → tells false false false false text ≡ true → ((tree : Tree) → First tree → is_sort_word tree ≡ false)
    → Speak kind names (First ▸ Rest) ms → Speaks kind names (Row (Atom text ▸ First ▸ Rest)) ms
plain_speaks {kind} {names} {First} {Rest} {ms} text nothing other parts = record { says = list_says; other = row_other _ }
  where
    list_says : (tree : Tree) → Row (Atom text ▸ First ▸ Rest) tree → Says kind names ms tree
    list_says (word bytes from to) stands = absurd stands
    list_says (list nil from to) stands = absurd stands
    list_says (list (cons head nil) from to) stands = absurd stands.1
    list_says (list (cons head (cons second rest)) from to) stands =
        plain_says head second rest from to text nothing stands.0 (other second stands.1.0)
        (parts.says (cons second rest) stands.1)

-- Parts of this description say what is mentioned, and the first of them is no word of a kind.
pub record SpeakFirst (kind : Kind) (names : Names) (P : Trees → Type 0) (mentions : List Mention) : Type 0 where
  pub all : Speak kind names P mentions
  pub other : (tree : Tree) (trees : Trees) → P (cons tree trees) → is_sort_word tree ≡ false

-- no part, and one part before others
pub none_speak : {kind : Kind} {names : Names} → SpeakFirst kind names End []
none_speak = record { all = end_speaks; other = λ tree trees stand. absurd stand }

pub more_speak : {kind : Kind} {names : Names} {P : Tree → Type 0} {Q : Trees → Type 0} {ms ns : List Mention}
    → Speaks kind names P ms → SpeakFirst kind names Q ns → SpeakFirst kind names (P ▸ Q) (ms ++ ns)
more_speak first later =
    record { all = then_speak first later.all; other = λ tree trees stand. first.other tree stand.0 }

-- a form whose head tells nothing, and that has so many parts behind it
pub parts_speak : {kind : Kind} {names : Names} {P : Trees → Type 0} {ms : List Mention} (text : String) (least : ℕ)
    → tells false false false false text ≡ true → nat_le least 0 ≡ false → SpeakFirst kind names P ms
    → Speaks kind names (Row (Atom text ▸ AtLeast least P)) ms
parts_speak {kind} {names} {P} {ms} text least nothing some parts = record { says = list_says; other = row_other _ }
  where
    list_says : (tree : Tree) → Row (Atom text ▸ AtLeast least P) tree → Says kind names ms tree
    list_says (word bytes from to) stands = absurd stands
    list_says (list nil from to) stands = absurd stands
    list_says (list (cons head nil) from to) stands = absurd (false≢true (sym some ∙ stands.1.0))
    list_says (list (cons head (cons second rest)) from to) stands =
        plain_says head second rest from to text nothing stands.0 (parts.other second rest stands.1.1)
        (parts.all.says (cons second rest) stands.1.1)
