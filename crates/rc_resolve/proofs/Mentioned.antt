-- What lists of three and of four parts mention.
use Rattle.std.proofs.Common.{◌≡◌, ℕ, ◌<◌, ◌≤◌, true, false, List, [], ◌∷◌, length, get_or, if◌then◌else◌, refl, ap, sym, ◌∙◌, arith}
use Rattle.std.specs.Prelude.{codes}
use Rattle.std.proofs.lemmas.Bool.{cond-true, cond-false}
use Rattle.std.proofs.lemmas.Slice.Eq.{bytes_eq-Decides}
use Rattle.rc_base.specs.Tree.{Tree, word, list}
use Rattle.rc_form.specs.declared.form.Form.{Form}
use Rattle.rc_form.specs.Form.{tree_of, trees_of, packed}
use Rattle.rc_sheet_spec.specs.FormMentions.{attr_word, word_of, is_text}
use Rattle.rc_check.specs.Faults.{is_form_word}
use Rattle.rc_check.specs.declared.keyword.Keyword.TheVariants as keyword
use Rattle.rc_check.specs.Classes.{class_at}
use Rattle.rc_check.specs.SecondParts.{bytes_of}
use Rattle.rc_resolve.specs.Mentions.{mention_by, num_mention}

-- the fixed words of two definitions are the same
is_word : (tree : Tree) → is_form_word keyword.Is tree ≡ is_text "is" tree
is_word (word bytes from to) = refl
is_word (list parts from to) = refl

sto_word : (tree : Tree) → is_form_word keyword.Sto tree ≡ is_text "sto" tree
sto_word (word bytes from to) = refl
sto_word (list parts from to) = refl

sto_bytes : (tree : Tree) → is_text "sto" tree ≡ true → bytes_of tree ≡ codes "sto"
sto_bytes (word bytes from to) is = (bytes_eq-Decides bytes (codes "sto")).0 is
sto_bytes (list parts from to) is = absurd cc

attr_at : (forms : List Form) (head attr : Form) → 4 ≤ length forms → length forms < 5 → head ≡ get_or forms 0 head
    → attr ≡ get_or forms 2 attr
    → attr_word (packed (trees_of forms)) ≡ (if is_text "is" (tree_of head) then word_of (tree_of attr) else [])
attr_at [] head attr least most is-head is-attr = absurd (omega arith)
attr_at (a ∷ []) head attr least most is-head is-attr = absurd (omega arith)
attr_at (a ∷ b ∷ []) head attr least most is-head is-attr = absurd (omega arith)
attr_at (a ∷ b ∷ c ∷ []) head attr least most is-head is-attr = absurd (omega arith)
attr_at (a ∷ b ∷ c ∷ d ∷ []) head attr least most is-head is-attr = rw (is-head, is-attr) refl
attr_at (a ∷ b ∷ c ∷ d ∷ e ∷ es) head attr least most is-head is-attr = absurd (omega arith)

-- an attribute in a test for a value
pub attr_four : (forms : List Form) (head attr : Form) → 4 ≤ length forms → length forms < 5 → head ≡ get_or forms 0 head
    → attr ≡ get_or forms 2 attr → true ≡ is_form_word keyword.Is (tree_of head)
    → attr_word (packed (trees_of forms)) ≡ word_of (tree_of attr)
attr_four forms head attr least most is-head is-attr is =
    attr_at forms head attr least most is-head is-attr ∙ cond-true _ _ _ (sym (is_word (tree_of head)) ∙ sym is)

pub attr_four-none : (forms : List Form) (head attr : Form) → 4 ≤ length forms → length forms < 5 → head ≡ get_or forms 0 head
    → attr ≡ get_or forms 2 attr → false ≡ is_form_word keyword.Is (tree_of head) → attr_word (packed (trees_of forms)) ≡ []
attr_four-none forms head attr least most is-head is-attr is =
    attr_at forms head attr least most is-head is-attr ∙ cond-false _ _ _ (sym (is_word (tree_of head)) ∙ sym is)

num_at : (forms : List Form) (holder kind name : Form) → 3 ≤ length forms → length forms < 4 → holder ≡ get_or forms 0 holder
    → kind ≡ get_or forms 1 kind → name ≡ get_or forms 2 name
    → num_mention (packed (trees_of forms))
    ≡ (if is_text "sto" (tree_of kind) then mention_by (tree_of holder) (tree_of kind) (tree_of name) else [])
num_at [] holder kind name least most is-holder is-kind is-name = absurd (omega arith)
num_at (a ∷ []) holder kind name least most is-holder is-kind is-name = absurd (omega arith)
num_at (a ∷ b ∷ []) holder kind name least most is-holder is-kind is-name = absurd (omega arith)
num_at (a ∷ b ∷ c ∷ []) holder kind name least most is-holder is-kind is-name = rw (is-holder, is-kind, is-name) refl
num_at (a ∷ b ∷ c ∷ d ∷ ds) holder kind name least most is-holder is-kind is-name = absurd (omega arith)

-- a mention by an atom
mention_word : (holder kind name : Tree) (bytes : List ℕ) → bytes ∷ [] ≡ word_of name
    → mention_by holder kind name ≡ record { name = bytes; kind = bytes_of kind; class = class_at holder } ∷ []
mention_word holder kind (word other from to) bytes is =
    ap (λ words. record { name = get_or words 0 other; kind = bytes_of kind; class = class_at holder } ∷ []) (sym is)
mention_word holder kind (list parts from to) bytes is = absurd cc

-- a stored number
pub num_three : (forms : List Form) (holder kind name : Form) (bytes : List ℕ) → 3 ≤ length forms → length forms < 4
    → holder ≡ get_or forms 0 holder → kind ≡ get_or forms 1 kind → name ≡ get_or forms 2 name
    → true ≡ is_form_word keyword.Sto (tree_of kind) → bytes ∷ [] ≡ word_of (tree_of name)
    → num_mention (packed (trees_of forms)) ≡ record { name = bytes; kind = codes "sto"; class = class_at (tree_of holder) } ∷ []
num_three forms holder kind name bytes least most is-holder is-kind is-name sto is =
    let told : is_text "sto" (tree_of kind) ≡ true = sym (sto_word (tree_of kind)) ∙ sym sto in
    num_at forms holder kind name least most is-holder is-kind is-name
    ∙ cond-true _ _ _ told
    ∙ mention_word (tree_of holder) (tree_of kind) (tree_of name) bytes is
    ∙ ap (λ word. record { name = bytes; kind = word; class = class_at (tree_of holder) } ∷ []) (sto_bytes (tree_of kind) told)
