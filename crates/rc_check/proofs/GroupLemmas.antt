-- Groups of decks by their parts.
use Rattle.std.proofs.Common.{◌≡◌, ℕ, ◌<◌, ◌≤◌, ◌*◌, List, [], ◌∷◌, ◌++◌, length, get_or, refl, sym, ap, ◌∙◌, arith}
use Rattle.rc_base.specs.Tree.{Tree, Trees, nil, cons, word, list}
use Rattle.rc_form.specs.Form.{tree_of, trees_of, trees_in, packed}
use Rattle.rc_form.specs.declared.form.Form.{Form}
use Rattle.rc_form.specs.declared.form.Parts.{Parts}
use Rattle.rc_form.specs.declared.form.Form.TheVariants.{Atom as AtomOf, List as ListOf}
use Rattle.rc_form.specs.declared.form.Span.{Span}
use Rattle.rc_form.proofs.FormLemmas.{tree_of_atom, tree_of_list}
use Rattle.rc_check.specs.SecondParts.{attributes_of, attributes_below}
use Rattle.rc_check.specs.SecondNames.{written_faces, written_branches}
use Rattle.rc_check.specs.Groups.{faces_by, attributes_in}

-- two forms
pub two_forms : (forms : List Form) (first second : Form) → 2 ≤ length forms → length forms < 3 → first ≡ get_or forms 0 first
    → second ≡ get_or forms 1 second
    → forms ≡ first ∷ second ∷ []
two_forms [] first second some few is is' = absurd (omega (arith, some, few))
two_forms (a ∷ []) first second some few is is' = absurd (omega (arith, some, few))
two_forms (a ∷ b ∷ []) first second some few is is' = rw (is, is') refl
two_forms (a ∷ b ∷ c ∷ forms) first second some few is is' = absurd (omega (arith, some, few))

-- lists that aren't of the shape of a group have no attributes
short_attributes : (first : Tree) (from to : ℕ) → attributes_of (list (cons first nil) from to) ≡ []
short_attributes (word bytes from' to') from to = refl
short_attributes (list parts from' to') from to = refl

long_attributes : (first second third : Tree) (parts : Trees) (from to : ℕ)
    → attributes_of (list (cons first (cons second (cons third parts))) from to) ≡ []
long_attributes (word bytes from' to') (word bytes' start end) third parts from to = refl
long_attributes (word bytes from' to') (list branches start end) third parts from to = refl
long_attributes (list parts' from' to') second third parts from to = refl

plain_attributes : (first : Tree) (bytes : List ℕ) (from' to' from to : ℕ)
    → attributes_of (list (cons first (cons (word bytes from' to') nil)) from to) ≡ []
plain_attributes (word bytes' start end) bytes from' to' from to = refl
plain_attributes (list parts start end) bytes from' to' from to = refl

-- the tree of a list, and of a list of two
pub list_seen : (form : Form) (items : Parts) (span : Span) (forms : List Form) → form ≡ ListOf items span → trees_of forms
    ≡ trees_in items
    → tree_of form ≡ list (packed (trees_of forms)) span.from span.to
list_seen form items span forms is same = tree_of_list form items span is
    ∙ ap (λ trees. list (packed trees) span.from span.to) (sym same)

pub pair_seen : (form : Form) (items : Parts) (span : Span) (forms : List Form) (first second : Form) → form
    ≡ ListOf items span
    → trees_of forms ≡ trees_in items → 2 ≤ length forms → length forms < 3 → first ≡ get_or forms 0 first → second ≡ get_or forms 1 second
    → tree_of form ≡ list (cons (tree_of first) (cons (tree_of second) nil)) span.from span.to
pair_seen form items span forms first second is same some few is' is'' =
    list_seen form items span forms is same
    ∙ ap (λ parts. list (packed (trees_of parts)) span.from span.to) (two_forms forms first second some few is' is'')

-- the attributes of a list with fewer or more parts than a group, and of one whose parts are no group's
pub none_of_short : (forms : List Form) (from to : ℕ) → length forms < 2 → attributes_of (list (packed (trees_of forms)) from to)
    ≡ []
none_of_short [] from to lt = refl
none_of_short (a ∷ []) from to lt = short_attributes (tree_of a) from to
none_of_short (a ∷ b ∷ forms) from to lt = absurd (omega (arith, lt))

pub none_of_long : (forms : List Form) (from to : ℕ) → 2 < length forms → attributes_of (list (packed (trees_of forms)) from to)
    ≡ []
none_of_long [] from to lt = absurd (omega (arith, lt))
none_of_long (a ∷ []) from to lt = absurd (omega (arith, lt))
none_of_long (a ∷ b ∷ []) from to lt = absurd (omega (arith, lt))
none_of_long (a ∷ b ∷ c ∷ forms) from to lt = long_attributes (tree_of a) (tree_of b) (tree_of c)
    (packed (trees_of forms)) from to

pub none_of_lists : (first : Form) (items : Parts) (span : Span) (second : Form) (from to : ℕ) → first
    ≡ ListOf items span
    → attributes_of (list (cons (tree_of first) (cons (tree_of second) nil)) from to) ≡ []
none_of_lists first items span second from to is =
    ap (λ tree. attributes_of (list (cons tree (cons (tree_of second) nil)) from to)) (tree_of_list first items span is)

pub none_of_words : (first second : Form) (bytes : List ℕ) (span : Span) (from to : ℕ) → second ≡ AtomOf bytes span
    → attributes_of (list (cons (tree_of first) (cons (tree_of second) nil)) from to) ≡ []
none_of_words first second bytes span from to is =
    ap (λ tree. attributes_of (list (cons (tree_of first) (cons tree nil)) from to)) (tree_of_atom second bytes span is)
    ∙ plain_attributes (tree_of first) bytes span.from span.to from to

-- the attributes of a group
pub some_attributes : (first second : Form) (bytes : List ℕ) (span : Span) (items : Parts) (span' : Span) (from to : ℕ)
    → first ≡ AtomOf bytes span
    → second ≡ ListOf items span'
    → attributes_of (list (cons (tree_of first) (cons (tree_of second) nil)) from to)
    ≡ bytes ∷ attributes_below (packed (trees_in items))
some_attributes first second bytes span items span' from to is is' =
    ap (λ tree. attributes_of (list (cons tree (cons (tree_of second) nil)) from to)) (tree_of_atom first bytes span is)
    ∙ ap (λ tree. attributes_of (list (cons (word bytes span.from span.to) (cons tree nil)) from to))
    (tree_of_list second items span' is')

-- the faces of groups
pub faces_more : (tree : Tree) (groups : Trees) → written_faces (cons tree groups) ≡ faces_by tree * written_faces groups
faces_more (word bytes from to) groups = omega arith
faces_more (list nil from to) groups = omega arith
faces_more (list (cons attr nil) from to) groups = omega arith
faces_more (list (cons attr (cons (word bytes start end) nil)) from to) groups = omega arith
faces_more (list (cons attr (cons (list branches start end) nil)) from to) groups = refl
faces_more (list (cons attr (cons (word bytes start end) (cons third parts))) from to) groups = omega arith
faces_more (list (cons attr (cons (list branches start end) (cons third parts))) from to) groups = omega arith

-- the attributes in branches
pub below_more : (branch : Tree) (branches : Trees) → attributes_below (cons branch branches) ≡ attributes_in branch
    ++ attributes_below branches
below_more (word value from to) branches = refl
below_more (list groups from to) branches = refl

-- the faces that lists of fewer or more parts multiply by, and those whose parts are no group's
pub once_by_short : (forms : List Form) (from to : ℕ) → length forms < 2 → faces_by (list (packed (trees_of forms)) from to) ≡ 1
once_by_short [] from to lt = refl
once_by_short (a ∷ []) from to lt = refl
once_by_short (a ∷ b ∷ forms) from to lt = absurd (omega (arith, lt))

long_faces : (first second third : Tree) (parts : Trees) (from to : ℕ)
    → faces_by (list (cons first (cons second (cons third parts))) from to) ≡ 1
long_faces first (word bytes start end) third parts from to = refl
long_faces first (list branches start end) third parts from to = refl

pub once_by_long : (forms : List Form) (from to : ℕ) → 2 < length forms → faces_by (list (packed (trees_of forms)) from to) ≡ 1
once_by_long [] from to lt = absurd (omega (arith, lt))
once_by_long (a ∷ []) from to lt = absurd (omega (arith, lt))
once_by_long (a ∷ b ∷ []) from to lt = absurd (omega (arith, lt))
once_by_long (a ∷ b ∷ c ∷ forms) from to lt = long_faces (tree_of a) (tree_of b) (tree_of c) (packed (trees_of forms)) from to

-- the faces of a list of two parts, by the second
abbrev pub branches_by : Tree → ℕ
branches_by (word bytes from to) = 1
branches_by (list branches from to) = written_branches branches

pair_faces : (first second : Tree) (from to : ℕ) → faces_by (list (cons first (cons second nil)) from to) ≡ branches_by second
pair_faces first (word bytes start end) from to = refl
pair_faces first (list branches start end) from to = refl

pub pair_by : (forms : List Form) (second : Form) (from to : ℕ) → 2 ≤ length forms → length forms < 3 → second
    ≡ get_or forms 1 second
    → faces_by (list (packed (trees_of forms)) from to) ≡ branches_by (tree_of second)
pair_by [] second from to some few is = absurd (omega (arith, some, few))
pair_by (a ∷ []) second from to some few is = absurd (omega (arith, some, few))
pair_by (a ∷ b ∷ []) second from to some few is = pair_faces (tree_of a) (tree_of b) from to
    ∙ ap (λ form. branches_by (tree_of form)) (sym is)
pair_by (a ∷ b ∷ c ∷ forms) second from to some few is = absurd (omega (arith, some, few))
