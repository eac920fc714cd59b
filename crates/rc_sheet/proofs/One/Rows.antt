-- Rows of a grammar, taken apart: what holds of a list of a row's parts holds of each form that is such a row.
use Prim.Native.String.{String}
use Rattle.std.proofs.Common.{ℕ, sym, subst}
use Rattle.std.specs.Prelude.{codes}
use Rattle.rc_base.specs.Tree.{Tree, word, list, Trees, nil, cons}
use Rattle.rc_sheet_spec.specs.Rows.{◌▸◌, End, Row, Atom}

-- a row whose head is this word
pub behind_word : (text : String) (Rest : Trees → Type 0) (P : Tree → Type 0) (tree : Tree) → Row (Atom text ▸ Rest) tree
    → ((f t from to : ℕ) (parts : Trees) → Rest parts → P (list (cons (word (codes text) f t) parts) from to)) → P tree
behind_word text Rest P (word bytes from to) row each = absurd row
behind_word text Rest P (list nil from to) row each = absurd row
behind_word text Rest P (list (cons (list inner f t) parts) from to) row each = absurd row.0
behind_word text Rest P (list (cons (word bytes f t) parts) from to) row each =
    subst (λ b. P (list (cons (word b f t) parts) from to)) (sym row.0) (each f t from to parts row.1)

-- parts with a first one, with this word as the first, and no part
pub first_part : (First : Tree → Type 0) (Rest : Trees → Type 0) (P : Trees → Type 0) (parts : Trees) → (First ▸ Rest) parts
    → ((a : Tree) (rest : Trees) → First a → Rest rest → P (cons a rest)) → P parts
first_part First Rest P nil row each = absurd row
first_part First Rest P (cons a rest) row each = each a rest row.0 row.1

pub first_word : (text : String) (Rest : Trees → Type 0) (P : Trees → Type 0) (parts : Trees) → (Atom text ▸ Rest) parts
    → ((f t : ℕ) (rest : Trees) → Rest rest → P (cons (word (codes text) f t) rest)) → P parts
first_word text Rest P nil row each = absurd row
first_word text Rest P (cons (list inner f t) rest) row each = absurd row.0
first_word text Rest P (cons (word bytes f t) rest) row each =
    subst (λ b. P (cons (word b f t) rest)) (sym row.0) (each f t rest row.1)

pub no_part : (P : Trees → Type 0) (parts : Trees) → End parts → P nil → P parts
no_part P nil end is = is
no_part P (cons a rest) end is = absurd end

-- one part behind the head, two, and three
pub row_one : (text : String) (A : Tree → Type 0) (P : Tree → Type 0) (tree : Tree) → Row (Atom text ▸ A ▸ End) tree
    → ((f t from to : ℕ) (a : Tree) → A a → P (list (cons (word (codes text) f t) (cons a nil)) from to)) → P tree
row_one text A P tree row each =
    behind_word text (A ▸ End) P tree row
    (λ f t from to parts more. first_part A End (λ l. P (list (cons (word (codes text) f t) l) from to)) parts more
    (λ a rest here end. no_part (λ l. P (list (cons (word (codes text) f t) (cons a l)) from to)) rest end
    (each f t from to a here)))

pub row_two : (text : String) (A B : Tree → Type 0) (P : Tree → Type 0) (tree : Tree) → Row (Atom text ▸ A ▸ B ▸ End) tree
    → ((f t from to : ℕ) (a b : Tree) → A a → B b → P (list (cons (word (codes text) f t) (cons a (cons b nil))) from to))
    → P tree
row_two text A B P tree row each =
    behind_word text (A ▸ B ▸ End) P tree row
    (λ f t from to parts more. first_part A (B ▸ End) (λ l. P (list (cons (word (codes text) f t) l) from to)) parts more
    (λ a rest here more'. first_part B End (λ l. P (list (cons (word (codes text) f t) (cons a l)) from to)) rest more'
    (λ b rest' here' end. no_part (λ l. P (list (cons (word (codes text) f t) (cons a (cons b l))) from to)) rest' end
    (each f t from to a b here here'))))

pub row_three : (text : String) (A B C : Tree → Type 0) (P : Tree → Type 0) (tree : Tree)
    → Row (Atom text ▸ A ▸ B ▸ C ▸ End) tree
    → ((f t from to : ℕ) (a b c : Tree) → A a → B b → C c
    → P (list (cons (word (codes text) f t) (cons a (cons b (cons c nil)))) from to))
    → P tree
row_three text A B C P tree row each =
    behind_word text (A ▸ B ▸ C ▸ End) P tree row
    (λ f t from to parts more. first_part A (B ▸ C ▸ End) (λ l. P (list (cons (word (codes text) f t) l) from to)) parts more
    (λ a rest here more'. row_tail f t from to a rest more' here))
  where
    row_tail : (f t from to : ℕ) (a : Tree) (rest : Trees) → (B ▸ C ▸ End) rest → A a
        → P (list (cons (word (codes text) f t) (cons a rest)) from to)
    row_tail f t from to a nil more here = absurd more
    row_tail f t from to a (cons b nil) more here = absurd more.1
    row_tail f t from to a (cons b (cons c nil)) more here = each f t from to a b c here more.0 more.1.0
    row_tail f t from to a (cons b (cons c (cons d rest))) more here = absurd more.1.1

-- two words, alone and before a part
pub row_word : (text second : String) (P : Tree → Type 0) (tree : Tree) → Row (Atom text ▸ Atom second ▸ End) tree
    → ((f t f' t' from to : ℕ) → P (list (cons (word (codes text) f t) (cons (word (codes second) f' t') nil)) from to)) → P tree
row_word text second P tree row each =
    behind_word text (Atom second ▸ End) P tree row
    (λ f t from to parts more. first_word second End (λ l. P (list (cons (word (codes text) f t) l) from to)) parts more
    (λ f' t' rest end. no_part
    (λ l. P (list (cons (word (codes text) f t) (cons (word (codes second) f' t') l)) from to)) rest end
    (each f t f' t' from to)))

pub row_word_part : (text second : String) (A : Tree → Type 0) (P : Tree → Type 0) (tree : Tree)
    → Row (Atom text ▸ Atom second ▸ A ▸ End) tree
    → ((f t f' t' from to : ℕ) (a : Tree) → A a
    → P (list (cons (word (codes text) f t) (cons (word (codes second) f' t') (cons a nil))) from to)) → P tree
row_word_part text second A P tree row each =
    behind_word text (Atom second ▸ A ▸ End) P tree row
    (λ f t from to parts more. first_word second (A ▸ End) (λ l. P (list (cons (word (codes text) f t) l) from to)) parts more
    (λ f' t' rest more'. last_part f t f' t' from to rest more'))
  where
    last_part : (f t f' t' from to : ℕ) (rest : Trees) → (A ▸ End) rest
        → P (list (cons (word (codes text) f t) (cons (word (codes second) f' t') rest)) from to)
    last_part f t f' t' from to nil more = absurd more
    last_part f t f' t' from to (cons a nil) more = each f t f' t' from to a more.0
    last_part f t f' t' from to (cons a (cons b rest)) more = absurd more.1

-- a part behind the head, and what follows it
pub row_part : (text : String) (A : Tree → Type 0) (Rest : Trees → Type 0) (P : Tree → Type 0) (tree : Tree)
    → Row (Atom text ▸ A ▸ Rest) tree
    → ((f t from to : ℕ) (a : Tree) (parts : Trees) → A a → Rest parts
    → P (list (cons (word (codes text) f t) (cons a parts)) from to)) → P tree
row_part text A Rest P tree row each =
    behind_word text (A ▸ Rest) P tree row
    (λ f t from to parts more. first_part A Rest (λ l. P (list (cons (word (codes text) f t) l) from to)) parts more
    (λ a rest here more'. each f t from to a rest here more'))

-- two words, and what follows them
pub row_words : (text second : String) (Rest : Trees → Type 0) (P : Tree → Type 0) (tree : Tree)
    → Row (Atom text ▸ Atom second ▸ Rest) tree
    → ((f t f' t' from to : ℕ) (parts : Trees) → Rest parts
    → P (list (cons (word (codes text) f t) (cons (word (codes second) f' t') parts)) from to)) → P tree
row_words text second Rest P tree row each =
    behind_word text (Atom second ▸ Rest) P tree row
    (λ f t from to parts more. first_word second Rest (λ l. P (list (cons (word (codes text) f t) l) from to)) parts more
    (λ f' t' rest more'. each f t f' t' from to rest more'))

-- two parts
pub two_parts : (A B : Tree → Type 0) (P : Trees → Type 0) (parts : Trees) → (A ▸ B ▸ End) parts
    → ((a b : Tree) → A a → B b → P (cons a (cons b nil))) → P parts
two_parts A B P nil row each = absurd row
two_parts A B P (cons a nil) row each = absurd row.1
two_parts A B P (cons a (cons b nil)) row each = each a b row.0 row.1.0
two_parts A B P (cons a (cons b (cons c rest))) row each = absurd row.1.1

-- three parts
pub three_parts : (A B C : Tree → Type 0) (P : Tree → Type 0) (tree : Tree) → Row (A ▸ B ▸ C ▸ End) tree
    → ((a b c : Tree) (from to : ℕ) → A a → B b → C c → P (list (cons a (cons b (cons c nil))) from to)) → P tree
three_parts A B C P (word bytes from to) row each = absurd row
three_parts A B C P (list nil from to) row each = absurd row
three_parts A B C P (list (cons a nil) from to) row each = absurd row.1
three_parts A B C P (list (cons a (cons b nil)) from to) row each = absurd row.1.1
three_parts A B C P (list (cons a (cons b (cons c nil))) from to) row each = each a b c from to row.0 row.1.0 row.1.1.0
three_parts A B C P (list (cons a (cons b (cons c (cons d rest)))) from to) row each = absurd row.1.1.1
