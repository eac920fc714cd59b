-- At most one form of a place has a head and a word behind it.
use Rattle.std.proofs.Common.{◌≡◌, ℕ, ◌≤◌, Bool, true, false, not, cond, ◌&&◌, ◌||◌, ⊎_elim, List, [], ◌∷◌, length, Option, Some, None, is_none, bytes_eq, refl, sym, ap, ◌∙◌, subst, arith}
use Rattle.std.specs.List.{filter, list_all}
use Rattle.std.proofs.lemmas.Bool.{false_from_ne_true, and_parts, or_cases}
use Rattle.std.proofs.lemmas.Slice.Eq.{bytes_eq-Decides}
use Rattle.rc_base.specs.Tree.{Tree, word, list, Trees, nil, cons}
use Rattle.rc_check.specs.Keyword.{text_of}
use Rattle.rc_check.specs.Grammar.{forms_of, front_of}
use Rattle.rc_check.specs.Faults.{atom_kind, may_begin, fits_head, begins, is_form_word, is_told, second_word, told_forms, plain_forms}
use Rattle.rc_check.specs.declared.keyword.Keyword.{Keyword}
use Rattle.rc_check.specs.declared.grammar.Symbol.{Symbol}
use Rattle.rc_check.specs.declared.grammar.Symbol.TheVariants as symbol
use Rattle.rc_check.specs.declared.grammar.Rule.{Rule}

-- what a list may begin with where this is the place of its first part: a fixed word, a holder, or any part
data Opening : Type 0 where
  fixed : Keyword → Opening
  owner : Opening
  other : Opening

abbrev opening : Symbol → Opening
opening (symbol.Word keyword) = fixed keyword
opening symbol.Holder = owner
opening symbol.Kind = other
opening symbol.Best = other
opening symbol.Name = other
opening symbol.Variable = other
opening symbol.PlayerCount = other
opening symbol.Member = other
opening symbol.Points = other
opening symbol.Sheet = other
opening symbol.Setup = other
opening symbol.Line = other
opening symbol.Team = other
opening symbol.Deck = other
opening symbol.Group = other
opening symbol.Branches = other
opening symbol.Branch = other
opening symbol.Entries = other
opening symbol.Entry = other
opening symbol.Values = other
opening symbol.Scoring = other
opening symbol.Item = other
opening symbol.End = other
opening symbol.Alternative = other
opening symbol.Domain = other
opening symbol.Effect = other
opening symbol.Spot = other
opening symbol.Location = other
opening symbol.Counter = other
opening symbol.Owner = other
opening symbol.Player = other
opening symbol.Card = other
opening symbol.Collection = other
opening symbol.Members = other
opening symbol.Integer = other
opening symbol.Test = other
opening symbol.Side = other

abbrev Opens : Opening → Tree → Type 0
Opens (fixed keyword) head = is_form_word keyword head ≡ true
Opens owner (word bytes from to) = is_none (atom_kind symbol.Holder bytes) ≡ true
Opens owner (list parts from to) = Unit {0}
Opens other head = Unit {0}

opens : (p : Symbol) (head : Tree) → may_begin p head ≡ true → Opens (opening p) head
opens (symbol.Word keyword) head is = is
opens symbol.Holder (word bytes from to) is = is
opens symbol.Holder (list parts from to) is = tt
opens symbol.Kind head is = tt
opens symbol.Best head is = tt
opens symbol.Name head is = tt
opens symbol.Variable head is = tt
opens symbol.PlayerCount head is = tt
opens symbol.Member head is = tt
opens symbol.Points head is = tt
opens symbol.Sheet head is = tt
opens symbol.Setup head is = tt
opens symbol.Line head is = tt
opens symbol.Team head is = tt
opens symbol.Deck head is = tt
opens symbol.Group head is = tt
opens symbol.Branches head is = tt
opens symbol.Branch head is = tt
opens symbol.Entries head is = tt
opens symbol.Entry head is = tt
opens symbol.Values head is = tt
opens symbol.Scoring head is = tt
opens symbol.Item head is = tt
opens symbol.End head is = tt
opens symbol.Alternative head is = tt
opens symbol.Domain head is = tt
opens symbol.Effect head is = tt
opens symbol.Spot head is = tt
opens symbol.Location head is = tt
opens symbol.Counter head is = tt
opens symbol.Owner head is = tt
opens symbol.Player head is = tt
opens symbol.Card head is = tt
opens symbol.Collection head is = tt
opens symbol.Members head is = tt
opens symbol.Integer head is = tt
opens symbol.Test head is = tt
opens symbol.Side head is = tt

-- no part opens both
abbrev openings_apart : Opening → Opening → Bool
openings_apart (fixed a) (fixed b) = not (bytes_eq (text_of a) (text_of b))
openings_apart (fixed a) owner = not (is_none (atom_kind symbol.Holder (text_of a)))
openings_apart (fixed a) other = false
openings_apart owner (fixed b) = not (is_none (atom_kind symbol.Holder (text_of b)))
openings_apart owner owner = false
openings_apart owner other = false
openings_apart other p = false

not_both : (b : Bool) → not b ≡ true → b ≡ true → ⊥
not_both true is holds = absurd cc
not_both false is holds = absurd cc

two_words : (a b : Keyword) (bytes : List ℕ) → not (bytes_eq (text_of a) (text_of b)) ≡ true
    → bytes_eq bytes (text_of a) ≡ true → bytes_eq bytes (text_of b) ≡ true → ⊥
two_words a b bytes apart is_a is_b =
    not_both _ apart ((bytes_eq-Decides (text_of a) (text_of b)).1
    (sym ((bytes_eq-Decides bytes (text_of a)).0 is_a) ∙ (bytes_eq-Decides bytes (text_of b)).0 is_b))

word_and_owner : (a : Keyword) (bytes : List ℕ) → not (is_none (atom_kind symbol.Holder (text_of a))) ≡ true
    → bytes_eq bytes (text_of a) ≡ true → is_none (atom_kind symbol.Holder bytes) ≡ true → ⊥
word_and_owner a bytes apart is_a is_owner =
    not_both _ apart (subst (λ bytes. is_none (atom_kind symbol.Holder bytes) ≡ true) ((bytes_eq-Decides bytes (text_of a)).0 is_a) is_owner)

never_both : (p q : Opening) (head : Tree) → openings_apart p q ≡ true → Opens p head → Opens q head → ⊥
never_both (fixed a) (fixed b) (word bytes from to) apart first second = two_words a b bytes apart first second
never_both (fixed a) (fixed b) (list parts from to) apart first second = absurd cc
never_both (fixed a) owner (word bytes from to) apart first second = word_and_owner a bytes apart first second
never_both (fixed a) owner (list parts from to) apart first second = absurd cc
never_both (fixed a) other head apart first second = absurd cc
never_both owner (fixed b) (word bytes from to) apart first second = word_and_owner b bytes apart second first
never_both owner (fixed b) (list parts from to) apart first second = absurd cc
never_both owner owner head apart first second = absurd cc
never_both owner other head apart first second = absurd cc
never_both other q head apart first second = absurd cc

-- the same for the places of two forms' first parts
abbrev heads_apart : List Symbol → List Symbol → Bool
heads_apart [] qs = false
heads_apart (p ∷ ps) [] = false
heads_apart (p ∷ ps) (q ∷ qs) = openings_apart (opening p) (opening q)

never_two_heads : (ps qs : List Symbol) (head : Tree) → heads_apart ps qs ≡ true → fits_head ps head ≡ true → fits_head qs head ≡ true → ⊥
never_two_heads [] qs head apart first second = absurd cc
never_two_heads (p ∷ ps) [] head apart first second = absurd cc
never_two_heads (p ∷ ps) (q ∷ qs) head apart first second =
    never_both (opening p) (opening q) head apart (opens p head first) (opens q head second)

-- no word is both
abbrev seconds_apart : Option Keyword → Option Keyword → Bool
seconds_apart (Some a) (Some b) = not (bytes_eq (text_of a) (text_of b))
seconds_apart (Some a) None = true
seconds_apart None (Some b) = true
seconds_apart None None = false

never_told_twice : (a b : Option Keyword) (parts : Trees) → seconds_apart a b ≡ true → is_told a parts ≡ true → is_told b parts ≡ true → ⊥
never_told_twice (Some a) (Some b) nil apart first second = absurd cc
never_told_twice (Some a) (Some b) (cons (word bytes from to) parts) apart first second = two_words a b bytes apart first second
never_told_twice (Some a) (Some b) (cons (list inner from to) parts) apart first second = absurd cc
never_told_twice (Some a) None parts apart first second = absurd cc
never_told_twice None b parts apart first second = absurd cc

never_plain_twice : (a b : Option Keyword) → seconds_apart a b ≡ true → is_none a ≡ true → is_none b ≡ true → ⊥
never_plain_twice (Some a) b apart first second = absurd cc
never_plain_twice None (Some b) apart first second = absurd cc
never_plain_twice None None apart first second = absurd cc

-- two forms are told apart by their heads or by the words behind them
abbrev apart : Rule → Rule → Bool
apart r s = heads_apart (front_of r) (front_of s) || seconds_apart (second_word r) (second_word s)

abbrev all_apart : List Rule → Bool
all_apart [] = true
all_apart (r ∷ rules) = list_all (apart r) rules && all_apart rules

-- the forms of each place are
table_apart : (p : Symbol) → all_apart (forms_of p) ≡ true
table_apart (symbol.Word keyword) = refl
table_apart p = refl

-- tests that no two forms pass that are told apart
abbrev Tells : (Rule → Bool) → Type 0
Tells test = (r s : Rule) → apart r s ≡ true → test r ≡ true → test s ≡ true → ⊥

-- no form passes behind one that does, where it is told apart from all of them
none_other : (test : Rule → Bool) → Tells test → (r : Rule) (rules : List Rule) → list_all (apart r) rules ≡ true → test r ≡ true
    → filter test rules ≡ []
none_other test tells r [] are is = refl
none_other test tells r (s ∷ rules) are is =
    let parts = and_parts (apart r s) (list_all (apart r) rules) are in
    let fails : test s ≡ false = false_from_ne_true (test s) (λ passes. tells r s parts.0 is passes) in
    ap (λ b. cond b (s ∷ filter test rules) (filter test rules)) fails ∙ none_other test tells r rules parts.1 is

one_at_most : (test : Rule → Bool) → Tells test → (rules : List Rule) → all_apart rules ≡ true → length (filter test rules) ≤ 1
one_at_most test tells [] are = omega arith
one_at_most test tells (r ∷ rules) are =
    let parts = and_parts (list_all (apart r) rules) (all_apart rules) are in
    by_first (test r) refl (λ passes. none_other test tells r rules parts.0 passes) (one_at_most test tells rules parts.1)
  where
    by_first : (b : Bool) → test r ≡ b → (test r ≡ true → filter test rules ≡ []) → length (filter test rules) ≤ 1
        → length (cond b (r ∷ filter test rules) (filter test rules)) ≤ 1
    by_first true is none rest = let empty = ap length (none is) in omega arith
    by_first false is none rest = rest

-- the two tests of the forms of a place
tells_told : (head : Tree) (parts : Trees) → Tells (λ rule. begins head rule && is_told (second_word rule) parts)
tells_told head parts r s is first second =
    let of_r = and_parts (begins head r) (is_told (second_word r) parts) first in
    let of_s = and_parts (begins head s) (is_told (second_word s) parts) second in
    ⊎_elim (λ heads. never_two_heads (front_of r) (front_of s) head heads of_r.0 of_s.0)
    (λ words. never_told_twice (second_word r) (second_word s) parts words of_r.1 of_s.1)
    (or_cases (heads_apart (front_of r) (front_of s)) (seconds_apart (second_word r) (second_word s)) is)

tells_plain : (head : Tree) → Tells (λ rule. begins head rule && is_none (second_word rule))
tells_plain head r s is first second =
    let of_r = and_parts (begins head r) (is_none (second_word r)) first in
    let of_s = and_parts (begins head s) (is_none (second_word s)) second in
    ⊎_elim (λ heads. never_two_heads (front_of r) (front_of s) head heads of_r.0 of_s.0)
    (λ words. never_plain_twice (second_word r) (second_word s) words of_r.1 of_s.1)
    (or_cases (heads_apart (front_of r) (front_of s)) (seconds_apart (second_word r) (second_word s)) is)

pub one_told : (p : Symbol) (head : Tree) (parts : Trees) → length (told_forms p head parts) ≤ 1
one_told p head parts = one_at_most _ (tells_told head parts) (forms_of p) (table_apart p)

pub one_plain : (p : Symbol) (head : Tree) → length (plain_forms p head) ≤ 1
one_plain p head = one_at_most _ (tells_plain head) (forms_of p) (table_apart p)
