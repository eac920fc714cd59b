-- What is known of a list whose shape has no fault.
use Rattle.std.proofs.Common.{◌≡◌, ℕ, suc, ◌+◌, ◌<◌, ◌≤◌, ◌==◌, zero, Bool, true, false, cond, List, [], ◌∷◌, ◌++◌, length, Option, option_map, is_some, Some, None, slice_get, find, refl, sym, subst, arith, eqb-true}
use Rattle.std.specs.List.{AllByRecursion}
use Rattle.std.specs.Option.{option_to_list}
use Rattle.std.proofs.lemmas.Option.{same_Some}
use Rattle.std.specs.Prelude.{codes}
use Prim.Native.String.{String}
use Rattle.std.proofs.lemmas.Bool.{false_from_ne_true}
use Rattle.std.proofs.lemmas.Slice.Eq.{bytes_eq-Decides}
use Rattle.rc_base.specs.Tree.{Tree, word, list, Trees, nil, cons}
use Rattle.rc_deck.proofs.EachLemmas.{past_end}
use Rattle.rc_sheet_spec.specs.FormMentions.{is_text}
use Rattle.rc_check.specs.Keyword.{text_of}
use Rattle.rc_check.specs.Grammar.{forms_of, front_of, more_of}
use Rattle.rc_check.specs.Faults.{faults_at, faults_in, told_faults, lacks_players, told_rule, plain_rule, or_else, rule_of, behind_front, or_behind, place_at, count, back_of, fits_count, fits, atom_kind, is_word, unless}
use Rattle.rc_check.specs.declared.fault.SheetKind.{SheetKind}
use Rattle.rc_check.specs.declared.fault.SheetKind.TheVariants.{Shape}
use Rattle.rc_check.specs.declared.keyword.Keyword.{Keyword}
use Rattle.rc_check.specs.declared.grammar.Symbol.{Symbol}
use Rattle.rc_check.specs.declared.grammar.Symbol.TheVariants as symbol
use Rattle.rc_check.specs.declared.grammar.Rule.{Rule}
use Rattle.rc_check.specs.declared.grammar.Rule.TheVariants as rule

-- neither of two lists has anything
pub none_in_both : {A : Type 0} (xs ys : List A) → xs ++ ys ≡ [] → (xs ≡ []) × (ys ≡ [])
none_in_both [] ys is = (refl, is)
none_in_both (x ∷ xs) ys is = absurd cc

-- the form of a list, which has the right number of parts, of which none is at fault
pub record HasShape (place : Symbol) (parts : Trees) : Type 0 where
  pub form : Rule
  pub told : rule_of place parts ≡ Some form
  pub fit : fits (count parts) form ≡ true
  pub inner : faults_in form (count parts) 0 parts ≡ []

-- a form that fits has the faults of its parts alone
pub inner_faults : {A : Type 0} (b c : Bool) (x y : A) (inner : List A) → cond b (cond c (x ∷ inner) inner) (y ∷ []) ≡ []
    → (b ≡ true) × (inner ≡ []) × (c ≡ false)
inner_faults true true x y inner is = absurd cc
inner_faults true false x y inner is = (refl, is, refl)
inner_faults false c x y inner is = absurd cc

shape_by : (place : Symbol) (parts : Trees) (from : ℕ) (found : Option Rule) → rule_of place parts ≡ found
    → told_faults place from parts (λ rule. faults_in rule (count parts) 0 parts) found ≡ [] → HasShape place parts
shape_by place parts from None is none = absurd cc
shape_by place parts from (Some found) is none =
    let both = inner_faults (fits (count parts) found) (lacks_players found parts) _ _ _ none in
    record { form = found; told = is; fit = both.0; inner = both.1 }

pub shape_of : (place : Symbol) (parts : Trees) (from to : ℕ) → faults_at (Some place) (list parts from to) ≡ []
    → HasShape place parts
shape_of place parts from to none = shape_by place parts from (rule_of place parts) refl none

-- what holds of each holds of what is found among them
found_holds : {A : Type 0} (P : A → Type 0) (test : A → Bool) (all : List A) (x : A) → find test all ≡ Some x
    → AllByRecursion P all → P x
found_holds P test [] x is each = absurd cc
found_holds P test (a ∷ all) x is each = by (test a) is (λ is. found_holds P test all x is each.1)
  where
    by : (b : Bool) → cond b (Some a) (find test all) ≡ Some x → (find test all ≡ Some x → P x) → P x
    by true is later = subst P (same_Some a x is) each.0
    by false is later = later is

either_holds : (P : Rule → Type 0) (first second : Option Rule) (x : Rule) → or_else first second ≡ Some x
    → ((a : Rule) → first ≡ Some a → P a) → ((a : Rule) → second ≡ Some a → P a) → P x
either_holds P None second x is p q = q x is
either_holds P (Some a) second x is p q = p x is

-- what holds of each form of a place holds of the one that a list has there
pub rule_holds : (P : Rule → Type 0) (place : Symbol) (parts : Trees) (x : Rule) → rule_of place parts ≡ Some x
    → AllByRecursion P (forms_of place) → P x
rule_holds P place nil x is each = absurd cc
rule_holds P place (cons head parts) x is each =
    either_holds P (told_rule place head parts) (plain_rule place head) x is
    (λ a is. found_holds P _ (forms_of place) a is each)
    (λ a is. found_holds P _ (forms_of place) a is each)

-- where more parts may stand, each behind the front has a place
behind_some : (r : Rule) (last : Bool) (more : Symbol) → more_of r ≡ Some more
    → (p : Symbol) × (behind_front r last ≡ Some p)
behind_some rule.Game true more is = (symbol.Scoring, refl)
behind_some r last more is = (more, is)

-- an item of the front, or else a place behind it
place_or : (found behind : Option Symbol) → ((found ≡ None) → (p : Symbol) × (behind ≡ Some p))
    → (p : Symbol) × (or_behind found behind ≡ Some p)
place_or (Some p) behind other = (p, refl)
place_or None behind other = other refl

behind_place : (r : Rule) (n i : ℕ) (last : Bool) (more : Option Symbol) → more_of r ≡ more
    → fits_count (length (front_of r)) more (back_of r) n ≡ true → i < n → length (front_of r) ≤ i
    → (p : Symbol) × (behind_front r last ≡ Some p)
behind_place r n i last None is fit less past =
    let all = eqb-true n (length (front_of r)) fit in absurd (omega (arith, all, less, past))
behind_place r n i last (Some more) is fit less past = behind_some r last more is

-- each part of a form that fits has a place
pub place_within : (r : Rule) (n i : ℕ) → fits n r ≡ true → i < n → (p : Symbol) × (place_at r n i ≡ Some p)
place_within r n i fit less =
    place_or (slice_get (front_of r) i) (behind_front r (i + 1 == n))
    (λ none. behind_place r n i (i + 1 == n) (more_of r) refl fit less (past_end (front_of r) i none))

-- behind the word of a setup stand lines
pub line_place : (n index : ℕ) → 1 ≤ index → place_at rule.Setup n index ≡ Some symbol.Line
line_place n zero above = absurd (omega (arith, above))
line_place n (suc index) above = refl

-- so many parts
pub two_only : (P : Trees → Type 0) (parts : Trees) → (count parts == 2) ≡ true
    → ((a b : Tree) → P (cons a (cons b nil))) → P parts
two_only P (cons a (cons b nil)) is each = each a b
two_only P nil is each = absurd cc
two_only P (cons a nil) is each = absurd cc
two_only P (cons a (cons b (cons c parts))) is each =
    let two = eqb-true (count (cons a (cons b (cons c parts)))) 2 is in absurd (omega (arith, two))

pub three_only : (P : Trees → Type 0) (parts : Trees) → (count parts == 3) ≡ true
    → ((a b c : Tree) → P (cons a (cons b (cons c nil)))) → P parts
three_only P (cons a (cons b (cons c nil))) is each = each a b c
three_only P nil is each = absurd cc
three_only P (cons a nil) is each = absurd cc
three_only P (cons a (cons b nil)) is each = absurd cc
three_only P (cons a (cons b (cons c (cons d parts)))) is each =
    let three = eqb-true (count (cons a (cons b (cons c (cons d parts))))) 3 is in absurd (omega (arith, three))

pub four_only : (P : Trees → Type 0) (parts : Trees) → (count parts == 4) ≡ true
    → ((a b c d : Tree) → P (cons a (cons b (cons c (cons d nil))))) → P parts
four_only P (cons a (cons b (cons c (cons d nil)))) is each = each a b c d
four_only P nil is each = absurd cc
four_only P (cons a nil) is each = absurd cc
four_only P (cons a (cons b nil)) is each = absurd cc
four_only P (cons a (cons b (cons c nil))) is each = absurd cc
four_only P (cons a (cons b (cons c (cons d (cons e parts))))) is each =
    let four = eqb-true (count (cons a (cons b (cons c (cons d (cons e parts)))))) 4 is in absurd (omega (arith, four))

-- a list stands where there are forms
pub no_list_at : (place : Symbol) (parts : Trees) (from to : ℕ) → forms_of place ≡ []
    → faults_at (Some place) (list parts from to) ≡ [] → ⊥
no_list_at place parts from to none fine =
    let shape = shape_of place parts from to fine in
    rule_holds (λ r. ⊥) place parts shape.form shape.told (subst (AllByRecursion (λ r. ⊥)) (sym none) tt)

-- an atom of this word is at fault at a place
abbrev pub refuses : Option Symbol → List ℕ → Bool
refuses None bytes = false
refuses (Some p) bytes = is_some (atom_kind p bytes)

-- where a place refuses a word, no tree without a fault there is that word
pub refuted : (o : Option Symbol) (text : String) (tree : Tree) → faults_at o tree ≡ [] → refuses o (codes text) ≡ true
    → is_text text tree ≡ false
refuted None text tree none refused = absurd cc
refuted (Some p) text (list parts from to) none refused = refl
refuted (Some p) text (word bytes from to) none refused =
    false_from_ne_true _
    (λ is. faulty _ (atom_kind p bytes)
    (subst (λ b. is_some (atom_kind p b) ≡ true) (sym ((bytes_eq-Decides bytes (codes text)).0 is)) refused) none)
  where
    faulty : {A B : Type 0} (f : A → B) (kind : Option A) → is_some kind ≡ true → option_to_list (option_map f kind) ≡ [] → ⊥
    faulty f None some none = cc
    faulty f (Some kind) some none = cc

-- an atom without a fault has no kind of fault
pub kindless : {A B : Type 0} (f : A → B) (kind : Option A) → option_to_list (option_map f kind) ≡ [] → kind ≡ None
kindless f None none = refl
kindless f (Some kind) none = absurd cc

-- where no list may stand stands an atom
pub atom_only : (p : Symbol) (P : Tree → Type 0) (tree : Tree) → forms_of p ≡ [] → faults_at (Some p) tree ≡ []
    → ((bytes : List ℕ) (from to : ℕ) → atom_kind p bytes ≡ None → P (word bytes from to)) → P tree
atom_only p P (word bytes from to) listless none each = each bytes from to (kindless _ (atom_kind p bytes) none)
atom_only p P (list parts from to) listless none each = absurd (no_list_at p parts from to listless none)

-- what a test takes holds
pub taken : (b : Bool) (kind : SheetKind) → unless b kind ≡ None → b ≡ true
taken true kind is = refl
taken false kind is = absurd cc

-- where a word is fixed stands that word
pub fixed_only : (k : Keyword) (P : Tree → Type 0) (tree : Tree) → faults_at (Some (symbol.Word k)) tree ≡ []
    → ((from to : ℕ) → P (word (text_of k) from to)) → P tree
fixed_only k P tree none each =
    atom_only (symbol.Word k) P tree refl none
    (λ bytes from to is. subst (λ b. P (word b from to))
    (sym ((bytes_eq-Decides bytes (text_of k)).0 (taken (is_word k bytes) Shape is))) (each from to))
