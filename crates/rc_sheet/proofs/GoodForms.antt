-- What a form of good parts says, by how many parts it has, where R holds of each part.
use Rattle.std.proofs.Common.{◌≡◌, ℕ, zero, suc, ◌+◌, ◌≤◌, ◌==◌, nat_lt, List, [], ◌∷◌, ◌++◌, Option, Some, sym, subst, ap, ◌∙◌, arith}
use Rattle.std.specs.List.{AllByRecursion}
use Rattle.rc_base.specs.Tree.{Tree, list, Trees, nil, cons}
use Rattle.rc_sheet_spec.specs.Naming.{Naming}
use Rattle.rc_check.specs.SecondParts.{Standing, standing_in}
use Rattle.rc_check.specs.declared.role.Role.TheVariants.{No as no_role}
use Rattle.rc_check.specs.Grammar.{forms_of}
use Rattle.rc_check.specs.Faults.{rule_of, count, fits}
use Rattle.rc_check.specs.declared.grammar.Symbol.{Symbol}
use Rattle.rc_check.specs.declared.grammar.Rule.{Rule}
use Rattle.rc_sheet.specs.ReadNames.{◌>>=◌, rule_at}
use Rattle.rc_sheet.proofs.Fine.Common.{Given}
use Rattle.rc_sheet.proofs.Finds.{Finds}
use Rattle.rc_sheet.proofs.GoodParts.{Each, one_and_more, two_and_more, three_and_more, IsGood, GoodAt, AreGood, IsGoodForm, finds_by}
use Rattle.rc_sheet.proofs.Shapes.{two_only, three_only, four_only}

-- from so many on
pub from_one : (P : ℕ → Type 0) → ((j : ℕ) → P (suc j)) → (i : ℕ) → 1 ≤ i → P i
from_one P more zero le = absurd (omega (arith, le))
from_one P more (suc i) le = more i

-- from two
pub from_two : (P : ℕ → Type 0) → ((j : ℕ) → P (suc (suc j))) → (i : ℕ) → 2 ≤ i → P i
from_two P more zero le = absurd (omega (arith, le))
from_two P more (suc zero) le = absurd (omega (arith, le))
from_two P more (suc (suc i)) le = more i

-- from three
pub from_three : (P : ℕ → Type 0) → ((j : ℕ) → P (suc (suc (suc j)))) → (i : ℕ) → 3 ≤ i → P i
from_three P more zero le = absurd (omega (arith, le))
from_three P more (suc zero) le = absurd (omega (arith, le))
from_three P more (suc (suc zero)) le = absurd (omega (arith, le))
from_three P more (suc (suc (suc i))) le = more i

-- how a part stands that has no role of its own and nothing more around it
abbrev pub plain_part : Standing → Symbol → Trees → Standing
plain_part at place all =
    record { place = place; role = no_role; beside = all; around = at.around; above = at.above ++ [] }

module _ (given : Given) (naming : Naming) (R : Tree → Type 0) where
  -- a form of this rule says what is P
  pub record Says {A : Type 0} (at : Standing) (rule : Rule) (read : Rule → Trees → Option A) (P : A → Type 0)
      (parts : Trees) : Type 0 where
    pub says : Each R parts → IsGoodForm given naming at rule parts → Finds (read rule parts) P

  -- what is said of a form of these parts
  abbrev pub SaysOf : {A : Type 0} → Standing → Rule → (Rule → Trees → Option A) → (A → Type 0) → Trees → Type 0
  SaysOf at rule read P parts = Each R parts → IsGoodForm given naming at rule parts → Finds (read rule parts) P

  -- a form of two parts
  pub with_two : {A : Type 0} {at : Standing} {rule : Rule} {read : Rule → Trees → Option A} {P : A → Type 0} {parts : Trees}
      → ((n : ℕ) → fits n rule ≡ (n == 2)) → ((a b : Tree) → SaysOf at rule read P (cons a (cons b nil)))
      → Says at rule read P parts
  with_two {at = at} {rule = rule} {read = read} {P = P} {parts = parts} two then =
      record {
        says = λ each form. two_only (SaysOf at rule read P) parts (sym (two (count parts)) ∙ form.fit) then each form;
      }

  -- of three
  pub with_three : {A : Type 0} {at : Standing} {rule : Rule} {read : Rule → Trees → Option A} {P : A → Type 0} {parts : Trees}
      → ((n : ℕ) → fits n rule ≡ (n == 3)) → ((a b c : Tree) → SaysOf at rule read P (cons a (cons b (cons c nil))))
      → Says at rule read P parts
  with_three {at = at} {rule = rule} {read = read} {P = P} {parts = parts} three then =
      record {
        says = λ each form. three_only (SaysOf at rule read P) parts (sym (three (count parts)) ∙ form.fit) then each form;
      }

  -- of four
  pub with_four : {A : Type 0} {at : Standing} {rule : Rule} {read : Rule → Trees → Option A} {P : A → Type 0} {parts : Trees}
      → ((n : ℕ) → fits n rule ≡ (n == 4))
      → ((a b c d : Tree) → SaysOf at rule read P (cons a (cons b (cons c (cons d nil)))))
      → Says at rule read P parts
  with_four {at = at} {rule = rule} {read = read} {P = P} {parts = parts} four then =
      record {
        says = λ each form. four_only (SaysOf at rule read P) parts (sym (four (count parts)) ∙ form.fit) then each form;
      }

  -- so many parts and one more at least
  pub behind_one : {A : Type 0} {at : Standing} {rule : Rule} {read : Rule → Trees → Option A} {P : A → Type 0} {parts : Trees}
      → ((n : ℕ) → fits n rule ≡ nat_lt 1 n)
      → ((a : Tree) (rest : Trees) → 1 ≤ count rest → SaysOf at rule read P (cons a rest)) → Says at rule read P parts
  behind_one {at = at} {rule = rule} {read = read} {P = P} {parts = parts} more then =
      record {
        says = λ each form. one_and_more (SaysOf at rule read P) parts (sym (more (count parts)) ∙ form.fit) then each form;
      }

  -- behind two
  pub behind_two : {A : Type 0} {at : Standing} {rule : Rule} {read : Rule → Trees → Option A} {P : A → Type 0} {parts : Trees}
      → ((n : ℕ) → fits n rule ≡ nat_lt 2 n)
      → ((a b : Tree) (rest : Trees) → 1 ≤ count rest → SaysOf at rule read P (cons a (cons b rest))) → Says at rule read P parts
  behind_two {at = at} {rule = rule} {read = read} {P = P} {parts = parts} more then =
      record {
        says = λ each form. two_and_more (SaysOf at rule read P) parts (sym (more (count parts)) ∙ form.fit) then each form;
      }

  -- behind three
  pub behind_three : {A : Type 0} {at : Standing} {rule : Rule} {read : Rule → Trees → Option A} {P : A → Type 0} {parts : Trees}
      → ((n : ℕ) → fits n rule ≡ nat_lt 3 n)
      → ((a b c : Tree) (rest : Trees) → 1 ≤ count rest → SaysOf at rule read P (cons a (cons b (cons c rest))))
      → Says at rule read P parts
  behind_three {at = at} {rule = rule} {read = read} {P = P} {parts = parts} more then =
      record {
        says = λ each form. three_and_more (SaysOf at rule read P) parts (sym (more (count parts)) ∙ form.fit) then each form;
      }

  -- a list says what each of the forms of its place says, or of another place with the same forms
  pub list_says_by : {A : Type 0} {P : A → Type 0} (read : Rule → Trees → Option A) (place : Symbol) (at : Standing)
      (parts : Trees) (from to : ℕ) → rule_of at.place parts ≡ rule_of place parts → Each R parts
      → IsGood given naming at (list parts from to) → AllByRecursion (λ rule. Says at rule read P parts) (forms_of place)
      → Finds (rule_at place parts >>= λ rule. read rule parts) P
  list_says_by {P = P} read place at parts from to same each good all =
      finds_by given naming (λ rule. read rule parts) place at parts from to same good (told (forms_of place) all)
    where
      told : (rules : List Rule) → AllByRecursion (λ rule. Says at rule read P parts) rules
          → AllByRecursion (λ rule. IsGoodForm given naming at rule parts → Finds (read rule parts) P) rules
      told [] all = tt
      told (rule ∷ rules) all = ((λ form. (all.0).says each form), told rules all.1)

  -- by its own place
  pub list_says : {A : Type 0} {P : A → Type 0} (read : Rule → Trees → Option A) (place : Symbol) (at : Standing)
      (parts : Trees) (from to : ℕ) → at.place ≡ place → Each R parts → IsGood given naming at (list parts from to)
      → AllByRecursion (λ rule. Says at rule read P parts) (forms_of place)
      → Finds (rule_at place parts >>= λ rule. read rule parts) P
  list_says read place at parts from to here each good all =
      list_says_by read place at parts from to (ap (λ p. rule_of p parts) here) each good all

  -- parts that all stand alike stand so each
  pub rest_good : (at : Standing) (rule : Rule) (all : Trees) (alike : Standing) (index : ℕ) (trees : Trees)
      → ((i : ℕ) → index ≤ i → standing_in at rule all i ≡ Some alike) → AreGood given naming at rule all index trees
      → Each (IsGood given naming alike) trees
  rest_good at rule all alike index nil same good = tt
  rest_good at rule all alike index (cons tree trees) same good = (
    subst (λ o. GoodAt given naming o tree) (same index (omega arith)) good.0,
    rest_good at rule all alike (index + 1) trees (λ i le. same i (omega (arith, le))) good.1,
  )
