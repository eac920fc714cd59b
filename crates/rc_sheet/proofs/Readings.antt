-- Readings, one behind the other.
use Rattle.std.proofs.Common.{◌≡◌, ◌∙◌, ℕ, IsTrue, Option, Some, None, sym, ap, subst, arith}
use Rattle.rc_base.specs.Tree.{Trees}
use Rattle.rc_check.specs.Faults.{fits}
use Rattle.rc_check.specs.declared.grammar.Symbol.{Symbol}
use Rattle.rc_check.specs.declared.grammar.Rule.{Rule}
use Rattle.rc_sheet.specs.ReadNames.{◌>>=◌, both, rule_at}

-- what a list of a known form says
pub of_rule : {A : Type 0} (place : Symbol) (parts : Trees) (read : Rule → Option A) (rule known : Rule)
    → rule_at place parts ≡ Some rule → rule ≡ known → (rule_at place parts >>= read) ≡ read known
of_rule place parts read rule known given is = ap (λ found. found >>= read) given ∙ ap read is

-- how many parts a known form has
pub fits_known : (n : ℕ) (rule known : Rule) → IsTrue (fits n rule) → rule ≡ known → IsTrue (fits n known)
fits_known n rule known sized is = subst (λ rule. IsTrue (fits n rule)) is sized

abbrev value_or : {A : Type 0} → A → Option A → A
value_or other (Some x) = x
value_or other None = other

-- what is read behind two parts that are read
pub behind_both : {A B C : Type 0} (first : Option A) (second : Option B) (f : A → B → Option C) (a : A) (b : B)
    → both first second ≡ Some (a, b) → f a b ≡ (first >>= λ a. second >>= λ b. f a b)
behind_both (Some a') (Some b') f a b is = ap (λ p. f p.0 p.1) (sym (ap (value_or (a, b)) is))
behind_both (Some a') None f a b is = absurd (grind arith)
behind_both None second f a b is = absurd (grind arith)
