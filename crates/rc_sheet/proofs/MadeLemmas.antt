-- What is made of readings, of one or of two.
use Rattle.std.proofs.Common.{◌≡◌, ℕ, Box, Option, Some, None, Result, Ok, Err, refl, ap, sym, subst, ◌∙◌}
use Rattle.std.specs.Global.{Global}
use Rattle.rc_base.specs.Tree.{Tree}
use Rattle.rc_sheet_spec.specs.Sheet.{Sort}
use Rattle.rc_sheet_spec.specs.Naming.{Naming, Scope, bind}
use Rattle.rc_ast.specs.declared.expressions.Test.{Test}
use Rattle.rc_ast.specs.Expressions.{test_seen}
use Rattle.rc_sheet.specs.ReadNames.{◌>>=◌, both, binder_at}
use Rattle.rc_sheet.specs.ReadExpressions.{test_at}
use Rattle.rc_sheet.specs.ReadParts.{bound_test}
use Rattle.rc_sheet.specs.Gives.{Fails, Gives, IsBoxed, AreBoth}
use Rattle.rc_sheet.specs.declared.fail.Unread.{Unread}
use Rattle.rc_sheet.specs.declared.fail.Unread.TheVariants.{Meaningless, Memory}
use Rattle.rc_sheet.proofs.Lists.{gives_same}

-- a box gives what is in it
pub box_gives : {X Y : Type 0} (view : X → Y) (read : Result X Unread) (boxed : Result (Box X Global) Unread) (said : Option Y)
    → IsBoxed read boxed → Gives view read said → Gives (λ (b : Box X Global). view b.value) boxed said
box_gives view (Ok x) (Ok b) said is gives = gives ∙ ap (λ x. Some (view x)) (sym is)
box_gives view (Ok x) (Err Memory) said is gives = tt
box_gives view (Ok x) (Err Meaningless) said is gives = absurd cc
box_gives {X} view (Err fail) boxed said is gives =
    subst (λ (r : Result (Box X Global) Unread). Gives (λ (b : Box X Global). view b.value) r said) (sym is) gives

-- two readings together give both
pub both_gives : {A B X Y : Type 0} (f : A → X) (g : B → Y) (first : Result A Unread) (second : Result B Unread)
    (two : Result (A × B) Unread) (p : Option X) (q : Option Y)
    → AreBoth first second two → Gives f first p → Gives g second q → Gives (λ (t : A × B). (f t.0, g t.1)) two (both p q)
both_gives {A} {B} f g (Ok a) (Ok b) two p q is one other =
    subst (λ (r : Result (A × B) Unread). Gives (λ (t : A × B). (f t.0, g t.1)) r (both p q)) (sym is)
    (ap (λ p. both p q) one ∙ ap (both (Some (f a))) other)
both_gives {A} {B} f g (Ok a) (Err Memory) two p q is one other =
    subst (λ (r : Result (A × B) Unread). Gives (λ (t : A × B). (f t.0, g t.1)) r (both p q)) (sym is) tt
both_gives {A} {B} f g (Ok a) (Err Meaningless) two p q is one other =
    subst (λ (r : Result (A × B) Unread). Gives (λ (t : A × B). (f t.0, g t.1)) r (both p q)) (sym is)
    (ap (λ p. both p q) one ∙ ap (both (Some (f a))) other)
both_gives {A} {B} f g (Err Memory) second two p q is one other =
    subst (λ (r : Result (A × B) Unread). Gives (λ (t : A × B). (f t.0, g t.1)) r (both p q)) (sym is) tt
both_gives {A} {B} f g (Err Meaningless) second two p q is one other =
    subst (λ (r : Result (A × B) Unread). Gives (λ (t : A × B). (f t.0, g t.1)) r (both p q)) (sym is) (ap (λ p. both p q) one)

-- nothing is read behind what isn't read
pub fails_then : {A B : Type 0} (fail : Unread) (first : Option A) (later : A → Option B) → Fails fail first
    → Fails fail (first >>= later)
fails_then Memory first later fails = tt
fails_then Meaningless first later fails = ap (λ first. first >>= later) fails

-- a test in which a variable is bound
pub bound_gives : (naming : Naming) (scope inner : Scope) (variable : Tree) (sort : Sort) (t : Tree) (bound : ℕ)
    (test : Result (Box Test Global) Unread) (two : Result (ℕ × Box Test Global) Unread)
    → binder_at naming.names.vars scope variable ≡ Some bound → inner ≡ bind naming scope bound sort
    → Gives (λ (b : Box Test Global). test_seen b.value) test (test_at naming inner t)
    → AreBoth (Ok bound) test two
    → Gives (λ (p : ℕ × Box Test Global). (p.0, test_seen p.1.value)) two (bound_test naming scope variable sort t)
bound_gives naming scope inner variable sort t bound test two binds is gives are =
    let known = ap (λ found. found >>= λ bound. both (Some bound) (test_at naming (bind naming scope bound sort) t)) binds in
    let inside = ap (λ scope. both (Some bound) (test_at naming scope t)) (sym is) in
    gives_same (λ (p : ℕ × Box Test Global). (p.0, test_seen p.1.value)) two (both (Some bound) (test_at naming inner t)) _
    (known ∙ inside)
    (both_gives (λ (n : ℕ). n) (λ (b : Box Test Global). test_seen b.value) (Ok bound) test two (Some bound) (test_at naming inner t)
    are refl gives)
