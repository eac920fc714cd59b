-- What a reading gives, where it gives something.
use Rattle.std.proofs.Common.{◌≡◌, Bool, true, false, cond, Option, Some, None, option_map, refl, sym, subst}
use Rattle.rc_sheet.specs.ReadNames.{◌>>=◌, both, ensure}
use Rattle.rc_sheet.proofs.Means.{Means}

-- something was read, and P holds of it
abbrev pub Found : {A : Type 0} → Option A → (A → Type 0) → Type 0
Found None P = ⊥
Found (Some x) P = P x

-- the same, kept apart from the option it is said of
pub record Finds {A : Type 0} (found : Option A) (P : A → Type 0) : Type 0 where
  pub holds : Found found P

-- this was read
pub finds : {A : Type 0} {P : A → Type 0} (a : A) → P a → Finds (Some a) P
finds a p = record { holds = p }

-- by the equation
pub finds_if : {A : Type 0} {P : A → Type 0} (found : Option A) (a : A) → found ≡ Some a → P a → Finds found P
finds_if {P = P} found a is p = subst (λ o. Finds o P) (sym is) (finds a p)

-- what was read
pub found_as : {A : Type 0} {P : A → Type 0} (found : Option A) → Finds found P → (a : A) × (found ≡ Some a) × P a
found_as None is = absurd is.holds
found_as (Some a) is = (a, refl, is.holds)

-- more follows of it
pub implies : {A : Type 0} {P Q : A → Type 0} (found : Option A) → Finds found P → ((a : A) → P a → Q a) → Finds found Q
implies None is more = absurd is.holds
implies (Some a) is more = finds a (more a is.holds)

-- what is made of it
pub makes : {A B : Type 0} {P : A → Type 0} {Q : B → Type 0} (found : Option A) (f : A → B) → Finds found P
    → ((a : A) → P a → Q (f a)) → Finds (option_map f found) Q
makes None f is more = absurd is.holds
makes (Some a) f is more = finds (f a) (more a is.holds)

-- what is read behind it
pub follows : {A B : Type 0} {P : A → Type 0} {Q : B → Type 0} (found : Option A) (f : A → Option B) → Finds found P
    → ((a : A) → P a → Finds (f a) Q) → Finds (found >>= f) Q
follows None f is more = absurd is.holds
follows (Some a) f is more = more a is.holds

-- what is read behind just this
pub follows_this : {A B : Type 0} {Q : B → Type 0} (found : Option A) (a : A) (f : A → Option B) → Finds found (λ x. x ≡ a)
    → Finds (f a) Q → Finds (found >>= f) Q
follows_this None a f is next = absurd is.holds
follows_this {Q = Q} (Some x) a f is next = subst (λ x. Finds (f x) Q) (sym is.holds) next

-- one and another
pub finds_both : {A B : Type 0} {P : A → Type 0} {Q : B → Type 0} (first : Option A) (second : Option B) → Finds first P
    → Finds second Q → Finds (both first second) (λ p. P p.0 × Q p.1)
finds_both None second p q = absurd p.holds
finds_both (Some a) None p q = absurd q.holds
finds_both (Some a) (Some b) p q = finds (a, b) (p.holds, q.holds)

-- what is made of two
pub joins : {A B C : Type 0} {P : A → Type 0} {Q : B → Type 0} {R : C → Type 0} (first : Option A) (second : Option B)
    (f : A → B → C) → Finds first P → Finds second Q → ((a : A) (b : B) → P a → Q b → R (f a b))
    → Finds (option_map (λ p. f p.0 p.1) (both first second)) R
joins None second f p q more = absurd p.holds
joins (Some a) None f p q more = absurd q.holds
joins (Some a) (Some b) f p q more = finds (f a b) (more a b p.holds q.holds)

-- the way that a test shows
pub where_true : {A : Type 0} {P : A → Type 0} (b : Bool) (x y : Option A) → b ≡ true → Finds x P → Finds (cond b x y) P
where_true true x y is p = p
where_true false x y is p = absurd cc

-- the other way
pub where_false : {A : Type 0} {P : A → Type 0} (b : Bool) (x y : Option A) → b ≡ false → Finds y P → Finds (cond b x y) P
where_false true x y is p = absurd cc
where_false false x y is p = p

-- either way of a test
pub whether : {A : Type 0} {P : A → Type 0} (b : Bool) (x y : Option A) → (b ≡ true → Finds x P) → (b ≡ false → Finds y P)
    → Finds (cond b x y) P
whether true x y first second = first refl
whether false x y first second = second refl

-- a test that holds
pub ensures_so : {P : Unit {0} → Type 0} (b : Bool) → b ≡ true → P tt → Finds (ensure b) P
ensures_so true is p = finds tt p
ensures_so false is p = absurd cc

-- what is found means what all that is read means
pub finds_meaning : {A : Type 0} {P Q : A → Type 0} (found : Option A) → Finds found P → Means found Q
    → Finds found (λ a. P a × Q a)
finds_meaning None is means = absurd is.holds
finds_meaning (Some a) is means = finds a (is.holds, means.holds)
