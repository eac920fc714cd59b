-- What holds of what is read, where something is read.
use Rattle.std.proofs.Common.{◌≡◌, ℕ, Bool, true, false, cond, List, [], ◌∷◌, get_or, Option, Some, None, IfSome, slice_get, position, find, option_map, refl, subst}
use Rattle.std.proofs.lemmas.Option.{slice_get-get_or}
use Rattle.std.proofs.lemmas.List.Quantifiers.{position-Some}
use Rattle.rc_check.specs.Faults.{fits}
use Rattle.rc_check.specs.declared.grammar.Rule.{Rule}
use Rattle.rc_resolve.specs.Reading.{both as both_read}
use Rattle.rc_sheet.specs.ReadNames.{◌>>=◌, both, ensure, sized}

-- P holds of what was read
pub record Means {A : Type 0} (found : Option A) (P : A → Type 0) : Type 0 where
  pub holds : IfSome found P

-- nothing was read
pub nothing : {A : Type 0} {P : A → Type 0} → Means None P
nothing = record { holds = tt }

-- this was read
pub something : {A : Type 0} {P : A → Type 0} (a : A) → P a → Means (Some a) P
something a p = record { holds = p }

-- what was read is this
pub means_so : {A : Type 0} {P : A → Type 0} (found : Option A) (a : A) → Means found P → found ≡ Some a → P a
means_so {P = P} found a means is = holds_of (subst (λ o. Means o P) is means)
  where
    holds_of : Means (Some a) P → P a
    holds_of m = m.holds

-- by the equation
pub means_if : {A : Type 0} {P : A → Type 0} (found : Option A) → ((a : A) → found ≡ Some a → P a) → Means found P
means_if None each = nothing
means_if (Some a) each = something a (each a refl)

-- whatever is read
pub anything : {A : Type 0} (found : Option A) → Means found (λ a. Unit {0})
anything found = means_if found (λ a is. tt)

-- more follows of it
pub weaker : {A : Type 0} {P Q : A → Type 0} (found : Option A) → Means found P → ((a : A) → P a → Q a) → Means found Q
weaker None means more = nothing
weaker (Some a) means more = something a (more a means.holds)

-- what is made of it
pub mapped : {A B : Type 0} {P : A → Type 0} {Q : B → Type 0} (found : Option A) (f : A → B) → Means found P
    → ((a : A) → P a → Q (f a)) → Means (option_map f found) Q
mapped None f means more = nothing
mapped (Some a) f means more = something (f a) (more a means.holds)

-- what is read behind it
pub behind : {A B : Type 0} {P : A → Type 0} {Q : B → Type 0} (found : Option A) (f : A → Option B) → Means found P
    → ((a : A) → P a → Means (f a) Q) → Means (found >>= f) Q
behind None f means more = nothing
behind (Some a) f means more = more a means.holds

-- one and another
pub both_mean : {A B : Type 0} {P : A → Type 0} {Q : B → Type 0} (first : Option A) (second : Option B) → Means first P
    → Means second Q → Means (both first second) (λ p. P p.0 × Q p.1)
both_mean None second p q = nothing
both_mean (Some a) None p q = nothing
both_mean (Some a) (Some b) p q = something (a, b) (p.holds, q.holds)

-- either way of a test
pub either : {A : Type 0} {P : A → Type 0} (b : Bool) (x y : Option A) → (b ≡ true → Means x P) → (b ≡ false → Means y P)
    → Means (cond b x y) P
either true x y first second = first refl
either false x y first second = second refl

-- where a test holds
pub ensured : (b : Bool) → Means (ensure b) (λ u. b ≡ true)
ensured true = something tt refl
ensured false = nothing

-- a form that is read at a place is the one that its parts tell
pub sized_is : (n : ℕ) (found : Option Rule) → Means (sized n found) (λ r. found ≡ Some r)
sized_is n None = nothing
sized_is n (Some r) = either (fits n r) (Some r) None (λ is. something r refl) (λ is. nothing)

-- the first that passes does
pub found_passes : {A : Type 0} (test : A → Bool) (all : List A) → Means (find test all) (λ a. test a ≡ true)
found_passes test [] = nothing
found_passes test (a ∷ all) = either (test a) (Some a) (find test all) (λ is. something a is) (λ is. found_passes test all)

-- at the first place that passes is one that does
pub place_passes : {A : Type 0} (test : A → Bool) (all : List A)
    → Means (position test all) (λ place. (a : A) × (slice_get all place ≡ Some a) × (test a ≡ true))
place_passes test [] = nothing
place_passes test (a ∷ all) =
    means_if (position test (a ∷ all)) (λ place is.
    let at = position-Some test (a ∷ all) place a is in
    (get_or (a ∷ all) place a, slice_get-get_or (a ∷ all) place a at.0, at.1))

-- what is made of two
pub paired : {A B C : Type 0} {P : A → Type 0} {Q : B → Type 0} {R : C → Type 0} (first : Option A) (second : Option B)
    (f : A → B → C) → Means first P → Means second Q → ((a : A) (b : B) → P a → Q b → R (f a b))
    → Means (option_map (λ p. f p.0 p.1) (both first second)) R
paired None second f p q more = nothing
paired (Some a) None f p q more = nothing
paired (Some a) (Some b) f p q more = something (f a b) (more a b p.holds q.holds)

-- what is made of two that are read
pub made_of : {A B C : Type 0} {P : A → Type 0} {Q : B → Type 0} {R : C → Type 0} (make : A → B → C) (first : Option A)
    (second : Option B) → Means first P → Means second Q → ((a : A) (b : B) → P a → Q b → R (make a b))
    → Means (both_read make first second) R
made_of make None second p q more = nothing
made_of make (Some a) None p q more = nothing
made_of make (Some a) (Some b) p q more = something (make a b) (more a b p.holds q.holds)
