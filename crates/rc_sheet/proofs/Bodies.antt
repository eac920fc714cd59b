-- The places behind a setup: which they are, that nothing else stands in them, and which roles parts have there.
use Rattle.std.proofs.Common.{◌≡◌, ℕ, ◌+◌, zero, suc, ◌==◌, Bool, true, false, not, ◌&&◌, List, [], ◌∷◌, Option, Some, None, slice_get, slice_index_or, refl, sym, subst, ap, ◌||◌}
use Rattle.std.specs.List.{AllByRecursion, list_all}
use Rattle.std.proofs.lemmas.Bool.{and_parts}
use Rattle.std.proofs.lemmas.Option.{same_Some}
use Rattle.rc_base.specs.Tree.{Trees}
use Rattle.rc_check.specs.Grammar.{forms_of, front_of, more_of}
use Rattle.rc_check.specs.Faults.{rule_of, behind_front, or_behind, place_at, count}
use Rattle.rc_check.specs.declared.grammar.Symbol.{Symbol}
use Rattle.rc_check.specs.declared.grammar.Symbol.TheVariants as symbol
use Rattle.rc_check.specs.declared.grammar.Rule.{Rule}
use Rattle.rc_check.specs.declared.grammar.Rule.TheVariants as rule
use Rattle.rc_check.specs.declared.role.Role.{Role}
use Rattle.rc_check.specs.declared.role.Role.TheVariants.{No as no_role, UsedAttribute as used_attribute, UsedValue as used_value, UsedMap as used_map, GivenValue as given_value}
use Rattle.rc_check.specs.SecondParts.{front_roles, role_in, Standing}
pub use Rattle.rc_check.proofs.Learned.{standing_at}
use Rattle.rc_sheet.proofs.Shapes.{rule_holds, refuses}

-- no place of the setup
abbrev pub is_body : Symbol → Bool
is_body symbol.Sheet = false
is_body symbol.Setup = false
is_body symbol.Line = false
is_body symbol.PlayerCount = false
is_body symbol.Team = false
is_body symbol.Member = false
is_body symbol.Deck = false
is_body symbol.Group = false
is_body symbol.Branches = false
is_body symbol.Branch = false
is_body symbol.Entries = false
is_body symbol.Entry = false
is_body symbol.Values = false
is_body symbol.Points = false
is_body place = true

-- a place or none
abbrev pub is_body_or_none : Option Symbol → Bool
is_body_or_none None = true
is_body_or_none (Some place) = is_body place

-- a form whose parts stand in no place of the setup; the values of points are no such form
abbrev pub is_body_rule : Rule → Bool
is_body_rule rule.Values = false
is_body_rule r = list_all is_body (front_of r) && is_body_or_none (more_of r)

-- what an expression uses
abbrev pub is_used : Role → Bool
is_used used_attribute = true
is_used used_value = true
is_used used_map = true
is_used role = false

-- only names are used
abbrev pub fits_role : Symbol → Role → Bool
fits_role symbol.Name role = true
fits_role place role = not (is_used role)

abbrev pub fit_roles : List Symbol → List Role → Bool
fit_roles places [] = true
fit_roles [] (role ∷ roles) = false
fit_roles (place ∷ places) (role ∷ roles) = fits_role place role && fit_roles places roles

-- a part stands behind the setup
pub record IsBody (at : Standing) : Type 0 where
  pub placed : is_body at.place ≡ true
  pub role_fits : fits_role at.place at.role ≡ true

-- what all pass, each passes
pub each_passes : {A : Type 0} (test : A → Bool) (xs : List A) → list_all test xs ≡ true → AllByRecursion (λ x. test x ≡ true) xs
each_passes test [] all = tt
each_passes test (x ∷ xs) all =
    let both = and_parts (test x) (list_all test xs) all in (both.0, each_passes test xs both.1)

-- a form behind a setup refuses words at a place where it must, as it is none of those that may take them
pub all_refused : (takes : Bool) (r : Rule) (at : Option Symbol) (words : List (List ℕ))
    → (takes || (not (is_body_rule r) || list_all (refuses at) words)) ≡ true → is_body_rule r ≡ true → takes ≡ false
    → AllByRecursion (λ bytes. refuses at bytes ≡ true) words
all_refused takes r at words alone body quiet =
    each_passes (refuses at) words (by takes (is_body_rule r) (list_all (refuses at) words) alone body quiet)
  where
    by : (a b c : Bool) → (a || (not b || c)) ≡ true → b ≡ true → a ≡ false → c ≡ true
    by true b c is body quiet = absurd cc
    by false true c is body quiet = is
    by false false c is body quiet = absurd cc

-- the forms of such a place are such forms
body_forms : (p : Symbol) → is_body p ≡ true → list_all is_body_rule (forms_of p) ≡ true
body_forms symbol.Sheet is = absurd cc
body_forms p is = cc

pub body_rule : (p : Symbol) (parts : Trees) (r : Rule) → is_body p ≡ true → rule_of p parts ≡ Some r → is_body_rule r ≡ true
body_rule p parts r is told = rule_holds (λ r. is_body_rule r ≡ true) p parts r told
    (each_passes is_body_rule (forms_of p) (body_forms p is))

-- which places those are
body_places : (r : Rule) → is_body_rule r ≡ true
    → (list_all is_body (front_of r) ≡ true) × (is_body_or_none (more_of r) ≡ true)
body_places rule.Values is = absurd cc
body_places r is = and_parts (list_all is_body (front_of r)) (is_body_or_none (more_of r)) is

-- what all pass one passes
pub all_pass : {A : Type 0} (test : A → Bool) (xs : List A) (i : ℕ) (x : A) → list_all test xs ≡ true → slice_get xs i ≡ Some x
    → test x ≡ true
all_pass test [] i x all is = absurd cc
all_pass test (y ∷ xs) zero x all is =
    subst (λ z. test z ≡ true) (same_Some y x is) (and_parts (test y) (list_all test xs) all).0
all_pass test (y ∷ xs) (suc i) x all is = all_pass test xs i x (and_parts (test y) (list_all test xs) all).1 is

-- the places behind the front, but for a sheet's, are those of more parts
behind_body : (r : Rule) (last : Bool) (q : Symbol) → is_body_rule r ≡ true → is_body_or_none (more_of r) ≡ true
    → behind_front r last ≡ Some q → is_body q ≡ true
behind_body rule.Game last q body more is = absurd cc
behind_body r last q body more is = subst (λ o. is_body_or_none o ≡ true) is more

or_body : (found behind : Option Symbol) (q : Symbol) → or_behind found behind ≡ Some q → (found ≡ Some q → is_body q ≡ true)
    → (behind ≡ Some q → is_body q ≡ true) → is_body q ≡ true
or_body (Some p) behind q is first second = first is
or_body None behind q is first second = second is

-- the parts of such a form stand behind the setup
pub body_place : (r : Rule) (n i : ℕ) (q : Symbol) → is_body_rule r ≡ true → place_at r n i ≡ Some q → is_body q ≡ true
body_place r n i q body is =
    let both = body_places r body in
    or_body (slice_get (front_of r) i) (behind_front r (i + 1 == n)) q is
    (λ found. all_pass is_body (front_of r) i q both.0 found)
    (λ found. behind_body r (i + 1 == n) q body both.1 found)

-- any place takes no role
pub no_role_fits : (p : Symbol) → fits_role p no_role ≡ true
no_role_fits symbol.Name = refl
no_role_fits p = refl

-- any place takes a role that uses nothing
unused_fits : (p : Symbol) (role : Role) → is_used role ≡ false → fits_role p role ≡ true
unused_fits symbol.Name role is = refl
unused_fits p role is = ap not is

role_fits_place : (places : List Symbol) (roles : List Role) (i : ℕ) (behind : Option Symbol) (q : Symbol)
    → fit_roles places roles ≡ true → or_behind (slice_get places i) behind ≡ Some q
    → fits_role q (slice_index_or roles i no_role) ≡ true
role_fits_place places [] i behind q fit is = no_role_fits q
role_fits_place [] (role ∷ roles) i behind q fit is = absurd cc
role_fits_place (p ∷ places) (role ∷ roles) zero behind q fit is =
    subst (λ p. fits_role p role ≡ true) (same_Some p q is) (and_parts (fits_role p role) (fit_roles places roles) fit).0
role_fits_place (p ∷ places) (role ∷ roles) (suc i) behind q fit is =
    role_fits_place places roles i behind q (and_parts (fits_role p role) (fit_roles places roles) fit).1 is

-- a list is nothing that is used
pub unused_list : (p : Symbol) (role : Role) (parts : Trees) (r : Rule) → fits_role p role ≡ true → rule_of p parts ≡ Some r
    → is_used role ≡ false
unused_list p role parts r fit told = by (is_used role) refl
  where
    nameless : (p : Symbol) → is_used role ≡ true → fits_role p role ≡ true → forms_of p ≡ []
    nameless symbol.Name used fit = refl
    nameless p used fit = absurd cc

    by : (b : Bool) → is_used role ≡ b → is_used role ≡ false
    by false is = is
    by true is =
        absurd (rule_holds (λ r. ⊥) p parts r told (subst (AllByRecursion (λ r. ⊥)) (sym (nameless p is fit)) tt))

role_in_fits : (r : Rule) (outer : Role) (n i : ℕ) (q : Symbol) → is_used outer ≡ false → is_body_rule r ≡ true
    → place_at r n i ≡ Some q → fits_role q (role_in outer r i) ≡ true
role_in_fits rule.TopOf outer n i q unused body is = unused_fits q outer unused
role_in_fits rule.BottomOf outer n i q unused body is = unused_fits q outer unused
role_in_fits rule.Branches outer n i q unused body is = unused_fits q given_value refl
role_in_fits rule.Values outer n i q unused body is = unused_fits q given_value refl
role_in_fits r outer n i q unused body is =
    role_fits_place (front_of r) (front_roles r) i (behind_front r (i + 1 == n)) q refl is

-- a part of a form behind the setup stands there too
pub body_inner : (at : Standing) (r : Rule) (parts : Trees) (i : ℕ) (q : Symbol) → IsBody at → rule_of at.place parts ≡ Some r
    → place_at r (count parts) i ≡ Some q → IsBody (standing_at at r parts i q)
body_inner at r parts i q body told is =
    let form = body_rule at.place parts r body.placed told in
    let unused = unused_list at.place at.role parts r body.role_fits told in
    record {
      placed = body_place r (count parts) i q form is;
      role_fits = role_in_fits r at.role (count parts) i q unused form is;
    }
