-- What is known of each part of a form without a fault of shape, whose atoms may stand in a text.
use Rattle.std.proofs.Common.{◌≡◌, ℕ, ◌+◌, ◌<◌, zero, suc, ◌==◌, Bool, true, false, not, ◌&&◌, ◌||◌, List, [], ◌∷◌, length, Option, Some, None, slice_get, slice_index_or, option_map, refl, sym, subst, ap, arith}
use Rattle.std.specs.List.{AllByRecursion, list_all}
use Rattle.std.proofs.lemmas.Bool.{and_parts, le-leb, not-true}
use Rattle.std.proofs.lemmas.Option.{same_Some}
use Rattle.rc_base.specs.Tree.{Tree, word, list, Trees, nil, cons}
use Rattle.rc_deck.proofs.EachLemmas.{append_each}
use Rattle.rc_sheet_spec.specs.WellFormed.{is_atom}
use Rattle.rc_check.specs.Grammar.{forms_of, front_of}
use Rattle.rc_check.specs.Faults.{atom_kind, faults, faults_at, faults_in, behind_front, or_behind, place_at, count, fits}
use Rattle.rc_check.specs.declared.grammar.Symbol.{Symbol}
use Rattle.rc_check.specs.declared.grammar.Symbol.TheVariants as symbol
use Rattle.rc_check.specs.declared.grammar.Rule.{Rule}
use Rattle.rc_check.specs.declared.grammar.Rule.TheVariants as rule
use Rattle.rc_check.specs.declared.role.Role.{Role}
use Rattle.rc_check.specs.declared.role.Role.TheVariants.{No as no_role, GivenValue as given_value}
use Rattle.rc_check.specs.SecondParts.{front_roles, role_in, Standing, Part, atom, form, part_at, parts_at, parts_in, parts_of, with_form, standing_alone}
use Rattle.rc_form.specs.SameForm.{IsAtom, IsOfAtoms, AreOfAtoms}
use Rattle.rc_sheet.proofs.Shapes.{none_in_both, shape_of, rule_holds, kindless}
use Rattle.rc_sheet.proofs.Bodies.{each_passes, standing_at}
use Rattle.rc_sheet.proofs.Lands.{is_given}

-- an atom of a form is one of a sheet
pub atom_is : (bytes : List ℕ) → IsAtom bytes → is_atom bytes ≡ true
atom_is bytes is =
    rw (le-leb 1 (length bytes) is.some, le-leb (length bytes) 64 is.short, is.parts) refl

-- WHERE VALUES ARE GIVEN

-- a value is given by a name or a branch alone
abbrev pub may_give : Symbol → Role → Bool
may_give symbol.Name role = true
may_give symbol.Branch role = true
may_give place role = not (is_given role)

abbrev may_all_give : List Symbol → List Role → Bool
may_all_give places [] = true
may_all_give [] (role ∷ roles) = false
may_all_give (place ∷ places) (role ∷ roles) = may_give place role && may_all_give places roles

none_gives : (p : Symbol) → may_give p no_role ≡ true
none_gives symbol.Name = refl
none_gives p = refl

not_given : (p : Symbol) (role : Role) → is_given role ≡ false → may_give p role ≡ true
not_given symbol.Name role is = refl
not_given symbol.Branch role is = refl
not_given p role is = ap not is

-- the roles of each form fit its places
roles_of : (r : Rule) → may_all_give (front_of r) (front_roles r) ≡ true
roles_of rule.Game = refl
roles_of r = refl

role_gives : (places : List Symbol) (roles : List Role) (i : ℕ) (behind : Option Symbol) (q : Symbol)
    → may_all_give places roles ≡ true → or_behind (slice_get places i) behind ≡ Some q
    → may_give q (slice_index_or roles i no_role) ≡ true
role_gives places [] i behind q fit is = none_gives q
role_gives [] (role ∷ roles) i behind q fit is = absurd cc
role_gives (p ∷ places) (role ∷ roles) zero behind q fit is =
    subst (λ p. may_give p role ≡ true) (same_Some p q is) (and_parts (may_give p role) (may_all_give places roles) fit).0
role_gives (p ∷ places) (role ∷ roles) (suc i) behind q fit is =
    role_gives places roles i behind q (and_parts (may_give p role) (may_all_give places roles) fit).1 is

-- a form that hands its role on stands where no value is given
abbrev hands_on : Rule → Bool
hands_on rule.TopOf = true
hands_on rule.BottomOf = true
hands_on r = false

abbrev is_spot : Symbol → Bool
is_spot symbol.Spot = true
is_spot place = false

spots_alone : (p : Symbol) → list_all (λ r. not (hands_on r) || is_spot p) (forms_of p) ≡ true
spots_alone symbol.Spot = refl
spots_alone p = refl

not_in_spot : (p : Symbol) (role : Role) → is_spot p ≡ true → may_give p role ≡ true → is_given role ≡ false
not_in_spot symbol.Spot role spot fit = not-true (is_given role) fit
not_in_spot p role spot fit = absurd cc

-- the part of a form may give as the form may
inner_gives : (p : Symbol) (role : Role) (r : Rule) (n j : ℕ) (q : Symbol) → may_give p role ≡ true
    → (not (hands_on r) || is_spot p) ≡ true → place_at r n j ≡ Some q → may_give q (role_in role r j) ≡ true
inner_gives p role rule.TopOf n j q fit spot is = not_given q role (not_in_spot p role spot fit)
inner_gives p role rule.BottomOf n j q fit spot is = not_given q role (not_in_spot p role spot fit)
inner_gives p role rule.Branches n j q fit spot is =
    subst (λ q. may_give q given_value ≡ true) (same_Some symbol.Branch q is) refl
inner_gives p role rule.Values n j q fit spot is =
    subst (λ q. may_give q given_value ≡ true) (same_Some symbol.Name q is) refl
inner_gives p role r n j q fit spot is =
    role_gives (front_of r) (front_roles r) j (behind_front r (j + 1 == n)) q (roles_of r) is

-- EACH PART

-- an atom is one of its place
pub record IsShapedAtom (at : Standing) (bytes : List ℕ) : Type 0 where
  pub may_stand : is_atom bytes ≡ true
  pub of_place : atom_kind at.place bytes ≡ None
  pub gives : may_give at.place at.role ≡ true

-- a form has as many parts as it must, and they are of their places
pub record IsShapedForm (r : Rule) (parts : Trees) : Type 0 where
  pub atoms : AreOfAtoms parts
  pub fit : fits (count parts) r ≡ true
  pub inner : faults_in r (count parts) 0 parts ≡ []

abbrev pub IsShaped : Part → Type 0
IsShaped (atom at bytes from) = IsShapedAtom at bytes
IsShaped (form at r parts from) = IsShapedForm r parts

-- what stands in no place has no parts
placed : (at : Standing) (r : Rule) (all : Trees) (index : ℕ) (o : Option Symbol) (tree : Tree) → faults_at o tree ≡ []
    → ((q : Symbol) → o ≡ Some q → faults_at (Some q) tree ≡ []
    → AllByRecursion IsShaped (parts_at (Some (standing_at at r all index q)) tree))
    → AllByRecursion IsShaped (parts_at (option_map (λ q. standing_at at r all index q) o) tree)
placed at r all index None (word bytes from to) none each = tt
placed at r all index None (list parts from to) none each = tt
placed at r all index (Some q) tree none each = each q refl none

mutual
  tree_shaped : (at : Standing) (tree : Tree) → may_give at.place at.role ≡ true → IsOfAtoms tree
      → faults_at (Some at.place) tree ≡ [] → AllByRecursion IsShaped (parts_at (Some at) tree)
  tree_shaped at (word bytes from to) gives atoms none =
      (record { may_stand = atom_is bytes atoms; of_place = kindless _ (atom_kind at.place bytes) none; gives = gives }, tt)
  tree_shaped at (list parts from to) gives atoms none =
      let shape = shape_of at.place parts from to none in
      let spot = rule_holds (λ r. (not (hands_on r) || is_spot at.place) ≡ true) at.place parts shape.form shape.told
      (each_passes (λ r. not (hands_on r) || is_spot at.place) (forms_of at.place) (spots_alone at.place)) in
      subst (λ o. AllByRecursion IsShaped (with_form at parts from (λ r. parts_in at r parts 0 parts) o)) (sym shape.told) (
        record { atoms = atoms; fit = shape.fit; inner = shape.inner },
        row_shaped at shape.form parts 0 parts
            (λ j q is. inner_gives at.place at.role shape.form (count parts) j q gives spot is) atoms shape.inner,
      )

  row_shaped : (at : Standing) (r : Rule) (all : Trees) (index : ℕ) (trees : Trees)
      → ((j : ℕ) (q : Symbol) → place_at r (count all) j ≡ Some q → may_give q (role_in at.role r j) ≡ true)
      → AreOfAtoms trees → faults_in r (count all) index trees ≡ [] → AllByRecursion IsShaped (parts_in at r all index trees)
  row_shaped at r all index nil gives atoms none = tt
  row_shaped at r all index (cons tree trees) gives atoms none =
      let apart = none_in_both (faults_at (place_at r (count all) index) tree) (faults_in r (count all) (index + 1) trees) none in
      append_each IsShaped _ (parts_in at r all (index + 1) trees)
      (placed at r all index (place_at r (count all) index) tree apart.0
      (λ q is fine. tree_shaped (standing_at at r all index q) tree (gives index q is) atoms.0 fine))
      (row_shaped at r all (index + 1) trees gives atoms.1 apart.1)

-- each part of a form without a fault
pub all_shaped : (tree : Tree) → IsOfAtoms tree → faults symbol.Sheet tree ≡ [] → AllByRecursion IsShaped (parts_of tree)
all_shaped tree atoms none = tree_shaped standing_alone tree refl atoms none

-- PARTS OF A FORM

pub atoms_at : (i : ℕ) (trees : Trees) → AreOfAtoms trees → IsOfAtoms (part_at i trees)
atoms_at i nil atoms = tt
atoms_at zero (cons tree trees) atoms = atoms.0
atoms_at (suc i) (cons tree trees) atoms = atoms_at i trees atoms.1

pub faults_from : (r : Rule) (n index i : ℕ) (trees : Trees) → i < count trees → faults_in r n index trees ≡ []
    → faults_at (place_at r n (index + i)) (part_at i trees) ≡ []
faults_from r n index i nil less none = absurd (omega (arith, less))
faults_from r n index zero (cons tree trees) less none =
    let same : index ≡ index + 0 = omega arith in
    subst (λ j. faults_at (place_at r n j) tree ≡ []) same
    (none_in_both (faults_at (place_at r n index) tree) (faults_in r n (index + 1) trees) none).0
faults_from r n index (suc i) (cons tree trees) less none =
    let same : (index + 1) + i ≡ index + suc i = omega arith in
    subst (λ j. faults_at (place_at r n j) (part_at i trees) ≡ []) same
    (faults_from r n (index + 1) i trees (omega (arith, less))
    (none_in_both (faults_at (place_at r n index) tree) (faults_in r n (index + 1) trees) none).1)
