-- What all parts behind a setup give is what is gathered from its lists, where that is so of each list.
use Rattle.std.proofs.Common.{◌≡◌, ℕ, ◌+◌, ◌≤◌, zero, suc, Bool, true, false, ◌||◌, List, [], ◌∷◌, ◌++◌, Option, Some, None, flat_map, option_map, slice_index_or, refl, sym, subst, ap, ap₂, ◌∙◌, arith}
use Rattle.std.specs.List.{list_any}
use Rattle.std.proofs.lemmas.List.{append-nil}
use Rattle.std.proofs.lemmas.Grind.{flat_map-append}
use Rattle.rc_base.specs.Tree.{Tree, word, list, Trees, nil, cons}
use Rattle.rc_sheet_spec.specs.FormMentions.{gathered, all_gathered}
use Rattle.rc_check.specs.Faults.{faults_at, faults_in, place_at, count, fits}
use Rattle.rc_check.specs.declared.grammar.Symbol.{Symbol}
use Rattle.rc_check.specs.declared.grammar.Rule.{Rule}
use Rattle.rc_check.specs.declared.grammar.Rule.TheVariants as rule
use Rattle.rc_check.specs.declared.role.Role.{Role}
use Rattle.rc_check.specs.declared.role.Role.TheVariants.{No as no_role, GivenValue as given_value}
use Rattle.rc_check.specs.SecondParts.{front_roles, role_in, Standing, Part, atom, form, parts_at, parts_in, with_form, standing_in}
use Rattle.rc_sheet.proofs.Shapes.{none_in_both, HasShape, shape_of, place_within}
use Rattle.rc_sheet.proofs.Bodies.{IsBody, standing_at, body_inner}

module _ {X : Type 0} (own : Trees → List X) (given : Part → List X) where
  -- what an atom gives by itself
  abbrev pub by_atom : Option Standing → Tree → List X
  by_atom (Some at) (word bytes from to) = given (atom at bytes from)
  by_atom (Some at) (list parts from to) = []
  by_atom None tree = []

  -- what is gathered from the parts of a form, with what its atoms give, from the part at this index on
  abbrev pub in_row : Standing → Rule → Trees → ℕ → Trees → List X
  in_row at r all index nil = []
  in_row at r all index (cons tree trees) =
      (gathered own tree ++ by_atom (standing_in at r all index) tree) ++ in_row at r all (index + 1) trees

  -- what a list of this form mentions itself, behind its parts, is what the form gives and its atoms do
  abbrev pub Tells : Standing → Rule → Trees → Type 0
  Tells at r parts = (from : ℕ) → given (form at r parts from) ++ in_row at r parts 0 parts ≡ all_gathered own parts ++ own parts

  abbrev pub AllTell : Type 0
  AllTell = (at : Standing) (parts : Trees) (shape : HasShape at.place parts) → IsBody at → Tells at shape.form parts

  -- where the atoms give nothing, no more is gathered
  pub quiet_row : (at : Standing) (r : Rule) (all : Trees) (index : ℕ) (trees : Trees)
      → ((j : ℕ) (tree : Tree) → by_atom (standing_in at r all j) tree ≡ [])
      → in_row at r all index trees ≡ all_gathered own trees
  quiet_row at r all index nil quiet = refl
  quiet_row at r all index (cons tree trees) quiet =
      ap₂ (λ a b. a ++ b) (ap (λ l. gathered own tree ++ l) (quiet index tree) ∙ append-nil (gathered own tree))
      (quiet_row at r all (index + 1) trees quiet)

  module _ (tells : AllTell) where
    mutual
      -- what a tree mentions, and an atom by itself, all its parts give
      pub tree_gives : (at : Standing) (tree : Tree) → IsBody at → faults_at (Some at.place) tree ≡ []
          → gathered own tree ++ by_atom (Some at) tree ≡ flat_map given (parts_at (Some at) tree)
      tree_gives at (word bytes from to) body none = sym (append-nil (given (atom at bytes from)))
      tree_gives at (list parts from to) body none =
          let shape = shape_of at.place parts from to none in
          append-nil (gathered own (list parts from to))
          ∙ sym (tells at parts shape body from)
          ∙ ap (λ l. given (form at shape.form parts from) ++ l)
          (row_gives at shape.form parts 0 0 parts (omega arith) (omega arith) shape.fit shape.inner
          (λ j q low is. body_inner at shape.form parts j q body shape.told is))
          ∙ ap (λ o. flat_map given (with_form at parts from (λ r. parts_in at r parts 0 parts) o)) (sym shape.told)

      -- the same of the parts of a form, where each stands behind the setup
      pub row_gives : (at : Standing) (r : Rule) (all : Trees) (low index : ℕ) (trees : Trees) → low ≤ index
          → index + count trees ≡ count all → fits (count all) r ≡ true → faults_in r (count all) index trees ≡ []
          → ((j : ℕ) (q : Symbol) → low ≤ j → place_at r (count all) j ≡ Some q → IsBody (standing_at at r all j q))
          → in_row at r all index trees ≡ flat_map given (parts_in at r all index trees)
      row_gives at r all low index nil above counted fit none each = refl
      row_gives at r all low index (cons tree trees) above counted fit none each =
          let apart = none_in_both (faults_at (place_at r (count all) index) tree) (faults_in r (count all)
          (index + 1) trees) none in
          let place = place_within r (count all) index fit (omega (arith, counted)) in
          let stands : standing_in at r all index ≡ Some (standing_at at r all index place.0) =
          ap (λ o. option_map (λ q. standing_at at r all index q) o) place.1 in
          let here = tree_gives (standing_at at r all index place.0) tree (each index place.0 above place.1)
          (subst (λ o. faults_at o tree ≡ []) place.1 apart.0) in
          let later = row_gives at r all low (index + 1) trees (omega (arith, above)) (omega (arith, counted)) fit apart.1 each in
          ap₂ (λ a b. a ++ b)
          (subst (λ o. gathered own tree ++ by_atom o tree ≡ flat_map given (parts_at o tree)) (sym stands) here) later
          ∙ sym (flat_map-append given (parts_at (standing_in at r all index) tree) (parts_in at r all (index + 1) trees))

-- the role of a part of a form, where the form's parts have no such role
pub quiet_at : (takes : Role → Bool) (roles : List Role) (index : ℕ) → list_any takes roles ≡ false → takes no_role ≡ false
    → takes (slice_index_or roles index no_role) ≡ false
quiet_at takes [] index none plain = plain
quiet_at takes (role ∷ roles) zero none plain = neither (takes role) none
  where
    neither : (a : Bool) → (a || list_any takes roles) ≡ false → a ≡ false
    neither true is = absurd cc
    neither false is = refl
quiet_at takes (role ∷ roles) (suc index) none plain = quiet_at takes roles index (later (takes role) none) plain
  where
    later : (a : Bool) → (a || list_any takes roles) ≡ false → list_any takes roles ≡ false
    later true is = absurd cc
    later false is = is

pub quiet_role : (takes : Role → Bool) (r : Rule) (outer : Role) (index : ℕ) → list_any takes (front_roles r) ≡ false
    → takes outer ≡ false → takes no_role ≡ false → takes given_value ≡ false → takes (role_in outer r index) ≡ false
quiet_role takes rule.TopOf outer index none quiet plain values = quiet
quiet_role takes rule.BottomOf outer index none quiet plain values = quiet
quiet_role takes rule.Branches outer index none quiet plain values = values
quiet_role takes rule.Values outer index none quiet plain values = values
quiet_role takes r outer index none quiet plain values = quiet_at takes (front_roles r) index none plain
