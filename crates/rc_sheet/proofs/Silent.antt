-- Parts that give nothing, by the places where they stand.
use Rattle.std.proofs.Common.{◌≡◌, ℕ, ◌+◌, ◌≤◌, ◌==◌, Bool, true, false, ◌&&◌, List, [], ◌++◌, Option, Some, None, flat_map, slice_get, option_map, refl, subst, ap, ap₂, ◌∙◌, arith}
use Rattle.std.specs.List.{list_all}
use Rattle.std.proofs.lemmas.Bool.{and_parts}
use Rattle.std.proofs.lemmas.Grind.{flat_map-append}
use Rattle.rc_base.specs.Tree.{Tree, word, list, Trees, nil, cons}
use Rattle.rc_check.specs.Grammar.{forms_of, front_of, more_of}
use Rattle.rc_check.specs.Faults.{rule_of, behind_front, or_behind, place_at, count}
use Rattle.rc_check.specs.declared.grammar.Symbol.{Symbol}
use Rattle.rc_check.specs.declared.grammar.Rule.{Rule}
use Rattle.rc_check.specs.declared.grammar.Rule.TheVariants as rule
use Rattle.rc_check.specs.declared.role.Role.{Role}
use Rattle.rc_check.specs.SecondParts.{role_in, Standing, Part, atom, form, parts_at, parts_in, with_form, standing_in}
use Rattle.rc_sheet.proofs.Shapes.{rule_holds}
use Rattle.rc_sheet.proofs.Bodies.{each_passes, all_pass, standing_at}

-- a place, or none, is in a land
abbrev lies : (Symbol → Bool) → Option Symbol → Bool
lies land None = true
lies land (Some p) = land p

-- all parts of a form are in a land
abbrev pub lies_in : (Symbol → Bool) → Rule → Bool
lies_in land r = list_all land (front_of r) && lies land (more_of r)

-- A land that its forms don't leave, in which forms and atoms give nothing.
module _
    {X : Type 0}
    (given : Part → List X)
    (land : Symbol → Bool)
    (quiet : Rule → Bool)
    (takes : Role → Bool)
    (lawful : (p : Symbol) → land p ≡ true → list_all (λ r. quiet r && lies_in land r) (forms_of p) ≡ true)
    (no_sheet : quiet rule.Game ≡ false)
    (roles : (r : Rule) (outer : Role) (index : ℕ) → quiet r ≡ true → takes outer ≡ false → takes (role_in outer r index) ≡ false)
    (atoms : (at : Standing) (bytes : List ℕ) (from : ℕ) → takes at.role ≡ false → given (atom at bytes from) ≡ [])
    (forms : (at : Standing) (r : Rule) (parts : Trees) (from : ℕ) → quiet r ≡ true → given (form at r parts from) ≡ [])
  where
    behind_lies : (r : Rule) (last : Bool) (q : Symbol) → quiet r ≡ true → lies land (more_of r) ≡ true
        → behind_front r last ≡ Some q → land q ≡ true
    behind_lies rule.Game last q body more is = absurd cc
    behind_lies r last q body more is = subst (λ o. lies land o ≡ true) is more

    or_lies : (found behind : Option Symbol) (q : Symbol) → or_behind found behind ≡ Some q
        → (found ≡ Some q → land q ≡ true) → (behind ≡ Some q → land q ≡ true) → land q ≡ true
    or_lies (Some p) behind q is first second = first is
    or_lies None behind q is first second = second is

    inner_lies : (r : Rule) (n i : ℕ) (q : Symbol) → (quiet r && lies_in land r) ≡ true → place_at r n i ≡ Some q → land q ≡ true
    inner_lies r n i q both is =
        let first = and_parts (quiet r) (lies_in land r) both in
        let second = and_parts (list_all land (front_of r)) (lies land (more_of r)) first.1 in
        or_lies (slice_get (front_of r) i) (behind_front r (i + 1 == n)) q is
        (λ found. all_pass land (front_of r) i q second.0 found)
        (λ found. behind_lies r (i + 1 == n) q first.0 second.1 found)

    -- a list of a form or of none
    list_silent : (at : Standing) (parts : Trees) (from : ℕ) (found : Option Rule) → takes at.role ≡ false
        → ((r : Rule) → found ≡ Some r → (quiet r && lies_in land r) ≡ true)
        → ((r : Rule) → ((j : ℕ) (q : Symbol) → place_at r (count parts) j ≡ Some q
        → (land q ≡ true) × (takes (role_in at.role r j) ≡ false)) → flat_map given (parts_in at r parts 0 parts) ≡ [])
        → flat_map given (with_form at parts from (λ r. parts_in at r parts 0 parts) found) ≡ []
    list_silent at parts from None quiet_here lawful_here within = refl
    list_silent at parts from (Some r) quiet_here lawful_here within =
        let both = lawful_here r refl in
        let is_quiet = (and_parts (quiet r) (lies_in land r) both).0 in
        ap₂ (λ a b. a ++ b) (forms at r parts from is_quiet)
        (within r (λ j q is. (inner_lies r (count parts) j q both is, roles r at.role j is_quiet quiet_here)))

    placed_silent : (at : Standing) (r : Rule) (all : Trees) (index : ℕ) (o : Option Symbol) (tree : Tree)
        → ((q : Symbol) → o ≡ Some q → flat_map given (parts_at (Some (standing_at at r all index q)) tree) ≡ [])
        → flat_map given (parts_at (option_map (λ q. standing_at at r all index q) o) tree) ≡ []
    placed_silent at r all index None (word bytes from to) each = refl
    placed_silent at r all index None (list parts from to) each = refl
    placed_silent at r all index (Some q) tree each = each q refl

    mutual
      -- the parts of a tree there give nothing
      pub tree_silent : (at : Standing) (tree : Tree) → land at.place ≡ true → takes at.role ≡ false
          → flat_map given (parts_at (Some at) tree) ≡ []
      tree_silent at (word bytes from to) inside quiet_here =
          ap (λ l. l ++ []) (atoms at bytes from quiet_here)
      tree_silent at (list parts from to) inside quiet_here =
          list_silent at parts from (rule_of at.place parts) quiet_here
          (λ r is. rule_holds (λ r. (quiet r && lies_in land r) ≡ true) at.place parts r is
          (each_passes (λ r. quiet r && lies_in land r) (forms_of at.place) (lawful at.place inside)))
          (λ r each. row_silent at r parts 0 parts each)

      -- the same of a form's parts
      pub row_silent : (at : Standing) (r : Rule) (all : Trees) (index : ℕ) (trees : Trees)
          → ((j : ℕ) (q : Symbol) → place_at r (count all) j ≡ Some q
          → (land q ≡ true) × (takes (role_in at.role r j) ≡ false))
          → flat_map given (parts_in at r all index trees) ≡ []
      row_silent at r all index nil each = refl
      row_silent at r all index (cons tree trees) each =
          flat_map-append given (parts_at (standing_in at r all index) tree) (parts_in at r all (index + 1) trees)
          ∙ ap₂ (λ a b. a ++ b)
          (placed_silent at r all index (place_at r (count all) index) tree
          (λ q is. tree_silent (standing_at at r all index q) tree (each index q is).0 (each index q is).1))
          (row_silent at r all (index + 1) trees each)

-- parts of a form give nothing where each does
pub row_none : {X : Type 0} (given : Part → List X) (at : Standing) (r : Rule) (all : Trees) (low index : ℕ) (trees : Trees)
    → low ≤ index
    → ((j : ℕ) (q : Symbol) (tree : Tree) → low ≤ j → place_at r (count all) j ≡ Some q
    → flat_map given (parts_at (Some (standing_at at r all j q)) tree) ≡ [])
    → flat_map given (parts_in at r all index trees) ≡ []
row_none given at r all low index nil above each = refl
row_none {X} given at r all low index (cons tree trees) above each =
    flat_map-append given (parts_at (standing_in at r all index) tree) (parts_in at r all (index + 1) trees)
    ∙ ap₂ (λ a b. a ++ b) (by_place (place_at r (count all) index) tree (λ q is. each index q tree above is))
    (row_none given at r all low (index + 1) trees (omega (arith, above)) each)
  where
    by_place : (o : Option Symbol) (tree : Tree)
        → ((q : Symbol) → o ≡ Some q → flat_map given (parts_at (Some (standing_at at r all index q)) tree) ≡ [])
        → flat_map given (parts_at (option_map (λ q. standing_at at r all index q) o) tree) ≡ []
    by_place None (word bytes from to) each = refl
    by_place None (list parts from to) each = refl
    by_place (Some q) tree each = each q refl
