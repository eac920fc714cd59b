-- What the groups of a deck and the entries of points give is what their trees say in order.
use Rattle.std.proofs.Common.{◌≡◌, ℕ, ◌+◌, ◌≤◌, zero, suc, true, List, [], ◌++◌, Some, flat_map, option_map, refl, sym, subst, ap, ap₂, ◌∙◌, arith, eqb-true}
use Rattle.std.specs.List.{AllByRecursion}
use Rattle.std.proofs.lemmas.List.{append-nil, append_assoc}
use Rattle.std.proofs.lemmas.Grind.{flat_map-append}
use Rattle.rc_base.specs.Tree.{Tree, word, list, Trees, nil, cons}
use Rattle.rc_check.specs.Grammar.{forms_of}
use Rattle.rc_check.specs.Faults.{faults_at, faults_in, rule_of, place_at, count, fits}
use Rattle.rc_check.specs.declared.grammar.Symbol.{Symbol}
use Rattle.rc_check.specs.declared.grammar.Symbol.TheVariants as symbol
use Rattle.rc_check.specs.declared.grammar.Rule.{Rule}
use Rattle.rc_check.specs.declared.grammar.Rule.TheVariants as rule
use Rattle.rc_check.specs.declared.role.Role.TheVariants.{No as no_role, GivenValue as given_value}
use Rattle.rc_check.specs.SecondParts.{Standing, Part, atom, form, parts_at, parts_in, with_form, standing_in}
use Rattle.rc_sheet.proofs.Shapes.{none_in_both, shape_of, rule_holds, no_list_at}
use Rattle.rc_sheet.proofs.Bodies.{standing_at}

-- the one form of a place
pub sole : (p : Symbol) (r : Rule) (parts : Trees) (from to : ℕ) → AllByRecursion (λ x. x ≡ r) (forms_of p)
    → faults_at (Some p) (list parts from to) ≡ []
    → (rule_of p parts ≡ Some r) × (fits (count parts) r ≡ true) × (faults_in r (count parts) 0 parts ≡ [])
sole p r parts from to only none =
    let shape = shape_of p parts from to none in
    let same = rule_holds (λ x. x ≡ r) p parts shape.form shape.told only in (
      shape.told ∙ ap Some same,
      subst (λ x. fits (count parts) x ≡ true) same shape.fit,
      subst (λ x. faults_in x (count parts) 0 parts ≡ []) same shape.inner,
    )

-- behind one part that is fixed stand more
pub branch_behind : (n j : ℕ) → 1 ≤ j → place_at rule.Branch n j ≡ Some symbol.Group
branch_behind n zero above = absurd (omega (arith, above))
branch_behind n (suc j) above = refl

pub deck_behind : (n j : ℕ) → 1 ≤ j → place_at rule.Deck n j ≡ Some symbol.Group
deck_behind n zero above = absurd (omega (arith, above))
deck_behind n (suc j) above = refl

-- Groups by what an attribute gives and what a value gives, and what their trees say.
module _
    {X : Type 0}
    (given : Part → List X)
    (attr : List ℕ → List X)
    (value : List ℕ → List X)
    (in_groups : Trees → List X)
    (in_branches : Trees → List X)
    (no_groups : in_groups nil ≡ [])
    (some_group : (bytes : List ℕ) (a b c d e f : ℕ) (branches rest : Trees)
    → in_groups (cons (list (cons (word bytes a b) (cons (list branches c d) nil)) e f) rest)
    ≡ attr bytes ++ (in_branches branches ++ in_groups rest))
    (no_branches : in_branches nil ≡ [])
    (some_value : (bytes : List ℕ) (a b : ℕ) (rest : Trees)
    → in_branches (cons (word bytes a b) rest) ≡ value bytes ++ in_branches rest)
    (some_branch : (bytes : List ℕ) (a b c d : ℕ) (groups rest : Trees)
    → in_branches (cons (list (cons (word bytes a b) groups) c d) rest)
    ≡ value bytes ++ (in_groups groups ++ in_branches rest))
    (group_gives : (at : Standing) (bytes : List ℕ) (a b from : ℕ) (rest : Trees)
    → given (form at rule.Group (cons (word bytes a b) rest) from) ≡ attr bytes)
    (branches_give : (at : Standing) (parts : Trees) (from : ℕ) → given (form at rule.Branches parts from) ≡ [])
    (branch_gives : (at : Standing) (parts : Trees) (from : ℕ) → given (form at rule.Branch parts from) ≡ [])
    (plain_gives : (at : Standing) (bytes : List ℕ) (from : ℕ) → at.role ≡ no_role → given (atom at bytes from) ≡ [])
    (value_gives : (at : Standing) (bytes : List ℕ) (from : ℕ) → at.role ≡ given_value → given (atom at bytes from) ≡ value bytes)
  where
    -- a list of this form gives what the form gives, and its parts
    list_gives : (at : Standing) (r : Rule) (parts : Trees) (from to : ℕ) → rule_of at.place parts ≡ Some r
        → flat_map given (parts_at (Some at) (list parts from to))
        ≡ given (form at r parts from) ++ flat_map given (parts_in at r parts 0 parts)
    list_gives at r parts from to is = ap (λ o. flat_map given (with_form at parts from (λ r. parts_in at r parts 0 parts) o)) is

    -- the parts of a group give what its branches give
    group_row : (at : Standing) (bytes : List ℕ) (a b c d : ℕ) (branches : Trees) →
        let parts = cons (word bytes a b) (cons (list branches c d) nil) in
        flat_map given (parts_in at rule.Group parts 0 parts)
        ≡ flat_map given (parts_at (Some (standing_at at rule.Group parts 1 symbol.Branches)) (list branches c d))
    group_row at bytes a b c d branches =
        let parts = cons (word bytes a b) (cons (list branches c d) nil) in
        let below = parts_at (Some (standing_at at rule.Group parts 1 symbol.Branches)) (list branches c d) in
        ap₂ (λ x y. x ++ y) (plain_gives (standing_at at rule.Group parts 0 symbol.Name) bytes a refl)
        (ap (flat_map given) (append-nil below))

    mutual
      -- groups among the parts of a form
      pub groups_give : (at : Standing) (r : Rule) (all : Trees) (low index : ℕ) (trees : Trees) → low ≤ index
          → ((j : ℕ) → low ≤ j → place_at r (count all) j ≡ Some symbol.Group) → faults_in r (count all) index trees ≡ []
          → in_groups trees ≡ flat_map given (parts_in at r all index trees)
      groups_give at r all low index nil above each none = no_groups
      groups_give at r all low index (cons tree trees) above each none =
          let apart = none_in_both (faults_at (place_at r (count all) index) tree) (faults_in r (count all)
          (index + 1) trees) none in
          let here = each index above in
          let stands : standing_in at r all index ≡ Some (standing_at at r all index symbol.Group) =
          ap (λ o. option_map (λ q. standing_at at r all index q) o) here in
          group_first (standing_at at r all index symbol.Group) refl tree trees (subst (λ o. faults_at o tree ≡ []) here apart.0)
          ∙ ap₂ (λ a b. a ++ b) (ap (λ o. flat_map given (parts_at o tree)) (sym stands))
          (groups_give at r all low (index + 1) trees (omega (arith, above)) each apart.1)
          ∙ sym (flat_map-append given (parts_at (standing_in at r all index) tree) (parts_in at r all (index + 1) trees))

      -- one group, and others behind it
      group_first : (at : Standing) → at.place ≡ symbol.Group → (tree : Tree) (rest : Trees)
          → faults_at (Some symbol.Group) tree ≡ []
          → in_groups (cons tree rest) ≡ flat_map given (parts_at (Some at) tree) ++ in_groups rest
      group_first at here (word bytes from to) rest none = absurd cc
      group_first at here (list nil from to) rest none = absurd cc
      group_first at here (list (cons a nil) from to) rest none =
          let shape = sole symbol.Group rule.Group (cons a nil) from to (refl, tt) none in
          let two = eqb-true (count (cons a nil)) 2 shape.1 in absurd cc
      group_first at here (list (cons (list parts a b) (cons second nil)) from to) rest none =
          let shape = sole symbol.Group rule.Group (cons (list parts a b) (cons second nil)) from to (refl, tt) none in
          absurd
          (no_list_at symbol.Name parts a b refl (none_in_both (faults_at (Some symbol.Name) (list parts a b)) _ shape.2).0)
      group_first at here (list (cons (word bytes a b) (cons (word other c d) nil)) from to) rest none =
          let shape = sole symbol.Group rule.Group (cons (word bytes a b) (cons (word other c d) nil)) from to (refl, tt) none in
          let apart = none_in_both (faults_at (Some symbol.Name) (word bytes a b)) _ shape.2 in
          let second : faults_at (Some symbol.Branches) (word other c d) ≡ [] =
          (none_in_both (faults_at (Some symbol.Branches) (word other c d)) [] apart.1).0 in
          absurd cc
      group_first at here (list (cons first (cons second (cons third parts))) from to) rest none =
          let shape = sole symbol.Group rule.Group (cons first (cons second (cons third parts))) from to (refl, tt) none in
          let two = eqb-true (count (cons first (cons second (cons third parts)))) 2 shape.1 in absurd (omega (arith, two))
      group_first at here (list (cons (word bytes a b) (cons (list branches c d) nil)) from to) rest none =
          let parts = cons (word bytes a b) (cons (list branches c d) nil) in
          let shape = sole symbol.Group rule.Group parts from to (refl, tt) none in
          let apart = none_in_both (faults_at (Some symbol.Name) (word bytes a b)) _ shape.2 in
          let second = none_in_both (faults_at (Some symbol.Branches) (list branches c d)) [] apart.1 in
          let below = sole symbol.Branches rule.Branches branches c d (refl, tt) second.0 in
          let stand = standing_at at rule.Group parts 1 symbol.Branches in
          let inside : flat_map given (parts_at (Some at) (list parts from to)) ≡ attr bytes ++ in_branches branches =
          list_gives at rule.Group parts from to (ap (λ p. rule_of p parts) here ∙ shape.0)
          ∙ ap₂ (λ x y. x ++ y) (group_gives at bytes a b from (cons (list branches c d) nil))
          (group_row at bytes a b c d branches
          ∙ list_gives stand rule.Branches branches c d below.0
          ∙ ap₂ (λ x y. x ++ y) (branches_give stand branches c) (sym (branches_give_all stand branches 0 branches below.2))) in
          some_group bytes a b c d from to branches rest
          ∙ sym (append_assoc (attr bytes) (in_branches branches) (in_groups rest))
          ∙ ap (λ l. l ++ in_groups rest) (sym inside)

      -- branches among the parts of their list
      branches_give_all : (at : Standing) (all : Trees) (index : ℕ) (trees : Trees)
          → faults_in rule.Branches (count all) index trees ≡ []
          → in_branches trees ≡ flat_map given (parts_in at rule.Branches all index trees)
      branches_give_all at all index nil none = no_branches
      branches_give_all at all index (cons (word bytes a b) rest) none =
          let apart = none_in_both (faults_at (Some symbol.Branch) (word bytes a b)) (faults_in rule.Branches (count all)
          (index + 1) rest)
          none in
          some_value bytes a b rest
          ∙ ap₂ (λ x y. x ++ y) (sym (value_gives (standing_at at rule.Branches all index symbol.Branch) bytes a refl))
          (branches_give_all at all (index + 1) rest apart.1)
      branches_give_all at all index (cons (list nil c d) rest) none = absurd cc
      branches_give_all at all index (cons (list (cons (list inner a b) groups) c d) rest) none =
          let parts = cons (list inner a b) groups in
          let apart = none_in_both (faults_at (Some symbol.Branch) (list parts c d)) (faults_in rule.Branches (count all)
          (index + 1) rest)
          none in
          let shape = sole symbol.Branch rule.Branch parts c d (refl, tt) apart.0 in
          absurd (no_list_at symbol.Name inner a b refl (none_in_both (faults_at (Some symbol.Name) (list inner a b)) _ shape.2).0)
      branches_give_all at all index (cons (list (cons (word bytes a b) groups) c d) rest) none =
          let parts = cons (word bytes a b) groups in
          let apart = none_in_both (faults_at (Some symbol.Branch) (list parts c d)) (faults_in rule.Branches (count all)
          (index + 1) rest)
          none in
          let shape = sole symbol.Branch rule.Branch parts c d (refl, tt) apart.0 in
          let inner = none_in_both (faults_at (Some symbol.Name) (word bytes a b)) _ shape.2 in
          let stand = standing_at at rule.Branches all index symbol.Branch in
          let inside : flat_map given (parts_at (Some stand) (list parts c d)) ≡ value bytes ++ in_groups groups =
          list_gives stand rule.Branch parts c d shape.0
          ∙ ap₂ (λ x y. x ++ y) (branch_gives stand parts c)
          (ap₂ (λ x y. x ++ y) (value_gives (standing_at stand rule.Branch parts 0 symbol.Name) bytes a refl)
          (sym (groups_give stand rule.Branch parts 1 1 groups (omega arith) (branch_behind (count parts)) inner.1))) in
          some_branch bytes a b c d groups rest
          ∙ sym (append_assoc (value bytes) (in_groups groups) (in_branches rest))
          ∙ ap₂ (λ x y. x ++ y) (sym inside) (branches_give_all at all (index + 1) rest apart.1)
          ∙ sym (flat_map-append given (parts_at (Some stand) (list parts c d)) (parts_in at rule.Branches all (index + 1) rest))
