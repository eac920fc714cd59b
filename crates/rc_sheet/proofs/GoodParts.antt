-- Trees that stand well in a form: they are of their place's shape, and all their parts are fine. A list that stands well is
-- a form each of whose parts does.
use Rattle.std.proofs.Common.{◌≡◌, ℕ, ◌+◌, ◌≤◌, Bool, true, false, cond, List, [], Option, Some, None, option_map, nat_lt, refl, sym, subst, ap, ◌∙◌, arith, ltb-true}
use Rattle.std.specs.List.{AllByRecursion}
use Rattle.rc_base.specs.Tree.{Tree, word, list, Trees, nil, cons}
use Rattle.rc_deck.proofs.EachLemmas.{parts_of_append}
use Rattle.rc_sheet_spec.specs.Naming.{Naming}
use Rattle.rc_check.specs.SecondParts.{Standing, parts_at, parts_in, standing_in, with_form}
use Rattle.rc_check.specs.Grammar.{forms_of}
use Rattle.rc_check.specs.Faults.{faults_at, faults_in, told_faults, lacks_players, rule_of, place_at, count, fits}
use Rattle.rc_check.specs.declared.grammar.Symbol.{Symbol}
use Rattle.rc_check.specs.declared.grammar.Rule.{Rule}
use Rattle.rc_sheet.specs.ReadNames.{◌>>=◌, sized, rule_at}
use Rattle.rc_sheet.proofs.Fine.Common.{Given, IsFine, IsFineForm}
use Rattle.rc_sheet.proofs.Finds.{Finds}
use Rattle.rc_sheet.proofs.Shapes.{none_in_both, inner_faults, rule_holds}

infixr 5 ◌▹◌
-- the proof for the first form of a place, and those for the others
abbrev pub ◌▹◌ : {A B : Type 0} → A → B → A × B
first ▹ others = (first, others)

-- P holds of each of the trees
abbrev pub Each : (Tree → Type 0) → Trees → Type 0
Each P nil = Unit {0}
Each P (cons tree trees) = P tree × Each P trees

-- what holds of a list where it holds of each of its parts holds of every tree
mutual
  pub by_parts : {P : Tree → Type 0} → ((bytes : List ℕ) (from to : ℕ) → P (word bytes from to))
      → ((parts : Trees) (from to : ℕ) → Each P parts → P (list parts from to)) → (tree : Tree) → P tree
  by_parts words lists (word bytes from to) = words bytes from to
  by_parts words lists (list parts from to) = lists parts from to (each_by_parts words lists parts)

  -- and of each of several trees
  pub each_by_parts : {P : Tree → Type 0} → ((bytes : List ℕ) (from to : ℕ) → P (word bytes from to))
      → ((parts : Trees) (from to : ℕ) → Each P parts → P (list parts from to)) → (trees : Trees) → Each P trees
  each_by_parts words lists nil = tt
  each_by_parts words lists (cons tree trees) = (by_parts words lists tree, each_by_parts words lists trees)

-- so many parts, and one more at least
pub one_and_more : (P : Trees → Type 0) (parts : Trees) → nat_lt 1 (count parts) ≡ true
    → ((a : Tree) (rest : Trees) → 1 ≤ count rest → P (cons a rest)) → P parts
one_and_more P nil is then = absurd cc
one_and_more P (cons a rest) is then = let more = ltb-true 1 (count (cons a rest)) is in then a rest (omega (arith, more))

-- behind two
pub two_and_more : (P : Trees → Type 0) (parts : Trees) → nat_lt 2 (count parts) ≡ true
    → ((a b : Tree) (rest : Trees) → 1 ≤ count rest → P (cons a (cons b rest))) → P parts
two_and_more P nil is then = absurd cc
two_and_more P (cons a nil) is then = absurd cc
two_and_more P (cons a (cons b rest)) is then =
    let more = ltb-true 2 (count (cons a (cons b rest))) is in then a b rest (omega (arith, more))

-- behind three
pub three_and_more : (P : Trees → Type 0) (parts : Trees) → nat_lt 3 (count parts) ≡ true
    → ((a b c : Tree) (rest : Trees) → 1 ≤ count rest → P (cons a (cons b (cons c rest)))) → P parts
three_and_more P nil is then = absurd cc
three_and_more P (cons a nil) is then = absurd cc
three_and_more P (cons a (cons b nil)) is then = absurd cc
three_and_more P (cons a (cons b (cons c rest))) is then =
    let more = ltb-true 3 (count (cons a (cons b (cons c rest)))) is in then a b c rest (omega (arith, more))

-- a form that fits is found
pub sized_finds : {A : Type 0} {P : A → Type 0} (n : ℕ) (rule : Rule) (read : Rule → Option A) → fits n rule ≡ true
    → Finds (read rule) P → Finds (sized n (Some rule) >>= read) P
sized_finds {P = P} n rule read is found = by (fits n rule) is
  where
    by : (b : Bool) → b ≡ true → Finds (cond b (Some rule) None >>= read) P
    by true is = found
    by false is = absurd cc

module _ (given : Given) (naming : Naming) where
  -- a tree is of the shape that its place wants, and all its parts are fine
  pub record IsGood (at : Standing) (tree : Tree) : Type 0 where
    pub shaped : faults_at (Some at.place) tree ≡ []
    pub fine : AllByRecursion (IsFine given naming) (parts_at (Some at) tree)

  -- where it has a place
  abbrev pub GoodAt : Option Standing → Tree → Type 0
  GoodAt None tree = Unit {0}
  GoodAt (Some at) tree = IsGood at tree

  -- the parts of a form do so, from the one at this index on
  abbrev pub AreGood : Standing → Rule → Trees → ℕ → Trees → Type 0
  AreGood at rule all index nil = Unit {0}
  AreGood at rule all index (cons tree trees) =
      GoodAt (standing_in at rule all index) tree × AreGood at rule all (index + 1) trees

  -- a list is a form whose parts do so
  pub record IsGoodForm (at : Standing) (rule : Rule) (parts : Trees) : Type 0 where
    pub told : rule_of at.place parts ≡ Some rule
    pub fit : fits (count parts) rule ≡ true
    pub fine : IsFineForm naming at rule parts
    pub good : AreGood at rule parts 0 parts

  -- where a place is known, a tree stands in it as its shape and its parts say
  good_at : (found : Option Symbol) (stand : Symbol → Standing) (tree : Tree) → ((place : Symbol) → (stand place).place ≡ place)
      → faults_at found tree ≡ [] → AllByRecursion (IsFine given naming) (parts_at (option_map stand found) tree)
      → GoodAt (option_map stand found) tree
  good_at None stand tree same shaped fine = tt
  good_at (Some place) stand tree same shaped fine =
      record { shaped = subst (λ p. faults_at (Some p) tree ≡ []) (sym (same place)) shaped; fine = fine }

  -- the parts of a form stand well
  pub are_good : (at : Standing) (rule : Rule) (all : Trees) (index : ℕ) (trees : Trees)
      → faults_in rule (count all) index trees ≡ []
      → AllByRecursion (IsFine given naming) (parts_in at rule all index trees) → AreGood at rule all index trees
  are_good at rule all index nil shaped fine = tt
  are_good at rule all index (cons tree trees) shaped fine =
      let none = none_in_both (faults_at (place_at rule (count all) index) tree) _ shaped in
      let both = parts_of_append (IsFine given naming) (parts_at (standing_in at rule all index) tree) _ fine in (
        good_at (place_at rule (count all) index) _ tree (λ place. refl) none.0 both.0,
        are_good at rule all (index + 1) trees none.1 both.1,
      )

  -- a list with its rule found
  form_at : (at : Standing) (parts : Trees) (from : ℕ) (found : Option Rule) → rule_of at.place parts ≡ found
      → told_faults at.place from parts (λ rule. faults_in rule (count parts) 0 parts) found ≡ []
      → AllByRecursion (IsFine given naming) (with_form at parts from (λ rule. parts_in at rule parts 0 parts) found)
      → (rule : Rule) × IsGoodForm at rule parts
  form_at at parts from None is shaped fine = absurd cc
  form_at at parts from (Some rule) is shaped fine =
      let none = inner_faults (fits (count parts) rule) (lacks_players rule parts) _ _ _ shaped in
      (rule, record { told = is; fit = none.0; fine = fine.0; good = are_good at rule parts 0 parts none.1 fine.1 })

  -- a list that stands well is a form
  pub good_form : (at : Standing) (parts : Trees) (from to : ℕ) → IsGood at (list parts from to)
      → (rule : Rule) × IsGoodForm at rule parts
  good_form at parts from to good = form_at at parts from (rule_of at.place parts) refl good.shaped good.fine

  -- a list at a place with one form is of that form
  pub only_form : (p : Symbol) (r : Rule) (at : Standing) (parts : Trees) (from to : ℕ) → at.place ≡ p
      → AllByRecursion (λ x. x ≡ r) (forms_of p) → IsGood at (list parts from to) → IsGoodForm at r parts
  only_form p r at parts from to here only good =
      let found = good_form at parts from to good in
      let same = rule_holds (λ x. x ≡ r) p parts found.0 (sym (ap (λ p. rule_of p parts) here) ∙ found.1.told) only in
      subst (λ x. IsGoodForm at x parts) same found.1

  -- What a list says is found where it is found by each of the forms that it may have. The forms may be told of another place
  -- that has the same.
  pub finds_by : {A : Type 0} {P : A → Type 0} (read : Rule → Option A) (place : Symbol) (at : Standing) (parts : Trees)
      (from to : ℕ) → rule_of at.place parts ≡ rule_of place parts → IsGood at (list parts from to)
      → AllByRecursion (λ rule. IsGoodForm at rule parts → Finds (read rule) P) (forms_of place)
      → Finds (rule_at place parts >>= read) P
  finds_by {P = P} read place at parts from to same good each =
      let found = good_form at parts from to good in
      let is = sym same ∙ found.1.told in
      let found_form = rule_holds (λ rule. IsGoodForm at rule parts → Finds (read rule) P) place parts found.0 is each in
      subst (λ o. Finds (sized (count parts) o >>= read) P) (sym is)
      (sized_finds (count parts) found.0 read found.1.fit (found_form found.1))

  -- the same by its own place
  pub list_finds : {A : Type 0} {P : A → Type 0} (read : Rule → Option A) (place : Symbol) (at : Standing) (parts : Trees)
      (from to : ℕ) → at.place ≡ place → IsGood at (list parts from to)
      → AllByRecursion (λ rule. IsGoodForm at rule parts → Finds (read rule) P) (forms_of place)
      → Finds (rule_at place parts >>= read) P
  list_finds read place at parts from to here good each =
      finds_by read place at parts from to (ap (λ p. rule_of p parts) here) good each

  -- no list stands where there are no forms
  pub no_list : (place : Symbol) (at : Standing) (parts : Trees) (from to : ℕ) → at.place ≡ place → IsGood at (list parts from to)
      → forms_of place ≡ [] → ⊥
  no_list place at parts from to here good none =
      let found = good_form at parts from to good in
      rule_holds (λ rule. ⊥) place parts found.0 (sym (ap (λ p. rule_of p parts) here) ∙ found.1.told)
      (subst (AllByRecursion (λ rule. ⊥)) (sym none) tt)
