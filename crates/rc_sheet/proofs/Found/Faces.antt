-- The groups of a deck and the entries of points are found where they stand well: each attribute and each value has a number.
use Rattle.std.proofs.Common.{◌≡◌, ℕ, ◌+◌, ◌≤◌, true, false, not, List, [], Option, Some, None, option_map, position, bytes_eq, ℤ, refl, subst, ap, arith, eqb-true, ltb-true}
use Rattle.std.specs.Prelude.{codes, pos, neg_ℤ}
use Rattle.std.specs.Option.{option_and_then, option_to_list}
use Rattle.std.proofs.lemmas.Bool.{not-true}
use Rattle.rc_base.specs.Literal.{integer}
use Rattle.rc_base.specs.Tree.{Tree, word, list, Trees, nil, cons}
use Rattle.rc_base.specs.Deck.{no_group, group, no_branch, branch}
use Rattle.rc_sheet_spec.specs.Naming.{Naming}
use Rattle.rc_base.specs.Clamp.{largest_number, is_within_clamp}
use Rattle.rc_check.specs.Faults.{is_word, is_variable, is_within, is_number, atom_kind, atom_faults, place_at, count}
use Rattle.rc_check.specs.declared.keyword.Keyword.TheVariants as keyword
use Rattle.rc_check.specs.declared.grammar.Symbol.{Symbol}
use Rattle.rc_check.specs.declared.grammar.Symbol.TheVariants as symbol
use Rattle.rc_check.specs.declared.grammar.Rule.{Rule}
use Rattle.rc_check.specs.declared.grammar.Rule.TheVariants as rule
use Rattle.rc_check.specs.declared.fault.SheetKind.{SheetKind}
use Rattle.rc_check.specs.declared.fault.SheetKind.TheVariants.{Shape, Number}
use Rattle.rc_check.specs.declared.fault.SheetFault.{SheetFault}
use Rattle.rc_check.specs.declared.role.Role.TheVariants.{GivenValue as given_value}
use Rattle.rc_check.specs.SecondParts.{Standing, standing_in, bytes_of}
use Rattle.rc_resolve.specs.NamedNumbers.{number_of}
use Rattle.rc_resolve.specs.Reading.{unless_nil, plain, read_groups, read_group, read_branches, read_branch, read_deck, read_values, read_value_list, unclamped, read_points, entry_with, read_entry, read_all_entries, read_entries}
use Rattle.rc_resolve.specs.Reading.{both as both_read}
use Rattle.rc_resolve.specs.Reading.{is_word as is_read_word}
use Rattle.rc_sheet.specs.ReadSetup.{face_words}
use Rattle.rc_sheet.proofs.Bodies.{standing_at}
use Rattle.rc_sheet.proofs.Given.Faces.{branch_behind, deck_behind}
use Rattle.rc_sheet.proofs.Fine.Common.{Given, IsNamed, HasNumber}
use Rattle.rc_sheet.proofs.Finds.{Finds, finds, finds_if, makes, where_true, where_false}
use Rattle.rc_sheet.proofs.GoodParts.{IsGood, GoodAt, AreGood, IsGoodForm, only_form, no_list}
use Rattle.rc_sheet.proofs.Shapes.{three_only}
use Rattle.rc_sheet.proofs.Fine.Names.{passes_test, named_place}

-- something is read
abbrev pub IsFound : {A : Type 0} → Option A → Type 0
IsFound found = Finds found (λ a. Unit {0})

-- what is made of two
both_found : {A B C : Type 0} (make : A → B → C) (first : Option A) (second : Option B) → IsFound first → IsFound second
    → IsFound (both_read make first second)
both_found make None second p q = absurd p.holds
both_found make (Some a) None p q = absurd q.holds
both_found make (Some a) (Some b) p q = finds (make a b) tt

-- where there are trees
unless_found : {A : Type 0} (trees : Trees) (found : Option A) → 1 ≤ count trees → IsFound found
    → IsFound (unless_nil trees found)
unless_found nil found some is = absurd (omega (arith, some))
unless_found (cons tree trees) found some is = is

-- a plain word among these has a number
number_found : (names : List (List ℕ)) (bytes : List ℕ) (from to : ℕ) → is_variable bytes ≡ false → IsNamed bytes names
    → IsFound (number_of names (word bytes from to))
number_found names bytes from to plain named =
    let n = named_place bytes names named in
    where_false (is_variable bytes) None (position (bytes_eq bytes) names) plain
    (finds_if (position (bytes_eq bytes) names) n.0 n.1 tt)

-- a number in range is within the clamp
clamp_found : (found : Option ℤ) → is_within (neg_ℤ (pos largest_number)) (pos largest_number) found ≡ true
    → IsFound (option_and_then unclamped found)
clamp_found None is = absurd cc
clamp_found (Some points) is =
    where_true (is_within_clamp points) (Some points) None is (finds points tt)

module _ (given : Given) (naming : Naming) where
  -- no atom stands where its place refuses it
  pub no_word : (p : Symbol) (at : Standing) (bytes : List ℕ) (from to : ℕ) → at.place ≡ p
      → IsGood given naming at (word bytes from to) → atom_kind p bytes ≡ Some Shape → ⊥
  no_word p at bytes from to here good is =
      by (atom_kind p bytes) is (subst (λ p. atom_faults p bytes from ≡ []) here good.shaped)
    where
      by : (found : Option SheetKind) → found ≡ Some Shape
          → option_to_list {X = SheetFault} (option_map (λ kind. record { kind = kind; at = from }) found) ≡ [] → ⊥
      by None is none = cc
      by (Some kind) is none = cc

  -- a name among these
  name_found : (names : List (List ℕ)) (at : Standing) (tree : Tree) → at.place ≡ symbol.Name → IsGood given naming at tree
      → IsNamed (bytes_of tree) names → IsFound (number_of names tree)
  name_found names at (word bytes from to) here good named =
      let plain = passes_test (not (is_variable bytes)) Shape from
      (subst (λ p. atom_faults p bytes from ≡ []) here good.shaped) in
      number_found names bytes from to (not-true (is_variable bytes) plain) named
  name_found names at (list parts from to) here good named = absurd
      (no_list given naming symbol.Name at parts from to here good refl)

  -- a value's word is numbered
  value_named : (at : Standing) (bytes : List ℕ) (from to : ℕ) → at.role ≡ given_value
      → IsGood given naming at (word bytes from to) → IsNamed bytes naming.names.values
  value_named at bytes from to role good = subst (λ r. HasNumber given naming r bytes) role good.fine.0.numbered

  -- a value's name
  value_found : (at : Standing) (tree : Tree) → at.place ≡ symbol.Name → at.role ≡ given_value → IsGood given naming at tree
      → IsFound (number_of naming.names.values tree)
  value_found at (word bytes from to) here role good =
      name_found naming.names.values at (word bytes from to) here good (value_named at bytes from to role good)
  value_found at (list parts from to) here role good = absurd (no_list given naming symbol.Name at parts from to here good refl)

  -- THE GROUPS OF A DECK

  mutual
    -- groups among the parts of a form
    groups_found : (at : Standing) (r : Rule) (all : Trees) (index : ℕ) (trees : Trees) → 1 ≤ index
        → ((j : ℕ) → 1 ≤ j → place_at r (count all) j ≡ Some symbol.Group) → AreGood given naming at r all index trees
        → IsFound (read_groups (face_words naming) trees)
    groups_found at r all index nil above each good = finds no_group tt
    groups_found at r all index (cons tree trees) above each good =
        let stand = standing_at at r all index symbol.Group in
        let stands : standing_in at r all index ≡ Some stand =
        ap (λ o. option_map (λ q. standing_at at r all index q) o) (each index above) in
        both_found (λ first rest. group first.0 first.1 rest) (read_group (face_words naming) tree)
        (read_groups (face_words naming) trees)
        (group_found stand refl tree (subst (λ o. GoodAt given naming o tree) stands good.0))
        (groups_found at r all (index + 1) trees (omega (arith, above)) each good.1)

    group_found : (at : Standing) → at.place ≡ symbol.Group → (tree : Tree) → IsGood given naming at tree
        → IsFound (read_group (face_words naming) tree)
    group_found at here (word bytes from to) good = absurd (no_word symbol.Group at bytes from to here good refl)
    group_found at here (list nil from to) good =
        let form = only_form given naming symbol.Group rule.Group at nil from to here (refl, tt) good in
        let two = eqb-true 0 2 form.fit in absurd (omega (arith, two))
    group_found at here (list (cons head nil) from to) good =
        let form = only_form given naming symbol.Group rule.Group at (cons head nil) from to here (refl, tt) good in
        let two = eqb-true 1 2 form.fit in absurd (omega (arith, two))
    group_found at here (list (cons head (cons (word bytes a b) nil)) from to) good =
        let parts = cons head (cons (word bytes a b) nil) in
        let form = only_form given naming symbol.Group rule.Group at parts from to here (refl, tt) good in
        absurd (no_word symbol.Branches (standing_at at rule.Group parts 1 symbol.Branches) bytes a b refl form.good.1.0 refl)
    group_found at here (list (cons head (cons second (cons third rest))) from to) good =
        let parts = cons head (cons second (cons third rest)) in
        let form = only_form given naming symbol.Group rule.Group at parts from to here (refl, tt) good in
        let two = eqb-true (count parts) 2 form.fit in absurd (omega (arith, two))
    group_found at here (list (cons head (cons (list branches a b) nil)) from to) good =
        let parts = cons head (cons (list branches a b) nil) in
        let form = only_form given naming symbol.Group rule.Group at parts from to here (refl, tt) good in
        let stand = standing_at at rule.Group parts 1 symbol.Branches in
        let inner = only_form given naming symbol.Branches rule.Branches stand branches a b refl (refl, tt) form.good.1.0 in
        let some = ltb-true 0 (count branches) inner.fit in
        both_found (λ attr found. (attr, found)) (number_of naming.names.attrs head)
        (unless_nil branches (read_branches (face_words naming) branches))
        (name_found naming.names.attrs (standing_at at rule.Group parts 0 symbol.Name) head refl form.good.0 form.fine.fits.1)
        (unless_found branches (read_branches (face_words naming) branches) (omega (arith, some))
        (branches_found stand branches 0 branches inner.good))

    branches_found : (at : Standing) (all : Trees) (index : ℕ) (trees : Trees)
        → AreGood given naming at rule.Branches all index trees
        → IsFound (read_branches (face_words naming) trees)
    branches_found at all index nil good = finds no_branch tt
    branches_found at all index (cons tree trees) good =
        both_found (λ first rest. branch first.0 first.1 rest) (read_branch (face_words naming) tree)
        (read_branches (face_words naming) trees)
        (branch_found (standing_at at rule.Branches all index symbol.Branch) refl refl tree good.0)
        (branches_found at all (index + 1) trees good.1)

    branch_found : (at : Standing) → at.place ≡ symbol.Branch → at.role ≡ given_value → (tree : Tree) → IsGood given naming at tree
        → IsFound (read_branch (face_words naming) tree)
    branch_found at here role (word bytes from to) good =
        let fits = passes_test (not (is_variable bytes)) Shape from
        (subst (λ p. atom_faults p bytes from ≡ []) here good.shaped) in
        makes (number_of naming.names.values (word bytes from to)) plain
        (number_found naming.names.values bytes from to (not-true (is_variable bytes) fits)
        (value_named at bytes from to role good))
        (λ number u. tt)
    branch_found at here role (list nil from to) good =
        let form = only_form given naming symbol.Branch rule.Branch at nil from to here (refl, tt) good in
        let more = ltb-true 1 0 form.fit in absurd (omega (arith, more))
    branch_found at here role (list (cons head groups) from to) good =
        let parts = cons head groups in
        let form = only_form given naming symbol.Branch rule.Branch at parts from to here (refl, tt) good in
        let more = ltb-true 1 (count parts) form.fit in
        both_found (λ number inner. (number, inner)) (number_of naming.names.values head)
        (unless_nil groups (read_groups (face_words naming) groups))
        (value_found (standing_at at rule.Branch parts 0 symbol.Name) head refl refl form.good.0)
        (unless_found groups (read_groups (face_words naming) groups) (omega (arith, more))
        (groups_found at rule.Branch parts 1 groups (omega arith) (branch_behind (count parts)) form.good.1))

  -- the word of a deck
  deck_word : (at : Standing) (tree : Tree) → at.place ≡ symbol.Word keyword.Deck → IsGood given naming at tree
      → is_read_word (codes "deck") tree ≡ true
  deck_word at (word bytes from to) here good =
      passes_test (is_word keyword.Deck bytes) Shape from (subst (λ p. atom_faults p bytes from ≡ []) here good.shaped)
  deck_word at (list parts from to) here good =
      absurd (no_list given naming (symbol.Word keyword.Deck) at parts from to here good refl)

  -- a deck
  pub deck_found : (at : Standing) (tree : Tree) → at.place ≡ symbol.Deck → IsGood given naming at tree
      → IsFound (read_deck (face_words naming) tree)
  deck_found at (word bytes from to) here good = absurd (no_word symbol.Deck at bytes from to here good refl)
  deck_found at (list nil from to) here good =
      let form = only_form given naming symbol.Deck rule.Deck at nil from to here (refl, tt) good in
      let more = ltb-true 1 0 form.fit in absurd (omega (arith, more))
  deck_found at (list (cons head groups) from to) here good =
      let parts = cons head groups in
      let form = only_form given naming symbol.Deck rule.Deck at parts from to here (refl, tt) good in
      let more = ltb-true 1 (count parts) form.fit in
      where_true (is_read_word (codes "deck") head) (unless_nil groups (read_groups (face_words naming) groups)) None
      (deck_word (standing_at at rule.Deck parts 0 (symbol.Word keyword.Deck)) head refl form.good.0)
      (unless_found groups (read_groups (face_words naming) groups) (omega (arith, more))
      (groups_found at rule.Deck parts 1 groups (omega arith) (deck_behind (count parts)) form.good.1))

  -- THE ENTRIES OF POINTS

  -- values among the parts of their list
  values_found : (at : Standing) (all : Trees) (index : ℕ) (trees : Trees) → AreGood given naming at rule.Values all index trees
      → IsFound (read_values (face_words naming) trees)
  values_found at all index nil good = finds [] tt
  values_found at all index (cons tree trees) good =
      both_found _ (number_of naming.names.values tree) (read_values (face_words naming) trees)
      (value_found (standing_at at rule.Values all index symbol.Name) tree refl refl good.0)
      (values_found at all (index + 1) trees good.1)

  value_list_found : (at : Standing) (tree : Tree) → at.place ≡ symbol.Values → IsGood given naming at tree
      → IsFound (read_value_list (face_words naming) tree)
  value_list_found at (word bytes from to) here good = absurd (no_word symbol.Values at bytes from to here good refl)
  value_list_found at (list parts from to) here good =
      let form = only_form given naming symbol.Values rule.Values at parts from to here (refl, tt) good in
      let some = ltb-true 0 (count parts) form.fit in
      unless_found parts (read_values (face_words naming) parts) (omega (arith, some)) (values_found at parts 0 parts form.good)

  -- how many points
  points_found : (at : Standing) (tree : Tree) → at.place ≡ symbol.Points → IsGood given naming at tree
      → IsFound (read_points tree)
  points_found at (word bytes from to) here good =
      clamp_found (integer bytes)
      (passes_test (is_number bytes) Number from (subst (λ p. atom_faults p bytes from ≡ []) here good.shaped))
  points_found at (list parts from to) here good = absurd (no_list given naming symbol.Points at parts from to here good refl)

  -- an entry
  entry_found : (at : Standing) (tree : Tree) → at.place ≡ symbol.Entry → IsGood given naming at tree
      → IsFound (read_entry (face_words naming) tree)
  entry_found at (word bytes from to) here good = absurd (no_word symbol.Entry at bytes from to here good refl)
  entry_found at (list parts from to) here good =
      let form = only_form given naming symbol.Entry rule.Entry at parts from to here (refl, tt) good in
      three_only (λ parts. IsGoodForm given naming at rule.Entry parts
      → IsFound (read_entry (face_words naming) (list parts from to)))
      parts form.fit
      (λ head values points form.
      let all = cons head (cons values (cons points nil)) in
      both_found entry_with (number_of naming.names.attrs head)
      (both_read (λ values points. (values, points)) (read_value_list (face_words naming) values) (read_points points))
      (name_found naming.names.attrs (standing_at at rule.Entry all 0 symbol.Name) head refl form.good.0 form.fine.fits)
      (both_found (λ values points. (values, points)) (read_value_list (face_words naming) values) (read_points points)
      (value_list_found (standing_at at rule.Entry all 1 symbol.Values) values refl form.good.1.0)
      (points_found (standing_at at rule.Entry all 2 symbol.Points) points refl form.good.1.1.0)))
      form

  -- entries among the parts of their list
  all_entries_found : (at : Standing) (all : Trees) (index : ℕ) (trees : Trees)
      → AreGood given naming at rule.Entries all index trees → IsFound (read_all_entries (face_words naming) trees)
  all_entries_found at all index nil good = finds [] tt
  all_entries_found at all index (cons tree trees) good =
      both_found _ (read_entry (face_words naming) tree) (read_all_entries (face_words naming) trees)
      (entry_found (standing_at at rule.Entries all index symbol.Entry) tree refl good.0)
      (all_entries_found at all (index + 1) trees good.1)

  pub entries_found : (at : Standing) (tree : Tree) → at.place ≡ symbol.Entries → IsGood given naming at tree
      → IsFound (read_entries (face_words naming) tree)
  entries_found at (word bytes from to) here good = absurd (no_word symbol.Entries at bytes from to here good refl)
  entries_found at (list parts from to) here good =
      let form = only_form given naming symbol.Entries rule.Entries at parts from to here (refl, tt) good in
      let some = ltb-true 0 (count parts) form.fit in
      unless_found parts (read_all_entries (face_words naming) parts) (omega (arith, some))
      (all_entries_found at parts 0 parts form.good)
