-- The decks of a form without a fault: each has a group, no face has an attribute twice, and each begins in a location of
-- the game that holds cards.
use Rattle.std.proofs.Common.{◌≡◌, ℕ, zero, suc, ◌+◌, ◌≤◌, Bool, true, false, not, ◌||◌, nat_eq, List, [], ◌∷◌, ◌++◌, length, Option, Some, None, option_map, ◌==◌, position, bytes_eq, slice_get, append_assoc, append-nil, refl, sym, subst, ap, ◌∙◌, arith, eqb-true}
use Rattle.std.specs.Prelude.{slice_index, codes}
use Rattle.std.specs.List.{All, AllByRecursion}
use Rattle.std.proofs.lemmas.Bool.{or_parts, or_left, or_right}
use Rattle.std.proofs.lemmas.Option.{same_Some}
use Rattle.std.proofs.lemmas.List.Elements.{All-from_recursion}
use Rattle.std.proofs.lemmas.List.Folds.{list_any-append}
use Rattle.std.proofs.lemmas.Slice.Eq.{bytes_eq-Decides}
use Rattle.std.proofs.Math.Bool.{or-false}
use Rattle.rc_base.specs.Tree.{Tree, word, list, Trees, nil, cons}
use Rattle.rc_base.specs.Deck.{Groups, no_group, group, Branches, no_branch, branch}
use Rattle.rc_deck.proofs.EachLemmas.{append_each}
use Rattle.rc_sheet_spec.specs.Sheet.{DeckLine, game_class, LocName, Who, game, SheetItems, Best, IntExpr, Sheet}
use Rattle.rc_sheet_spec.specs.Rows.{◌▸◌, End, Row}
use Rattle.rc_sheet_spec.specs.Naming.{Naming, KindOf, Named, loc_class, class_of}
use Rattle.rc_sheet_spec.specs.Naming.{kind_word as kind_bytes}
use Rattle.rc_sheet_spec.specs.StandsExpressions.{StandsHolder}
use Rattle.rc_sheet_spec.specs.WellFormed.{is_mem, is_among, group_attrs, branch_attrs, AreGroups, AreBranches, IsDeck}
use Rattle.rc_check.specs.Faults.{faults, is_word, place_at, count}
use Rattle.rc_check.specs.declared.keyword.Keyword.TheVariants as keyword
use Rattle.rc_check.specs.declared.grammar.Symbol.TheVariants as symbol
use Rattle.rc_check.specs.declared.grammar.Rule.{Rule}
use Rattle.rc_check.specs.declared.grammar.Rule.TheVariants as rule
use Rattle.rc_check.specs.declared.role.Role.TheVariants.{DeckLocation as deck_role}
use Rattle.rc_check.specs.Groups.{attributes_in}
use Rattle.rc_check.specs.SecondParts.{Standing, standing_in, word_in, part_at, front, attributes_of, attributes_below, attributes_among, inner_attributes}
use Rattle.rc_check.specs.SecondNames.{is_named, mention_of}
use Rattle.rc_check.specs.SecondFaults.{is_game, is_misplaced, second_faults}
use Rattle.rc_check.proofs.GroupLemmas.{below_more}
use Rattle.rc_resolve.specs.NamedNumbers.{DeckNames}
use Rattle.rc_resolve.specs.NamedNumbers.{number_of}
use Rattle.rc_resolve.specs.Reading.{unless_nil, plain, read_groups, read_group, read_branch_list, read_branches, read_branch, read_deck}
use Rattle.rc_resolve.specs.Reading.{both as both_read}
use Rattle.rc_resolve.specs.Reading.{is_word as is_read_word}
use Rattle.rc_check.proofs.Above.{none_before}
use Rattle.rc_resolve.specs.Naming.{naming_of}
use Rattle.rc_sheet.specs.ReadNames.{loc_at}
use Rattle.rc_sheet.specs.ReadSetup.{Setup, face_words, home_of, deck_at}
use Rattle.rc_sheet.specs.ReadSheet.{setup_form_at, sheet_at, sheet_with}
use Rattle.rc_sheet.proofs.Means.{Means, nothing, something, means_if, means_so, weaker, mapped, behind, either, place_passes, anything, made_of}
use Rattle.rc_sheet.proofs.ReadOff.Names.{loc_means}
use Rattle.rc_sheet.proofs.Bodies.{standing_at}
use Rattle.rc_sheet.proofs.Given.Faces.{branch_behind, deck_behind}
use Rattle.rc_sheet.proofs.Fine.Common.{Given, given_of}
use Rattle.rc_sheet.proofs.GoodParts.{IsGood, GoodAt, AreGood, only_form}
use Rattle.rc_sheet.proofs.Fine.Names.{kind_tells}
use Rattle.rc_sheet.proofs.Fine.Cards.{unless_none}
use Rattle.rc_sheet.proofs.Fine.Teams.{not_both, both_hold}
use Rattle.rc_sheet.proofs.Fine.Lines.{setup_in, setup_keeps}
use Rattle.rc_sheet.proofs.SheetSetup.{by_setup}

-- THE LOCATION

-- the kind that a location's form writes
kind_written : (naming : Naming) (who : Who) (name : ℕ) (parts : Trees) (from to : ℕ)
    → Row (StandsHolder [] who ▸ KindOf naming name ▸ Named naming.names.locs name ▸ End) (list parts from to)
    → option_map (λ loc. kind_bytes loc.kind) (slice_get naming.locs name) ≡ Some (word_in 1 parts)
kind_written naming who name nil from to stands = absurd stands
kind_written naming who name (cons holder nil) from to stands = absurd stands.1
kind_written naming who name (cons holder (cons (list inner a b) parts)) from to stands = absurd stands.1.0
kind_written naming who name (cons holder (cons (word bytes a b) parts)) from to stands = stands.1.0

-- it holds cards, where it is no memory
holds_cards : (found : Option LocName) (bytes : List ℕ) → option_map (λ loc. kind_bytes loc.kind) found ≡ Some bytes
    → is_word keyword.Mem bytes ≡ false → option_map (λ loc. is_mem loc.kind) found ≡ Some false
holds_cards None bytes is other = absurd cc
holds_cards (Some loc) bytes is other =
    ap Some (kind_tells loc.kind bytes (same_Some (kind_bytes loc.kind) bytes is) ∙ other)

-- a deck's location is the game's, and holds cards
abbrev pub IsHome : Naming → ℕ → Type 0
IsHome naming name =
    (loc_class naming name ≡ Some game_class)
    × (option_map (λ loc. is_mem loc.kind) (slice_get naming.locs name) ≡ Some false)

module _ (given : Given) (naming : Naming) where
  home_is : (at : Standing) (parts : Trees) (from to : ℕ) → at.place ≡ symbol.Location → at.role ≡ deck_role
      → IsGood given naming at (list parts from to)
      → is_word keyword.Mem (word_in 1 parts) ≡ false
  home_is at parts from to here role good =
      let form = only_form given naming symbol.Location rule.Location at parts from to here (refl, tt) good in
      (or_parts (not (is_game (mention_of parts).class)) (is_word keyword.Mem (word_in 1 parts))
      (subst (λ r. is_misplaced r (mention_of parts) ≡ false) role form.fine.fits.0)).1

  home_fits : (at : Standing) (loc : Tree) → at.place ≡ symbol.Location → at.role ≡ deck_role → IsGood given naming at loc
      → Means (loc_at naming [] loc) (λ home. (number : ℕ) → home_of home.who home.name ≡ Some number → IsHome naming number)
  unfolding loc_at
  home_fits at (word bytes from to) here role good = nothing
  home_fits at (list parts from to) here role good =
      weaker (loc_at naming [] (list parts from to)) (loc_means naming [] (list parts from to))
      (λ home stands number is.
      by home.who home.name number is stands.1
      (holds_cards (slice_get naming.locs home.name) (word_in 1 parts)
      (kind_written naming home.who home.name parts from to stands.0) (home_is at parts from to here role good)))
    where
      by : (who : Who) (name number : ℕ) → home_of who name ≡ Some number → loc_class naming name ≡ Some (class_of who)
          → option_map (λ loc. is_mem loc.kind) (slice_get naming.locs name) ≡ Some false → IsHome naming number
      by game name number is class cards = subst (IsHome naming) (same_Some name number is) (class, cards)
      by who name number is class cards = absurd cc

-- THE FACES

-- what is made of two that are read, the second behind the first
made_after : {A B C : Type 0} {P : A → Type 0} {R : C → Type 0} (make : A → B → C) (first : Option A) (second : Option B)
    → Means first P → ((a : A) → P a → Means second (λ b. R (make a b))) → Means (both_read make first second) R
made_after make None second p more = nothing
made_after {R = R} make (Some a) second p more = mapped second (make a) (more a p.holds) (λ b r. r)

-- each number is of a word among these
abbrev Covers : List (List ℕ) → List ℕ → List (List ℕ) → Type 0
Covers names numbers words =
    (n : ℕ) → is_among n numbers ≡ true
    → (w : List ℕ) × (is_named w words ≡ true) × (position (bytes_eq w) names ≡ Some n)

-- one word's number
covers_one : (names : List (List ℕ)) (n : ℕ) (w : List ℕ) (words : List (List ℕ)) → is_named w words ≡ true
    → position (bytes_eq w) names ≡ Some n → Covers names (n ∷ []) words
covers_one names n w words among is m one =
    (w, among, is ∙ ap Some (sym (eqb-true m n (sym (or-false (nat_eq m n)) ∙ one))))

-- one or the other
either_true : {P : Type 0} (a b : Bool) → (a || b) ≡ true → (a ≡ true → P) → (b ≡ true → P) → P
either_true true b is first second = first refl
either_true false b is first second = second is

-- numbers of two lists
covers_both : (names : List (List ℕ)) (a b : List ℕ) (words : List (List ℕ)) → Covers names a words → Covers names b words
    → Covers names (a ++ b) words
covers_both names a b words first second n is =
    either_true (is_among n a) (is_among n b) (sym (list_any-append (nat_eq n) a b) ∙ is) (first n) (second n)

-- among more words
covers_left : (names : List (List ℕ)) (a : List ℕ) (words more : List (List ℕ)) → Covers names a words
    → Covers names a (words ++ more)
covers_left names a words more first n is =
    let found = first n is in
    (found.0, list_any-append (bytes_eq found.0) words more ∙ or_left _ _ found.1, found.2)

covers_right : (names : List (List ℕ)) (a : List ℕ) (words more : List (List ℕ)) → Covers names a more
    → Covers names a (words ++ more)
covers_right names a words more first n is =
    let found = first n is in
    (found.0, list_any-append (bytes_eq found.0) words more ∙ or_right _ _ found.1, found.2)

-- a word's number is new where the word is
number_is : (names : List (List ℕ)) (bytes : List ℕ) (a b : ℕ)
    → Means (number_of names (word bytes a b)) (λ n. position (bytes_eq bytes) names ≡ Some n)
number_is names bytes a b =
    either (slice_index bytes 0 == 39) None (position (bytes_eq bytes) names) (λ is. nothing)
    (λ is. means_if (position (bytes_eq bytes) names) (λ n found. found))

same_word : (names : List (List ℕ)) (v w : List ℕ) (n : ℕ) → position (bytes_eq v) names ≡ Some n
    → position (bytes_eq w) names ≡ Some n → v ≡ w
same_word names v w n first second =
    let one = means_so _ n (place_passes (bytes_eq v) names) first in
    let two = means_so _ n (place_passes (bytes_eq w) names) second in
    (bytes_eq-Decides v one.0).0 one.2 ∙ same_Some one.0 two.0 (sym one.1 ∙ two.1)
    ∙ sym ((bytes_eq-Decides w two.0).0 two.2)

number_new : (names : List (List ℕ)) (before : List ℕ) (above : List (List ℕ)) (bytes : List ℕ) (n : ℕ)
    → Covers names before above → is_named bytes above ≡ false → position (bytes_eq bytes) names ≡ Some n
    → is_among n before ≡ false
number_new names before above bytes n covers new is = by (is_among n before) refl
  where
    by : (b : Bool) → is_among n before ≡ b → is_among n before ≡ false
    by false none = none
    by true some =
        let found = covers n some in
        absurd (not_both (is_named bytes above) (subst (λ w. is_named w above ≡ true)
        (same_word names found.0 bytes n found.2 is) found.1) new)

-- where parts of a list begin
abbrev pub behind_at : ℕ → Trees → Trees
behind_at zero trees = trees
behind_at (suc n) nil = nil
behind_at (suc n) (cons tree trees) = behind_at n trees

more_front : (index : ℕ) (all : Trees) (tree : Tree) (rest : Trees) → behind_at index all ≡ cons tree rest
    → (behind_at (suc index) all ≡ rest)
    × (attributes_among (front (suc index) all) ≡ attributes_among (front index all) ++ attributes_of tree)
more_front zero nil tree rest is = absurd cc
more_front zero (cons t ts) tree rest is = (
  ap (behind_at 1) is,
  ap (λ l. attributes_of t ++ l) (none_before ts) ∙ append-nil (attributes_of t)
      ∙ ap (λ x. attributes_of (part_at 0 x)) is,
)
more_front (suc index) nil tree rest is = absurd cc
more_front (suc index) (cons t ts) tree rest is =
    let later = more_front index ts tree rest is in (
      later.0,
      ap (λ l. attributes_of t ++ l) later.1
          ∙ sym (append_assoc (attributes_of t) (attributes_among (front index ts)) (attributes_of tree)),
    )

-- a group before others
abbrev OneGroup : List ℕ → ℕ → Branches → Type 0
OneGroup before attr no_branch = ⊥
OneGroup before attr (branch value inner others) =
    (is_among attr before ≡ false) × AreGroups (attr ∷ before) inner × AreBranches (attr ∷ before) others

group_then : (before : List ℕ) (attr : ℕ) (branches : Branches) (rest : Groups) → OneGroup before attr branches
    → AreGroups (attr ∷ (branch_attrs branches ++ before)) rest → AreGroups before (group attr branches rest)
group_then before attr no_branch rest one more = absurd one
group_then before attr (branch value inner others) rest one more = (one.0, one.1, one.2, more)

-- there is a branch
abbrev HasBranch : Branches → Type 0
HasBranch no_branch = ⊥
HasBranch (branch value inner others) = Unit {0}

some_branch : (names : DeckNames) (trees : Trees) → Means (unless_nil trees (read_branches names trees)) HasBranch
some_branch names nil = nothing
some_branch names (cons tree rest) =
    made_of (λ first rest. branch first.0 first.1 rest) (read_branch names tree) (read_branches names rest) (anything _)
    (anything _)
    (λ first rest u v. tt)

one_group : (before : List ℕ) (attr : ℕ) (branches : Branches) → is_among attr before ≡ false
    → AreBranches (attr ∷ before) branches → HasBranch branches → OneGroup before attr branches
one_group before attr no_branch fresh are some = absurd some
one_group before attr (branch value inner others) fresh are some = (fresh, are.0, are.1)

-- there is a group
some_group : (names : DeckNames) (tree : Tree) (rest : Trees)
    → Means (read_groups names (cons tree rest)) (λ groups. 1 ≤ length (group_attrs groups))
some_group names tree rest =
    made_of (λ first rest. group first.0 first.1 rest) (read_group names tree) (read_groups names rest) (anything _) (anything _)
    (λ first rest u v. omega arith)

-- the next index
pub next_front : (index : ℕ) (all : Trees) (tree : Tree) (rest : Trees) → behind_at index all ≡ cons tree rest
    → (behind_at (index + 1) all ≡ rest)
    × (attributes_among (front (index + 1) all) ≡ attributes_among (front index all) ++ attributes_of tree)
next_front index all tree rest is =
    let next : suc index ≡ index + 1 = omega arith in
    subst (λ i. (behind_at i all ≡ rest) × (attributes_among (front i all)
    ≡ attributes_among (front index all) ++ attributes_of tree))
    next (more_front index all tree rest is)

module _ (given : Given) (naming : Naming) where
  abbrev attrs : List (List ℕ)
  attrs = naming.names.attrs

  -- what is known of the groups that are read among parts
  abbrev GroupsFit : List ℕ → Trees → Groups → Type 0
  GroupsFit before trees groups = AreGroups before groups × Covers attrs (group_attrs groups) (attributes_among trees)

  abbrev BranchesFit : List ℕ → Trees → Branches → Type 0
  BranchesFit before trees branches = AreBranches before branches × Covers attrs (branch_attrs branches) (attributes_below trees)

  mutual
    groups_fit : (at : Standing) (r : Rule) (all : Trees) (index : ℕ) (trees : Trees) (before : List ℕ) → 1 ≤ index
        → ((j : ℕ) → 1 ≤ j → place_at r (count all) j ≡ Some symbol.Group)
        → ((j : ℕ) → inner_attributes r all j ≡ attributes_among (front j all))
        → behind_at index all ≡ trees → AreGood given naming at r all index trees
        → Covers attrs before (at.above ++ attributes_among (front index all))
        → Means (read_groups (face_words naming) trees) (GroupsFit before trees)
    groups_fit at r all index nil before above each inner tail good covers = something no_group (tt, λ n is. absurd cc)
    groups_fit at r all index (cons tree trees) before above each inner tail good covers =
        let stand = standing_at at r all index symbol.Group in
        let stands : standing_in at r all index ≡ Some stand =
        ap (λ o. option_map (λ q. standing_at at r all index q) o) (each index above) in
        let next = next_front index all tree trees tail in
        made_after (λ first rest. group first.0 first.1 rest) (read_group (face_words naming) tree)
        (read_groups (face_words naming) trees)
        (group_fits stand refl tree before (subst (λ o. GoodAt given naming o tree) stands good.0)
        (subst (λ l. Covers attrs before (at.above ++ l)) (sym (inner index)) covers))
        (λ first one.
        weaker (read_groups (face_words naming) trees)
        (groups_fit at r all (index + 1) trees (first.0 ∷ (branch_attrs first.1 ++ before)) (omega (arith, above)) each inner
        next.0
        good.1
        (subst (λ l. Covers attrs (first.0 ∷ (branch_attrs first.1 ++ before)) (at.above ++ l)) (sym next.1)
        (subst (Covers attrs (first.0 ∷ (branch_attrs first.1 ++ before)))
        (append_assoc at.above (attributes_among (front index all)) (attributes_of tree))
        (covers_both attrs (first.0 ∷ branch_attrs first.1) before
        ((at.above ++ attributes_among (front index all)) ++ attributes_of tree)
        (covers_right attrs (first.0 ∷ branch_attrs first.1) (at.above ++ attributes_among (front index all))
        (attributes_of tree) one.1)
        (covers_left attrs before (at.above ++ attributes_among (front index all)) (attributes_of tree) covers)))))
        (λ rest are. (
          group_then before first.0 first.1 rest one.0 are.0,
          covers_both attrs (first.0 ∷ branch_attrs first.1) (group_attrs rest) (attributes_of tree ++ attributes_among trees)
              (covers_left attrs (first.0 ∷ branch_attrs first.1) (attributes_of tree) (attributes_among trees) one.1)
              (covers_right attrs (group_attrs rest) (attributes_of tree) (attributes_among trees) are.1),
        )))

    group_fits : (at : Standing) → at.place ≡ symbol.Group → (tree : Tree) (before : List ℕ) → IsGood given naming at tree
        → Covers attrs before at.above
        → Means (read_group (face_words naming) tree)
        (λ found. OneGroup before found.0 found.1 × Covers attrs (found.0 ∷ branch_attrs found.1) (attributes_of tree))
    group_fits at here (word bytes from to) before good covers = nothing
    group_fits at here (list nil from to) before good covers = nothing
    group_fits at here (list (cons head nil) from to) before good covers = nothing
    group_fits at here (list (cons (list parts a b) (cons second nil)) from to) before good covers =
        made_of {P = λ u. ⊥} (λ attr branches. (attr, branches)) None (read_branch_list (face_words naming) second) nothing
        (anything _)
        (λ attr branches none u. absurd none)
    group_fits at here (list (cons (word bytes a b) (cons (word other c d) nil)) from to) before good covers =
        made_of {Q = λ u. ⊥} (λ attr branches. (attr, branches)) (number_of attrs (word bytes a b)) None (anything _) nothing
        (λ attr branches u none. absurd none)
    group_fits at here (list (cons head (cons second (cons third others))) from to) before good covers = nothing
    group_fits at here (list (cons (word bytes a b) (cons (list branches c d) nil)) from to) before good covers =
        let parts = cons (word bytes a b) (cons (list branches c d) nil) in
        let row = only_form given naming symbol.Group rule.Group at parts from to here (refl, tt) good in
        let stand = standing_at at rule.Group parts 1 symbol.Branches in
        let inner = only_form given naming symbol.Branches rule.Branches stand branches c d refl (refl, tt) row.good.1.0 in
        made_after (λ attr found. (attr, found)) (number_of attrs (word bytes a b))
        (unless_nil branches (read_branches (face_words naming) branches)) (number_is attrs bytes a b)
        (λ attr is.
        let named = or_left _ _ ((bytes_eq-Decides bytes bytes).1 refl) in
        weaker (unless_nil branches (read_branches (face_words naming) branches))
        (both_hold (unless_nil branches (read_branches (face_words naming) branches))
        (unless_none branches (read_branches (face_words naming) branches)
        (branches_fit stand branches 0 branches (attr ∷ before) inner.good
        (covers_both attrs (attr ∷ []) before (at.above ++ bytes ∷ [])
        (covers_right attrs (attr ∷ []) at.above (bytes ∷ []) (covers_one attrs attr bytes (bytes ∷ []) named is))
        (covers_left attrs before at.above (bytes ∷ []) covers))))
        (some_branch (face_words naming) branches))
        (λ found are. (
          one_group before attr found (number_new attrs before at.above bytes attr covers row.fine.fits.0 is) are.0.0 are.1,
          covers_both attrs (attr ∷ []) (branch_attrs found) (bytes ∷ attributes_below branches)
              (covers_one attrs attr bytes (bytes ∷ attributes_below branches)
              (or_left _ _ ((bytes_eq-Decides bytes bytes).1 refl)) is)
              (covers_right attrs (branch_attrs found) (bytes ∷ []) (attributes_below branches) are.0.1),
        )))

    branches_fit : (at : Standing) (all : Trees) (index : ℕ) (trees : Trees) (before : List ℕ)
        → AreGood given naming at rule.Branches all index trees → Covers attrs before at.above
        → Means (read_branches (face_words naming) trees) (BranchesFit before trees)
    branches_fit at all index nil before good covers = something no_branch (tt, λ n is. absurd cc)
    branches_fit at all index (cons tree trees) before good covers =
        made_of (λ first rest. branch first.0 first.1 rest) (read_branch (face_words naming) tree)
        (read_branches (face_words naming) trees)
        (branch_fits (standing_at at rule.Branches all index symbol.Branch) refl tree before good.0
        (covers_left attrs before at.above [] covers))
        (branches_fit at all (index + 1) trees before good.1 covers)
        (λ first rest one are. (
          (one.0, are.0),
          subst (Covers attrs (group_attrs first.1 ++ branch_attrs rest)) (sym (below_more tree trees))
              (covers_both attrs (group_attrs first.1) (branch_attrs rest) (attributes_in tree ++ attributes_below trees)
              (covers_left attrs (group_attrs first.1) (attributes_in tree) (attributes_below trees) one.1)
              (covers_right attrs (branch_attrs rest) (attributes_in tree) (attributes_below trees) are.1)),
        ))

    branch_fits : (at : Standing) → at.place ≡ symbol.Branch → (tree : Tree) (before : List ℕ) → IsGood given naming at tree
        → Covers attrs before at.above
        → Means (read_branch (face_words naming) tree)
        (λ found. AreGroups before found.1 × Covers attrs (group_attrs found.1) (attributes_in tree))
    branch_fits at here (word bytes from to) before good covers =
        mapped (number_of naming.names.values (word bytes from to)) plain (anything _) (λ value u. (tt, λ n is. absurd cc))
    branch_fits at here (list nil from to) before good covers = nothing
    branch_fits at here (list (cons head groups) from to) before good covers =
        let parts = cons head groups in
        let row = only_form given naming symbol.Branch rule.Branch at parts from to here (refl, tt) good in
        made_of (λ number inner. (number, inner)) (number_of naming.names.values head)
        (unless_nil groups (read_groups (face_words naming) groups)) (anything _)
        (unless_none groups (read_groups (face_words naming) groups)
        (groups_fit at rule.Branch parts 1 groups before (omega arith) (branch_behind (count parts)) (λ j. refl) refl row.good.1
        (covers_left attrs before at.above (attributes_among (front 1 parts)) covers)))
        (λ number inner u are. (
          are.0,
          covers_right attrs (group_attrs inner) (attributes_of head) (attributes_among groups) are.1,
        ))

  -- a deck
  deck_fits : (at : Standing) → at.place ≡ symbol.Deck → (tree : Tree) → IsGood given naming at tree
      → Means (read_deck (face_words naming) tree) (λ groups. (1 ≤ length (group_attrs groups)) × AreGroups [] groups)
  deck_fits at here (word bytes from to) good = nothing
  deck_fits at here (list nil from to) good = nothing
  deck_fits at here (list (cons head nil) from to) good = either (is_read_word (codes "deck") head) None None (λ is. nothing)
      (λ is. nothing)
  deck_fits at here (list (cons head (cons first rest)) from to) good =
      let parts = cons head (cons first rest) in
      let row = only_form given naming symbol.Deck rule.Deck at parts from to here (refl, tt) good in
      let found = read_groups (face_words naming) (cons first rest) in
      either (is_read_word (codes "deck") head) found None
      (λ is.
      weaker found
      (both_hold found (some_group (face_words naming) first rest)
      (groups_fit at rule.Deck parts 1 (cons first rest) [] (omega arith) (deck_behind (count parts)) (λ j. refl) refl row.good.1
      (λ n is. absurd cc)))
      (λ groups are. (are.0, are.1.0)))
      (λ is. nothing)

  -- the line of a deck, of any sheet with this naming
  abbrev pub IsDeckOf : DeckLine → Type 0
  IsDeckOf line = (1 ≤ length (group_attrs line.groups)) × AreGroups [] line.groups × IsHome naming line.loc

  deck_line_fits : (at at' : Standing) (loc tree : Tree) → at.place ≡ symbol.Location → at.role ≡ deck_role
      → IsGood given naming at loc → at'.place ≡ symbol.Deck → IsGood given naming at' tree
      → Means (deck_at naming loc tree) IsDeckOf
  unfolding deck_at
  deck_line_fits at at' loc tree here role good here' good' =
      behind (loc_at naming [] loc) _ (home_fits given naming at loc here role good)
      (λ home fits. behind (home_of home.who home.name) _ (means_if (home_of home.who home.name) (λ number is. is))
      (λ number is. behind (read_deck (face_words naming) tree) _ (deck_fits at' here' tree good')
      (λ groups are. something (record { loc = number; groups = groups }) (are.0, are.1, fits number is))))

-- decks of any sheet with this naming are decks of one
decks_of : (given : Given) (naming : Naming) (s : Setup) (body : SheetItems × (Best × IntExpr)) (decks : List DeckLine)
    → AllByRecursion (IsDeckOf given naming) decks → AllByRecursion (IsDeck (sheet_with naming s body)) decks
decks_of given naming s body [] all = tt
decks_of given naming s body (deck ∷ decks) all =
    let is = all.0 in ((is.0, is.1, is.2.0, is.2.1), decks_of given naming s body decks all.1)

-- THE LAW: the decks of the setup that is read are decks of any sheet with its form's naming.
pub decks_are_fine : (tree : Tree) → faults symbol.Sheet tree ≡ [] → second_faults tree ≡ []
    → Means (setup_form_at (naming_of tree) (setup_in tree))
    (λ s. (body : SheetItems × (Best × IntExpr)) → AllByRecursion (IsDeck (sheet_with (naming_of tree) s body)) s.decks)
decks_are_fine tree shaped sound =
    weaker _
    (setup_keeps (λ said seen. AllByRecursion (IsDeckOf (given_of tree) (naming_of tree)) said.decks) tree shaped sound (
      record {
        players = λ said earlier at create second last from to n line first is q. q;
        teams = λ said earlier at create second parts from to all line first is q. q;
        decks = λ said earlier at create second loc inner from to deck line is q.
            let parts = cons create (cons second (cons loc (cons inner nil))) in
            append_each (IsDeckOf (given_of tree) (naming_of tree)) said.decks (deck ∷ []) q (
              means_so _ deck (deck_line_fits (given_of tree) (naming_of tree)
                  (standing_at at rule.CreateDeck parts 2 symbol.Location) (standing_at at rule.CreateDeck parts 3 symbol.Deck) loc inner
                  refl refl line.good.good.1.1.0 refl line.good.good.1.1.1.0) is,
              tt,
            );
        points = λ said earlier at put second map inner from to entries line is q. q;
      },
      λ parts start. tt,
    ))
    (λ s is body.
    decks_of (given_of tree) (naming_of tree) s body s.decks
    (subst (AllByRecursion (IsDeckOf (given_of tree) (naming_of tree))) is.decks is.is))

-- and so they are decks of the sheet
pub decks_are_decks : (tree : Tree) (sheet : Sheet) → faults symbol.Sheet tree ≡ [] → second_faults tree ≡ []
    → sheet_at (naming_of tree) tree ≡ Some sheet → All (IsDeck sheet) sheet.decks
decks_are_decks tree sheet shaped sound is =
    by_setup (λ sheet. All (IsDeck sheet) sheet.decks) (naming_of tree) tree sheet is
    (weaker _ (decks_are_fine tree shaped sound)
    (λ s are body. All-from_recursion (IsDeck (sheet_with (naming_of tree) s body)) s.decks (are body)))
