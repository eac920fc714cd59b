-- The groups of a deck and the entries of points that stand for a well formed sheet's have no fault by themselves.
use Rattle.std.proofs.Common.{◌≡◌, ℕ, suc, ◌+◌, Bool, true, false, List, [], ◌∷◌, ◌++◌, inl, inr, ⊎_elim, Some, slice_get, nat_eq, refl, sym, subst, ap, ◌∙◌, arith, append_assoc, append-nil, eq-eqb}
use Rattle.std.specs.Prelude.{ℤ}
use Rattle.std.proofs.lemmas.Bool.{or_parts}
use Rattle.rc_base.specs.Tree.{Tree, word, list, Trees, nil, cons}
use Rattle.rc_base.specs.Deck.{Groups, no_group, group, Branches, no_branch, branch, Entry}
use Rattle.rc_sheet_spec.specs.Sheet.{Sheet}
use Rattle.rc_sheet_spec.specs.Rows.{◌▸◌, End, Row}
use Rattle.rc_sheet_spec.specs.Rows.{Some as Full}
use Rattle.rc_sheet_spec.specs.Naming.{Naming, Named, Literal, sheet_naming}
use Rattle.rc_sheet_spec.specs.StandsSetup.{StandsGroups, StandsBranches, StandValues, StandEntries}
use Rattle.rc_sheet_spec.specs.WellFormed.{Around, is_among, group_attrs, branch_attrs, AreGroups, AreBranches}
use Rattle.rc_check.specs.declared.grammar.Symbol.{Symbol}
use Rattle.rc_check.specs.declared.grammar.Symbol.TheVariants as symbol
use Rattle.rc_check.specs.declared.grammar.Rule.{Rule}
use Rattle.rc_check.specs.declared.grammar.Rule.TheVariants as rule
use Rattle.rc_check.specs.declared.role.Role.TheVariants.{No as no_role, GivenValue as given_value}
use Rattle.rc_check.specs.SecondParts.{Standing, Part, parts_at, parts_in, standing_in, attributes_of, attributes_below, attributes_among, front}
use Rattle.rc_check.specs.SecondNames.{some_of, is_named}
use Rattle.rc_check.specs.SecondFaults.{sorts_at}
use Rattle.rc_check.proofs.Above.{none_before}
use Rattle.rc_sheet.proofs.Among.{Among, among_left, among_right, among_either, named_among}
use Rattle.rc_sheet.proofs.Fine.Decks.{behind_at, next_front}
use Rattle.rc_sheet.proofs.GoodParts.{Each}
use Rattle.rc_sheet.proofs.One.Rows.{three_parts}
use Rattle.rc_sheet.proofs.One.Names.{Alone}
use Rattle.rc_sheet.proofs.Sound.Parts.{standing, all_join, AllSound, Sound, plain_atom, plain_word, list_sound, sound_list, easy_sound}

-- WORDS OF NUMBERS

-- each of the words is that of one of the numbers
abbrev pub Worded : List (List ℕ) → List ℕ → List (List ℕ) → Type 0
Worded names numbers words =
    (w : List ℕ) → Among w words → (n : ℕ) × Among n numbers × (slice_get names n ≡ Some w)

pub worded_none : (names : List (List ℕ)) (numbers : List ℕ) → Worded names numbers []
worded_none names numbers w is = absurd is

-- of two lists of words
worded_both : (names : List (List ℕ)) (numbers : List ℕ) (words more : List (List ℕ)) → Worded names numbers words
    → Worded names numbers more → Worded names numbers (words ++ more)
worded_both names numbers words more first second w is =
    ⊎_elim (λ a. first w a) (λ b. second w b) (among_either w words more is)

-- by more numbers
worded_more : (names : List (List ℕ)) (numbers others : List ℕ) (words : List (List ℕ))
    → ((n : ℕ) → Among n numbers → Among n others) → Worded names numbers words → Worded names others words
worded_more names numbers others words within worded w is =
    let found = worded w is in (found.0, within found.0 found.1, found.2)

-- a word whose number isn't among them isn't one of them
word_new : (names : List (List ℕ)) (numbers : List ℕ) (words : List (List ℕ)) (n : ℕ) (bytes : List ℕ) → Alone names
    → Worded names numbers words → slice_get names n ≡ Some bytes → is_among n numbers ≡ false → is_named bytes words ≡ false
word_new names numbers words n bytes alone worded is new = by (is_named bytes words) refl
  where
    among_is : (m : ℕ) (numbers : List ℕ) → Among m numbers → is_among m numbers ≡ false → ⊥
    among_is m [] one new = one
    among_is m (x ∷ numbers) (inl same) new =
        let parts = or_parts (nat_eq m x) (is_among m numbers) new in
        let equal = eq-eqb m x same in
        let none = parts.0 in absurd cc
    among_is m (x ∷ numbers) (inr later) new =
        among_is m numbers later (or_parts (nat_eq m x) (is_among m numbers) new).1

    by : (b : Bool) → is_named bytes words ≡ b → b ≡ false
    by true named =
        let found = worded bytes (named_among bytes words named) in
        absurd (among_is n numbers
        (subst (λ m. Among m numbers) (alone found.0 n bytes found.2 is) found.1) new)
    by false named = refl

-- WORDS OF GROUPS

-- a branch is a value, or a value before groups
abbrev pub IsBranch : Naming → ℕ → Groups → Tree → Type 0
IsBranch naming value inner (word bytes from to) = Named naming.names.values value (word bytes from to)
IsBranch naming value inner (list nil from to) = ⊥
IsBranch naming value inner (list (cons v groups) from to) =
    Named naming.names.values value v × StandsGroups naming inner groups

pub first_branch : (naming : Naming) (value : ℕ) (inner : Groups) (others : Branches) (tree : Tree) (trees : Trees)
    → StandsBranches naming (branch value inner others) (cons tree trees)
    → IsBranch naming value inner tree × StandsBranches naming others trees
first_branch naming value no_group others (word bytes from to) trees stands = stands
first_branch naming value no_group others (list parts from to) trees stands = absurd stands.0
first_branch naming value (group attr branches inner) others (word bytes from to) trees stands = absurd stands.0
first_branch naming value (group attr branches inner) others (list nil from to) trees stands = absurd stands.0
first_branch naming value (group attr branches inner) others (list (cons v groups) from to) trees stands = stands

pub no_more_branches : (naming : Naming) (value : ℕ) (inner : Groups) (others : Branches)
    → StandsBranches naming (branch value inner others) nil → ⊥
no_more_branches naming value no_group others stands = stands
no_more_branches naming value (group attr branches inner) others stands = stands

-- a group is an attribute and a list of branches
pub group_parts : (naming : Naming) (attr : ℕ) (branches : Branches) (P : Tree → Type 0) (tree : Tree)
    → Row (Named naming.names.attrs attr ▸ Row (Full (StandsBranches naming branches)) ▸ End) tree
    → ((bytes : List ℕ) (f t a b from to : ℕ) (first : Tree) (others : Trees) → slice_get naming.names.attrs attr ≡ Some bytes
    → StandsBranches naming branches (cons first others)
    → P (list (cons (word bytes f t) (cons (list (cons first others) a b) nil)) from to))
    → P tree
group_parts naming attr branches P (word bytes from to) stands each = absurd stands
group_parts naming attr branches P (list nil from to) stands each = absurd stands
group_parts naming attr branches P (list (cons (list parts f t) rest) from to) stands each = absurd stands.0
group_parts naming attr branches P (list (cons (word bytes f t) nil) from to) stands each = absurd stands.1
group_parts naming attr branches P (list (cons (word bytes f t) (cons (word w a b) rest)) from to) stands each = absurd stands.1.0
group_parts naming attr branches P (list (cons (word bytes f t) (cons (list nil a b) rest)) from to) stands each =
    let none = stands.1.0.0 in absurd cc
group_parts naming attr branches P
    (list (cons (word bytes f t) (cons (list (cons first others) a b) (cons next rest))) from to) stands each =
    absurd stands.1.1
group_parts naming attr branches P (list (cons (word bytes f t) (cons (list (cons first others) a b) nil)) from to) stands each =
    each bytes f t a b from to first others stands.0.0 stands.1.0.1

-- a value has no attributes
value_silent : (naming : Naming) (value : ℕ) (tree : Tree) (numbers : List ℕ) → Named naming.names.values value tree
    → Worded naming.names.attrs numbers (attributes_of tree)
value_silent naming value (word bytes from to) numbers stands = worded_none naming.names.attrs numbers
value_silent naming value (list parts from to) numbers stands = absurd stands

mutual
  -- the words of groups are those of their attributes
  groups_worded : (naming : Naming) (groups : Groups) (trees : Trees) → StandsGroups naming groups trees
      → Worded naming.names.attrs (group_attrs groups) (attributes_among trees)
  groups_worded naming no_group nil stands = worded_none naming.names.attrs []
  groups_worded naming no_group (cons tree trees) stands = absurd stands
  groups_worded naming (group attr branches rest) nil stands = absurd stands
  groups_worded naming (group attr branches rest) (cons tree trees) stands =
      let later = groups_worded naming rest trees stands.1 in
      worded_both naming.names.attrs (group_attrs (group attr branches rest)) (attributes_of tree) (attributes_among trees)
      (group_parts naming attr branches
      (λ tree. Worded naming.names.attrs (group_attrs (group attr branches rest)) (attributes_of tree)) tree stands.0
      (λ bytes f t a b from to first others is inner w one.
      ⊎_elim (λ same. (attr, inl refl, is ∙ ap Some (sym same)))
      (λ more. let found = branches_worded naming branches (cons first others) inner w more in
      (found.0, inr (among_left found.0 (branch_attrs branches) (group_attrs rest) found.1), found.2)) one))
      (worded_more naming.names.attrs (group_attrs rest) (group_attrs (group attr branches rest)) (attributes_among trees)
      (λ n is. inr (among_right n (branch_attrs branches) (group_attrs rest) is)) later)

  branches_worded : (naming : Naming) (branches : Branches) (trees : Trees) → StandsBranches naming branches trees
      → Worded naming.names.attrs (branch_attrs branches) (attributes_below trees)
  branches_worded naming no_branch nil stands = worded_none naming.names.attrs []
  branches_worded naming no_branch (cons tree trees) stands = absurd stands
  branches_worded naming (branch value inner others) nil stands =
      absurd (no_more_branches naming value inner others stands)
  branches_worded naming (branch value inner others) (cons (word bytes from to) trees) stands =
      let both = first_branch naming value inner others (word bytes from to) trees stands in
      worded_more naming.names.attrs (branch_attrs others) (branch_attrs (branch value inner others)) (attributes_below trees)
      (λ n is. among_right n (group_attrs inner) (branch_attrs others) is)
      (branches_worded naming others trees both.1)
  branches_worded naming (branch value inner others) (cons (list nil from to) trees) stands =
      absurd (first_branch naming value inner others (list nil from to) trees stands).0
  branches_worded naming (branch value inner others) (cons (list (cons v groups) from to) trees) stands =
      let both = first_branch naming value inner others (list (cons v groups) from to) trees stands in
      worded_both naming.names.attrs (branch_attrs (branch value inner others)) (attributes_among (cons v groups))
      (attributes_below trees)
      (worded_both naming.names.attrs (branch_attrs (branch value inner others)) (attributes_of v) (attributes_among groups)
      (value_silent naming value v (branch_attrs (branch value inner others)) both.0.0)
      (worded_more naming.names.attrs (group_attrs inner) (branch_attrs (branch value inner others)) (attributes_among groups)
      (λ n is. among_left n (group_attrs inner) (branch_attrs others) is) (groups_worded naming inner groups both.0.1)))
      (worded_more naming.names.attrs (branch_attrs others) (branch_attrs (branch value inner others)) (attributes_below trees)
      (λ n is. among_right n (group_attrs inner) (branch_attrs others) is)
      (branches_worded naming others trees both.1))

-- what is known of a group and of those behind it
group_well : (before : List ℕ) (attr : ℕ) (branches : Branches) (rest : Groups) → AreGroups before (group attr branches rest)
    → (is_among attr before ≡ false) × AreBranches (attr ∷ before) branches
    × AreGroups (attr ∷ branch_attrs branches ++ before) rest
group_well before attr no_branch rest are = absurd are
group_well before attr (branch value inner others) rest are = (are.0, (are.1, are.2), are.3)

-- PARTS

module _ (sheet : Sheet) (all : List Part) where
  -- parts behind others, each by what is known of it
  pub each_part : (up : ℕ → ℕ) → ((k : ℕ) → up k + 1 ≡ up (suc k)) → (at : Standing) (r : Rule) (parts : Trees)
      (P : Tree → Type 0) → ((k : ℕ) (tree : Tree) → P tree → AllSound sheet all (parts_at (standing_in at r parts (up k)) tree))
      → (k : ℕ) (trees : Trees) → Each P trees → AllSound sheet all (parts_in at r parts (up k) trees)
  each_part up next at r parts P sound k nil each = tt
  each_part up next at r parts P sound k (cons tree trees) each =
      all_join sheet all (parts_at (standing_in at r parts (up k)) tree) (parts_in at r parts (up k + 1) trees)
      (sound k tree each.0)
      (subst (λ i. AllSound sheet all (parts_in at r parts i trees)) (sym (next k))
      (each_part up next at r parts P sound (suc k) trees each.1))

  -- a value that is given
  given_sound : (q : Symbol) (around : Around) (beside : Trees) (above : List (List ℕ)) (bytes : List ℕ) (from to : ℕ)
      → some_of (sorts_at q) ≡ false
      → AllSound sheet all (parts_at (Some (standing q around given_value beside above)) (word bytes from to))
  given_sound q around beside above bytes from to none =
      (plain_atom sheet all (standing q around given_value beside above) bytes from none refl refl, tt)

  -- the standing of a group, where groups stand behind one part
  abbrev GroupsStand : Standing → Rule → Trees → Type 0
  GroupsStand at r parts =
      (k : ℕ) → standing_in at r parts (suc k)
      ≡ Some (standing symbol.Group at.around no_role parts (at.above ++ attributes_among (front (suc k) parts)))

  module _ (alone : Alone sheet.names.attrs) where
    -- a group, where its branches are sound
    one_group : (before : List ℕ) (attr : ℕ) (branches : Branches) (around : Around) (beside : Trees) (above : List (List ℕ))
        (bytes : List ℕ) (f t a b from to : ℕ) (first : Tree) (more : Trees)
        → Worded sheet.names.attrs before above → slice_get sheet.names.attrs attr ≡ Some bytes → is_among attr before ≡ false
        → AllSound sheet all (parts_in (standing symbol.Branches around no_role
        (cons (word bytes f t) (cons (list (cons first more) a b) nil)) (above ++ bytes ∷ []))
        rule.Branches (cons first more) 0 (cons first more))
        → AllSound sheet all (parts_at (Some (standing symbol.Group around no_role beside above))
        (list (cons (word bytes f t) (cons (list (cons first more) a b) nil)) from to))
    one_group before attr branches around beside above bytes f t a b from to first more worded is new inner =
        let parts = cons (word bytes f t) (cons (list (cons first more) a b) nil) in
        list_sound sheet all (standing symbol.Group around no_role beside above) rule.Group parts from to refl
        (record {
          once = word_new sheet.names.attrs before above attr bytes alone worded is new;
          known = refl;
          kind_fits = refl;
          shallow = refl;
          said = tt;
        }) (
          plain_atom sheet all (standing symbol.Name around no_role parts (above ++ bytes ∷ [])) bytes f refl refl refl,
          all_join sheet all
              (parts_at (Some (standing symbol.Branches around no_role parts (above ++ bytes ∷ [])))
              (list (cons first more) a b)) []
              (list_sound sheet all (standing symbol.Branches around no_role parts (above ++ bytes ∷ [])) rule.Branches
              (cons first more) a b refl
              (record { once = refl; known = refl; kind_fits = refl; shallow = refl; said = tt }) inner) tt,
        )

    mutual
      pub groups_sound : (before : List ℕ) (groups : Groups) (at : Standing) (r : Rule) (parts : Trees) (k : ℕ) (trees : Trees)
          → GroupsStand at r parts → behind_at (suc k) parts ≡ trees
          → Worded sheet.names.attrs before (at.above ++ attributes_among (front (suc k) parts))
          → StandsGroups (sheet_naming sheet) groups trees → AreGroups before groups
          → AllSound sheet all (parts_in at r parts (suc k) trees)
      groups_sound before no_group at r parts k nil stand tail worded stands are = tt
      groups_sound before no_group at r parts k (cons tree trees) stand tail worded stands are = absurd stands
      groups_sound before (group attr branches rest) at r parts k nil stand tail worded stands are = absurd stands
      groups_sound before (group attr branches rest) at r parts k (cons tree trees) stand tail worded stands are =
          let well = group_well before attr branches rest are in
          let next = next_front (suc k) parts tree trees tail in
          let above = at.above ++ attributes_among (front (suc k) parts) in
          let here : AllSound sheet all (parts_at (Some (standing symbol.Group at.around no_role parts above)) tree) =
          group_parts (sheet_naming sheet) attr branches
          (λ tree. AllSound sheet all (parts_at (Some (standing symbol.Group at.around no_role parts above)) tree)) tree stands.0
          (λ bytes f t a b from to first more is inside. one_group before attr branches at.around parts above bytes f t a b from
          to
          first more worded is well.0
          (branches_sound (attr ∷ before) branches at.around (cons (word bytes f t) (cons (list (cons first more) a b) nil))
          (above ++ bytes ∷ []) (cons first more) 0 (cons first more)
          (worded_both sheet.names.attrs (attr ∷ before) above (bytes ∷ [])
          (worded_more sheet.names.attrs before (attr ∷ before) above (λ n one. inr one) worded)
          (λ w one. ⊎_elim (λ same. (attr, inl refl, is ∙ ap Some (sym same))) (λ none. absurd none) one))
          inside well.1)) in
          let own : Worded sheet.names.attrs (attr ∷ branch_attrs branches) (attributes_of tree) =
          group_parts (sheet_naming sheet) attr branches
          (λ tree. Worded sheet.names.attrs (attr ∷ branch_attrs branches) (attributes_of tree)) tree stands.0
          (λ bytes f t a b from to first more is inside w one.
          ⊎_elim (λ same. (attr, inl refl, is ∙ ap Some (sym same)))
          (λ later. let found = branches_worded (sheet_naming sheet) branches (cons first more) inside w later in
          (found.0, inr found.1, found.2)) one) in
          let behind = attr ∷ branch_attrs branches ++ before in
          let worded' : Worded sheet.names.attrs behind (at.above ++ attributes_among (front (suc k + 1) parts)) =
          subst (Worded sheet.names.attrs behind)
          (append_assoc at.above (attributes_among (front (suc k) parts)) (attributes_of tree)
          ∙ ap (λ l. at.above ++ l) (sym next.1))
          (worded_both sheet.names.attrs behind above (attributes_of tree)
          (worded_more sheet.names.attrs before behind above
          (λ n one. among_right n (attr ∷ branch_attrs branches) before one) worded)
          (worded_more sheet.names.attrs (attr ∷ branch_attrs branches) behind (attributes_of tree)
          (λ n one. among_left n (attr ∷ branch_attrs branches) before one) own)) in
          let step : suc k + 1 ≡ suc (suc k) = omega arith in
          all_join sheet all (parts_at (standing_in at r parts (suc k)) tree) (parts_in at r parts (suc k + 1) trees)
          (subst (λ o. AllSound sheet all (parts_at o tree)) (sym (stand k)) here)
          (subst (λ i. AllSound sheet all (parts_in at r parts i trees)) (sym step)
          (groups_sound behind rest at r parts (suc k) trees stand
          (subst (λ i. behind_at i parts ≡ trees) step next.0)
          (subst (λ i. Worded sheet.names.attrs behind (at.above ++ attributes_among (front i parts))) step worded')
          stands.1 well.2))

      pub branches_sound : (before : List ℕ) (branches : Branches) (around : Around) (beside : Trees) (above : List (List ℕ))
          (parts : Trees) (k : ℕ) (trees : Trees) → Worded sheet.names.attrs before above
          → StandsBranches (sheet_naming sheet) branches trees → AreBranches before branches
          → AllSound sheet all (parts_in (standing symbol.Branches around no_role beside above) rule.Branches parts k trees)
      branches_sound before no_branch around beside above parts k nil worded stands are = tt
      branches_sound before no_branch around beside above parts k (cons tree trees) worded stands are = absurd stands
      branches_sound before (branch value inner others) around beside above parts k nil worded stands are =
          absurd (no_more_branches (sheet_naming sheet) value inner others stands)
      branches_sound before (branch value inner others) around beside above parts k (cons (word bytes from to) trees) worded
          stands
          are =
          let both = first_branch (sheet_naming sheet) value inner others (word bytes from to) trees stands in (
            (given_sound symbol.Branch around parts (above ++ []) bytes from to refl).0,
            branches_sound before others around beside above parts (k + 1) trees worded both.1 are.1,
          )
      branches_sound before (branch value inner others) around beside above parts k (cons (list nil from to) trees) worded stands
          are =
          absurd (first_branch (sheet_naming sheet) value inner others (list nil from to) trees stands).0
      branches_sound before (branch value inner others) around beside above parts k
          (cons (list (cons (list vs f t) groups) from to) trees) worded stands are =
          absurd (first_branch (sheet_naming sheet) value inner others (list (cons (list vs f t) groups) from to) trees stands).0.0
      branches_sound before (branch value inner others) around beside above parts k
          (cons (list (cons (word bytes f t) groups) from to) trees) worded stands are =
          let whole = cons (word bytes f t) groups in
          let both = first_branch (sheet_naming sheet) value inner others (list whole from to) trees stands in
          let at = standing symbol.Branch around given_value parts (above ++ []) in
          all_join sheet all (parts_at (Some at) (list whole from to))
          (parts_in (standing symbol.Branches around no_role beside above) rule.Branches parts (k + 1) trees)
          (list_sound sheet all at rule.Branch whole from to refl
          (record { once = refl; known = refl; kind_fits = refl; shallow = refl; said = tt }) (
            (given_sound symbol.Name around whole (at.above ++ []) bytes f t refl).0,
            groups_sound before inner at rule.Branch whole 0 groups (λ j. refl) refl
                (subst (Worded sheet.names.attrs before)
                (sym (append-nil above) ∙ sym (append-nil (above ++ [])) ∙ ap (λ l. (above ++ []) ++ l)
                (sym (none_before groups)))
                worded)
                both.0.1 are.0,
          ))
          (branches_sound before others around beside above parts (k + 1) trees worded both.1 are.1)

  -- ENTRIES
  values_sound : (values : List ℕ) (around : Around) (beside : Trees) (above : List (List ℕ)) (parts : Trees) (k : ℕ)
      (trees : Trees) → StandValues (sheet_naming sheet) values trees
      → AllSound sheet all (parts_in (standing symbol.Values around no_role beside above) rule.Values parts k trees)
  values_sound [] around beside above parts k nil stands = tt
  values_sound [] around beside above parts k (cons tree trees) stands = absurd stands
  values_sound (value ∷ values) around beside above parts k nil stands = absurd stands
  values_sound (value ∷ values) around beside above parts k (cons (list inner from to) trees) stands = absurd stands.0
  values_sound (value ∷ values) around beside above parts k (cons (word bytes from to) trees) stands = (
    (given_sound symbol.Name around parts (above ++ []) bytes from to refl).0,
    values_sound values around beside above parts (k + 1) trees stands.1,
  )

  -- an atom of any kind where no variable may stand
  pub literal_sound : (q : Symbol) (around : Around) (value : ℤ) (tree : Tree) → some_of (sorts_at q) ≡ false → Literal value tree
      → Sound sheet all q around tree
  literal_sound q around value (word bytes from to) none stands = plain_word sheet all q around bytes from to none
  literal_sound q around value (list parts from to) none stands = absurd stands

  entry_sound : (around : Around) (entry : Entry) (tree : Tree)
      → Row (Named sheet.names.attrs entry.attr ▸ Row (Full (StandValues (sheet_naming sheet) entry.values))
      ▸ Literal entry.points ▸ End) tree → Sound sheet all symbol.Entry around tree
  entry_sound around entry tree stands =
      three_parts (Named sheet.names.attrs entry.attr) (Row (Full (StandValues (sheet_naming sheet) entry.values)))
      (Literal entry.points) (Sound sheet all symbol.Entry around) tree stands made
    where
      made : (a v p : Tree) (from to : ℕ) → Named sheet.names.attrs entry.attr a
          → Row (Full (StandValues (sheet_naming sheet) entry.values)) v → Literal entry.points p
          → Sound sheet all symbol.Entry around (list (cons a (cons v (cons p nil))) from to)
      made (list inner f t) v p from to named row literal = absurd named
      made (word bytes f t) (word w a b) p from to named row literal = absurd row
      made (word bytes f t) (list nil a b) p from to named row literal = let none = row.0 in absurd cc
      made (word bytes f t) (list (cons first more) a b) (list inner c d) from to named row literal = absurd literal
      made (word bytes f t) (list (cons first more) a b) (word points c d) from to named row literal =
          let parts = cons (word bytes f t) (cons (list (cons first more) a b) (cons (word points c d) nil)) in
          sound_list sheet all symbol.Entry rule.Entry around parts from to refl
          (easy_sound sheet all rule.Entry refl around _)
          (λ p r b' a'. (
            plain_atom sheet all (standing symbol.Name around no_role parts (a' ++ [])) bytes f refl refl refl,
            all_join sheet all
                (parts_at (Some (standing symbol.Values around no_role parts (a' ++ []))) (list (cons first more) a b))
                (parts_at (Some (standing symbol.Points around no_role parts (a' ++ []))) (word points c d))
                (list_sound sheet all (standing symbol.Values around no_role parts (a' ++ [])) rule.Values (cons first more) a b
                refl
                (record { once = refl; known = refl; kind_fits = refl; shallow = refl; said = tt })
                (values_sound entry.values around parts (a' ++ []) (cons first more) 0 (cons first more) row.1))
                (plain_atom sheet all (standing symbol.Points around no_role parts (a' ++ [])) points c refl refl refl, tt),
          ))

  pub entries_sound : (around : Around) (entries : List Entry) (trees : Trees)
      → StandEntries (sheet_naming sheet) entries trees → Each (Sound sheet all symbol.Entry around) trees
  entries_sound around [] nil stands = tt
  entries_sound around [] (cons tree trees) stands = absurd stands
  entries_sound around (entry ∷ entries) nil stands = absurd stands
  entries_sound around (entry ∷ entries) (cons tree trees) stands =
      (entry_sound around entry tree stands.0, entries_sound around entries trees stands.1)
