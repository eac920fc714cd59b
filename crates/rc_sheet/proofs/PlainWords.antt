-- The names of a form without a fault are plain words, and its variables are variable words, where its atoms may stand in a text.
use Rattle.std.proofs.Common.{◌≡◌, ℕ, ◌+◌, ◌<◌, ◌≤◌, Bool, true, false, not, ◌&&◌, cond, List, [], ◌∷◌, ◌++◌, ◌⊎◌, inl, inr, ⊎_elim, map, flat_map, Some, None, refl, sym, subst, ap, ap₂, ◌∙◌, arith, eqb-true}
use Rattle.std.specs.List.{list_all, AllByRecursion}
use Rattle.std.proofs.lemmas.Bool.{both_ways}
use Rattle.rc_base.specs.Tree.{Tree, word, list, Trees, nil, cons}
use Rattle.rc_sheet_spec.specs.Sheet.{Sheet}
use Rattle.rc_base.specs.Words.{is_variable, different}
use Rattle.rc_sheet_spec.specs.FormMentions.{word_of, var_words, bound_words, all_var_words, var_mentions, attr_mentions, value_mentions, map_mentions, loc_mentions, num_mentions}
use Rattle.rc_sheet_spec.specs.FormMentions.{is_binder as is_binder_head}
use Rattle.rc_sheet_spec.specs.WellFormed.{is_atom, is_plain_word, is_variable_word, HasWords}
use Rattle.rc_check.specs.Faults.{atom_kind, unless, faults, faults_at, faults_in, place_at, count, fits}
use Rattle.rc_check.specs.declared.fault.SheetKind.TheVariants.{Shape}
use Rattle.rc_check.specs.declared.grammar.Symbol.{Symbol}
use Rattle.rc_check.specs.declared.grammar.Symbol.TheVariants as symbol
use Rattle.rc_check.specs.declared.grammar.Rule.{Rule}
use Rattle.rc_check.specs.declared.grammar.Rule.TheVariants as rule
use Rattle.rc_check.specs.declared.role.Role.{Role}
use Rattle.rc_check.specs.declared.role.Role.TheVariants.{GivenValue as given_value}
use Rattle.rc_check.specs.SecondParts.{Standing, Part, atom, form, part_at, bytes_of, word_in, parts_of, is_binder, standing_alone}
use Rattle.rc_check.specs.SecondNames.{attributes_in, value_by, values_in, maps_in, locations_in, numbers_of, OwnedMention}
use Rattle.rc_check.specs.SecondFaults.{second_faults}
use Rattle.rc_resolve.specs.Naming.{naming_of}
use Rattle.rc_form.specs.SameForm.{IsOfAtoms, AreOfAtoms}
use Rattle.rc_sheet.specs.ReadSheet.{sheet_at}
use Rattle.rc_sheet.proofs.Among.{Among, among_left, among_right, among_either, one_of_all, map_among}
use Rattle.rc_sheet.proofs.Shapes.{none_in_both, shape_of, place_within, atom_only, taken}
use Rattle.rc_sheet.proofs.Bodies.{is_body_rule, IsBody, body_rule, body_inner, standing_at}
use Rattle.rc_sheet.proofs.Bound.{no_binder_head}
use Rattle.rc_sheet.proofs.Found.Names.{name_of, different_within, loc_names_are, num_names_are}
use Rattle.rc_sheet.proofs.FewNames.{flat_among, attributes_given, values_given, maps_given}
use Rattle.rc_sheet.proofs.Whole.{setup_of, parts_with, sheet_only, game_body, gives_mentions}
use Rattle.rc_sheet.proofs.OwnedNames.{locations_are}
use Rattle.rc_sheet.proofs.ShapedParts.{atom_is, may_give, IsShaped, IsShapedForm, all_shaped, atoms_at, faults_from}
use Rattle.rc_sheet.proofs.Within.{names_are}

-- WORDS

plain_atom : (bytes : List ℕ) → is_atom bytes ≡ true → unless (not (is_variable bytes)) Shape ≡ None
    → is_plain_word bytes ≡ true
plain_atom bytes stands fine =
    ap₂ (λ a b. a && b) stands
    (taken (not (is_variable bytes)) Shape fine)

variable_atom : (bytes : List ℕ) → is_atom bytes ≡ true → unless (is_variable bytes) Shape ≡ None
    → is_variable_word bytes ≡ true
variable_atom bytes stands fine =
    ap₂ (λ a b. a && b) stands (taken (is_variable bytes) Shape fine)

-- where a name is wanted stands a plain word
plain_tree : (tree : Tree) → IsOfAtoms tree → faults_at (Some symbol.Name) tree ≡ [] → is_plain_word (bytes_of tree) ≡ true
plain_tree tree atoms none =
    atom_only symbol.Name (λ tree. IsOfAtoms tree → is_plain_word (bytes_of tree) ≡ true) tree refl none
    (λ bytes from to fine stands. plain_atom bytes (atom_is bytes stands) fine) atoms

-- where a variable is wanted stands one
variable_tree : (x : List ℕ) (tree : Tree) → IsOfAtoms tree → faults_at (Some symbol.Variable) tree ≡ [] → Among x (word_of tree)
    → is_variable_word x ≡ true
variable_tree x tree atoms none is =
    atom_only symbol.Variable (λ tree. IsOfAtoms tree → Among x (word_of tree) → is_variable_word x ≡ true) tree refl none
    (λ bytes from to fine stands one.
    ⊎_elim (λ same. subst (λ w. is_variable_word w ≡ true) (sym same) (variable_atom bytes (atom_is bytes stands) fine))
    (λ more. absurd more) one)
    atoms is

-- NAMES

-- the name at this index of a form
plain_at : (r : Rule) (i : ℕ) (parts : Trees) → IsShapedForm r parts → i < count parts
    → place_at r (count parts) i ≡ Some symbol.Name → is_plain_word (word_in i parts) ≡ true
plain_at r i parts shaped less named =
    plain_tree (part_at i parts) (atoms_at i parts shaped.atoms)
    (subst (λ o. faults_at o (part_at i parts) ≡ []) named
    (let same : 0 + i ≡ i = omega arith in
    subst (λ j. faults_at (place_at r (count parts) j) (part_at i parts) ≡ []) same
    (faults_from r (count parts) 0 i parts less shaped.inner)))

-- a word that is the only one
sole_word : (x bytes : List ℕ) → is_plain_word bytes ≡ true → Among x (bytes ∷ []) → is_plain_word x ≡ true
sole_word x bytes plain (inl is) = subst (λ w. is_plain_word w ≡ true) (sym is) plain
sole_word x bytes plain (inr is) = absurd is

attribute_plain : (part : Part) → IsShaped part → (x : List ℕ) → Among x (attributes_in part) → is_plain_word x ≡ true
attribute_plain (form at rule.Group parts from) shaped x is =
    let many = eqb-true (count parts) 2 shaped.fit in
    sole_word x (word_in 0 parts) (plain_at rule.Group 0 parts shaped (omega (arith, many)) refl) is
attribute_plain (form at rule.Entry parts from) shaped x is =
    let many = eqb-true (count parts) 3 shaped.fit in
    sole_word x (word_in 0 parts) (plain_at rule.Entry 0 parts shaped (omega (arith, many)) refl) is
attribute_plain (form at r parts from) shaped x is = absurd is
attribute_plain (atom at bytes from) shaped x is = absurd is

map_plain : (part : Part) → IsShaped part → (x : List ℕ) → Among x (maps_in part) → is_plain_word x ≡ true
map_plain (form at rule.PutPoints parts from) shaped x is =
    let many = eqb-true (count parts) 4 shaped.fit in
    sole_word x (word_in 2 parts) (plain_at rule.PutPoints 2 parts shaped (omega (arith, many)) refl) is
map_plain (form at r parts from) shaped x is = absurd is
map_plain (atom at bytes from) shaped x is = absurd is

-- a place where a value may be given takes plain words
value_place : (p : Symbol) (bytes : List ℕ) → may_give p given_value ≡ true → atom_kind p bytes ≡ None
    → unless (not (is_variable bytes)) Shape ≡ None
value_place symbol.Name bytes gives fine = fine
value_place symbol.Branch bytes gives fine = fine
value_place p bytes gives fine = absurd cc

value_plain : (part : Part) → IsShaped part → (x : List ℕ) → Among x (values_in part) → is_plain_word x ≡ true
value_plain (form at r parts from) shaped x is = absurd is
value_plain (atom at bytes from) shaped x is = by at.role shaped.gives is
  where
    by : (role : Role) → may_give at.place role ≡ true → Among x (value_by role bytes) → is_plain_word x ≡ true
    by given_value gives one =
        sole_word x bytes (plain_atom bytes shaped.may_stand (value_place at.place bytes gives shaped.of_place)) one
    by role gives one = absurd one

-- a mention of a location or of a stored number
abbrev IsPlainMention : OwnedMention → Type 0
IsPlainMention mention = is_plain_word mention.name ≡ true

sole_mention : (mention other : OwnedMention) → IsPlainMention other → Among mention (other ∷ []) → IsPlainMention mention
sole_mention mention other plain (inl is) = subst IsPlainMention (sym is) plain
sole_mention mention other plain (inr is) = absurd is

location_plain : (part : Part) → IsShaped part → (x : OwnedMention) → Among x (locations_in part) → IsPlainMention x
location_plain (form at rule.Location parts from) shaped x is =
    let many = eqb-true (count parts) 3 shaped.fit in
    sole_mention x _ (plain_at rule.Location 2 parts shaped (omega (arith, many)) refl) is
location_plain (form at r parts from) shaped x is = absurd is
location_plain (atom at bytes from) shaped x is = absurd is

number_plain : (part : Part) → IsShaped part → (x : OwnedMention) → Among x (numbers_of part) → IsPlainMention x
number_plain (form at rule.Counter parts from) shaped x is =
    let many = eqb-true (count parts) 3 shaped.fit in
    sole_mention x _ (plain_at rule.Counter 2 parts shaped (omega (arith, many)) refl) is
number_plain (form at r parts from) shaped x is = absurd is
number_plain (atom at bytes from) shaped x is = absurd is

-- what each part gives is so, and so is what all give
all_give : {X : Type 0} (given : Part → List X) (P : X → Type 0) (parts : List Part)
    → ((part : Part) → IsShaped part → (x : X) → Among x (given part) → P x) → AllByRecursion IsShaped parts
    → (x : X) → Among x (flat_map given parts) → P x
all_give given P parts each shaped x is =
    let found = flat_among given x parts is in
    each found.0 (one_of_all IsShaped found.0 parts shaped found.1) x found.2

-- the test holds of all words where it holds of each
all_among : (test : List ℕ → Bool) (words : List (List ℕ)) → ((x : List ℕ) → Among x words → test x ≡ true)
    → list_all test words ≡ true
all_among test [] each = refl
all_among test (x ∷ words) each =
    ap₂ (λ a b. a && b) (each x (inl refl)) (all_among test words (λ y is. each y (inr is)))

-- and of the different ones among them
all_different : (test : List ℕ → Bool) (words : List (List ℕ)) → ((x : List ℕ) → Among x words → test x ≡ true)
    → list_all test (different words) ≡ true
all_different test words each = all_among test (different words) (λ x is. each x (different_within [] words x is))

-- the names of mentions
names_plain : (words : List (List ℕ)) (mentions : List OwnedMention) → words ≡ map name_of mentions
    → ((mention : OwnedMention) → Among mention mentions → IsPlainMention mention) → (x : List ℕ) → Among x words
    → is_plain_word x ≡ true
names_plain words mentions same each x is =
    let found = map_among name_of x mentions (subst (Among x) same is) in
    subst (λ w. is_plain_word w ≡ true) (sym found.2) (each found.0 found.1)

-- VARIABLES

-- the variable of a binder, where its head is one
abbrev BoundIn : List ℕ → Trees → Type 0
BoundIn x (cons head (cons domain (cons var rest))) = (is_binder_head head ≡ true) × Among x (word_of var)
BoundIn x parts = ⊥

-- what a list mentions one of its parts mentions, or it is bound there
bound_or_inner : (x : List ℕ) (parts : Trees) → Among x (bound_words parts)
    → BoundIn x parts ⊎ Among x (all_var_words parts)
bound_or_inner x nil is = absurd is
bound_or_inner x (cons head nil) is = inr (among_left x (var_words head) [] is)
bound_or_inner x (cons head (cons tree nil)) is =
    inr (⊎_elim (λ one. among_left x (var_words head) (var_words tree ++ []) one)
    (λ one. among_right x (var_words head) (var_words tree ++ []) (among_left x (var_words tree) [] one))
    (among_either x (var_words head) (var_words tree) is))
bound_or_inner x (cons head (cons domain (cons var rest))) is =
    ⊎_elim
    (λ first. ⊎_elim
    (λ early. inr (⊎_elim (λ one. among_left x (var_words head) _ one)
    (λ one. among_right x (var_words head) _ (among_left x (var_words domain) _ one))
    (among_either x (var_words head) (var_words domain) early)))
    (λ third. by (is_binder_head head) refl third)
    (among_either x (var_words head ++ var_words domain) _ first))
    (λ later. inr (among_right x (var_words head) _ (among_right x (var_words domain) _
    (among_right x (var_words var) (all_var_words rest) later))))
    (among_either x _ (all_var_words rest) is)
  where
    by : (b : Bool) → is_binder_head head ≡ b → Among x (cond b (word_of var) (var_words var))
        → BoundIn x (cons head (cons domain (cons var rest))) ⊎ Among x (all_var_words (cons head (cons domain (cons var rest))))
    by true binds one = inl (binds, one)
    by false binds one =
        inr (among_right x (var_words head) _ (among_right x (var_words domain) _ (among_left x (var_words var) _ one)))

-- the third part of a binder is a variable
third_variable : (r : Rule) (n : ℕ) → is_binder r ≡ true → place_at r n 2 ≡ Some symbol.Variable
third_variable rule.Filter n is = refl
third_variable rule.AnyOf n is = refl
third_variable rule.Each n is = refl
third_variable rule.ForAll n is = refl
third_variable rule.ForAny n is = refl
third_variable r n is = absurd cc

-- what a list binds is a variable
bound_variable : (x : List ℕ) (r : Rule) (parts : Trees) → is_body_rule r ≡ true → AreOfAtoms parts
    → faults_in r (count parts) 0 parts ≡ [] → BoundIn x parts → is_variable_word x ≡ true
bound_variable x r nil body atoms none bound = absurd bound
bound_variable x r (cons head nil) body atoms none bound = absurd bound
bound_variable x r (cons head (cons domain nil)) body atoms none bound = absurd bound
bound_variable x r (cons head (cons domain (cons var rest))) body atoms none bound =
    let n = count (cons head (cons domain (cons var rest))) in
    let first = none_in_both (faults_at (place_at r n 0) head) (faults_in r n 1 (cons domain (cons var rest))) none in
    let second = none_in_both (faults_at (place_at r n 1) domain) (faults_in r n 2 (cons var rest)) first.1 in
    let third = none_in_both (faults_at (place_at r n 2) var) (faults_in r n 3 rest) second.1 in
    by n first.0 third.0 (is_binder r) refl
  where
    by : (n : ℕ) → faults_at (place_at r n 0) head ≡ [] → faults_at (place_at r n 2) var ≡ []
        → (b : Bool) → is_binder r ≡ b → is_variable_word x ≡ true
    by n first third true is =
        variable_tree x var atoms.1.1.0 (subst (λ o. faults_at o var ≡ []) (third_variable r n is) third) bound.1
    by n first third false is = absurd (both_ways (is_binder_head head) (no_binder_head r n head body is first) bound.0)

mutual
  -- the variables of a tree behind the setup
  tree_variables : (at : Standing) (tree : Tree) → IsBody at → IsOfAtoms tree → faults_at (Some at.place) tree ≡ []
      → (x : List ℕ) → Among x (var_words tree) → is_variable_word x ≡ true
  tree_variables at (word bytes from to) body atoms none = λ x is. absurd is
  tree_variables at (list parts from to) body atoms none =
      let shape = shape_of at.place parts from to none in
      let inner = row_variables at shape.form parts 0 0 parts (omega arith) (omega arith) shape.fit shape.inner atoms
      (λ j q low is. body_inner at shape.form parts j q body shape.told is) in
      λ x is.
      ⊎_elim
      (λ bound. bound_variable x shape.form parts
      (body_rule at.place parts shape.form body.placed shape.told) atoms shape.inner bound)
      (λ one. inner x one)
      (bound_or_inner x parts is)

  -- and of its parts
  row_variables : (at : Standing) (r : Rule) (all : Trees) (low index : ℕ) (trees : Trees) → low ≤ index
      → index + count trees ≡ count all
      → fits (count all) r ≡ true → faults_in r (count all) index trees ≡ [] → AreOfAtoms trees
      → ((j : ℕ) (q : Symbol) → low ≤ j → place_at r (count all) j ≡ Some q → IsBody (standing_at at r all j q))
      → (x : List ℕ) → Among x (all_var_words trees) → is_variable_word x ≡ true
  row_variables at r all low index nil above counted fit none atoms each = λ x is. absurd is
  row_variables at r all low index (cons tree trees) above counted fit none atoms each =
      let apart = none_in_both (faults_at (place_at r (count all) index) tree) (faults_in r (count all) (index + 1) trees) none in
      let place = place_within r (count all) index fit (omega (arith, counted)) in
      let here = tree_variables (standing_at at r all index place.0) tree (each index place.0 above place.1) atoms.0
      (subst (λ o. faults_at o tree ≡ []) place.1 apart.0) in
      let later = row_variables at r all low (index + 1) trees (omega (arith, above)) (omega (arith, counted)) fit apart.1
      atoms.1 each in
      λ x is. ⊎_elim (λ one. here x one) (λ one. later x one) (among_either x (var_words tree) (all_var_words trees) is)

-- the variables of a form without a fault
variables_are : (tree : Tree) → faults symbol.Sheet tree ≡ [] → IsOfAtoms tree
    → (x : List ℕ) → Among x (var_mentions tree) → is_variable_word x ≡ true
variables_are tree shaped =
    sheet_only (λ tree. IsOfAtoms tree → (x : List ℕ) → Among x (var_mentions tree) → is_variable_word x ≡ true) tree shaped
    (λ a b c d e f from to lines rest shape atoms.
    row_variables standing_alone rule.Game (parts_with a b (setup_of c d e f lines) rest) 2 2 rest (omega arith)
    (omega arith) shape.all_fit shape.rest_fine atoms.1.1
    (λ j q above is. game_body (parts_with a b (setup_of c d e f lines) rest) j q above is))

-- THE LAW

-- a sheet that is read off a form without a fault has words, where the form has atoms
pub has_words : (tree : Tree) (sheet : Sheet) → faults symbol.Sheet tree ≡ [] → second_faults tree ≡ [] → IsOfAtoms tree
    → sheet_at (naming_of tree) tree ≡ Some sheet → HasWords sheet
has_words tree sheet shaped sound atoms is =
    let all = parts_of tree in
    let names = names_are tree sheet is in
    let parts = all_shaped tree atoms shaped in
    record {
      attrs = ap (λ n. list_all is_plain_word n.attrs) names
          ∙ all_different is_plain_word (attr_mentions tree)
          (λ x one. all_give attributes_in (λ x. is_plain_word x ≡ true) all attribute_plain parts x
          (attributes_given tree shaped sound x one));
      values = ap (λ n. list_all is_plain_word n.values) names
          ∙ all_different is_plain_word (value_mentions tree)
          (λ x one. all_give values_in (λ x. is_plain_word x ≡ true) all value_plain parts x
          (values_given tree shaped sound x one));
      maps = ap (λ n. list_all is_plain_word n.maps) names
          ∙ all_different is_plain_word (map_mentions tree)
          (λ x one. all_give maps_in (λ x. is_plain_word x ≡ true) all map_plain parts x
          (maps_given tree shaped sound x one));
      locs = ap (λ n. list_all is_plain_word n.locs) names
          ∙ all_different is_plain_word (loc_mentions tree)
          (names_plain (loc_mentions tree) (flat_map locations_in all)
          (loc_names_are tree ∙ ap (map name_of) (sym (locations_are tree shaped)))
          (λ mention one. all_give locations_in IsPlainMention all location_plain parts mention one));
      nums = ap (λ n. list_all is_plain_word n.nums) names
          ∙ all_different is_plain_word (num_mentions tree)
          (names_plain (num_mentions tree) (flat_map numbers_of all)
          (num_names_are tree ∙ ap (map name_of) (sym (gives_mentions tree shaped).numbers))
          (λ mention one. all_give numbers_of IsPlainMention all number_plain parts mention one));
      vars = ap (λ n. list_all is_variable_word n.vars) names
          ∙ all_different is_variable_word (var_mentions tree) (variables_are tree shaped atoms);
    }
