-- What the setup of a form gives its sheet has: attributes and values that its decks and points mention, and point maps.
use Rattle.std.proofs.Common.{◌≡◌, ℕ, zero, suc, ◌+◌, ◌<◌, Bool, true, false, not, cond, nat_eq, nat_lt, List, [], ◌∷◌, ◌++◌, inl, inr, ⊎_elim, length, Some, None, position, bytes_eq, slice_get, flat_map, refl, sym, subst, ap, ◌∙◌, arith, eq-eqb}
use Rattle.std.specs.List.{AllZip, zip, range_with_len, IsDistinct, position_or_len}
use Rattle.std.proofs.lemmas.Bool.{or_left, or_right}
use Rattle.std.proofs.lemmas.Option.{same_Some}
use Rattle.std.proofs.lemmas.Slice.Eq.{bytes_eq-Decides}
use Rattle.rc_base.specs.Tree.{Tree, Trees}
use Rattle.rc_base.specs.Deck.{Entry}
use Rattle.rc_sheet_spec.specs.Sheet.{SheetItems, Best, IntExpr}
use Rattle.rc_sheet_spec.specs.Mentions.{attr_of, value_of, in_setup}
use Rattle.rc_sheet_spec.specs.FormMentions.{points_map, attr_mentions, value_mentions, map_mentions}
use Rattle.rc_sheet_spec.specs.Naming.{Naming}
use Rattle.rc_sheet_spec.specs.StandsSetup.{StandsMap, lines_with, numbered, StandsSetup}
use Rattle.rc_sheet_spec.specs.WellFormed.{is_among, IsAttr, IsValue, IsMap}
use Rattle.rc_check.specs.Faults.{faults}
use Rattle.rc_check.specs.declared.grammar.Symbol.TheVariants as symbol
use Rattle.rc_check.specs.SecondParts.{parts_of}
use Rattle.rc_check.specs.SecondNames.{attributes_in, values_in, maps_in}
use Rattle.rc_check.specs.SecondFaults.{second_faults}
use Rattle.rc_resolve.specs.Naming.{naming_of}
use Rattle.rc_sheet.specs.ReadSetup.{Setup}
use Rattle.rc_sheet.specs.ReadSheet.{setup_form_at, sheet_with}
use Rattle.rc_sheet.proofs.Means.{Means, weaker}
use Rattle.rc_sheet.proofs.Among.{Among, among_either, named_among, one_of_all}
use Rattle.rc_sheet.proofs.Found.Names.{get_among}
use Rattle.rc_sheet.proofs.FewNames.{words_equal, different_differ}
use Rattle.rc_sheet.proofs.Fine.Common.{given_of, IsNamed}
use Rattle.rc_sheet.proofs.Fine.Sheet.{IsSetUp}
use Rattle.rc_sheet.proofs.Lines.{lines_within}
use Rattle.rc_sheet.proofs.Mentioned.Common.{attrs, values}
use Rattle.rc_sheet.proofs.Mentioned.Setup.{deck_words, points_words, points_only, setup_named}
use Rattle.rc_sheet.proofs.ReadOff.Sheet.{setup_form_means}
use Rattle.rc_sheet.proofs.Whole.{setup_of as setup_tree, parts_with, IsSheetForm, sheet_only, attributes_give, values_give, maps_give}
use Rattle.rc_sheet.proofs.Fine.Lines.{setup_in, whole_form}
use Rattle.rc_sheet.proofs.MapsInTurn.{points_alone}

-- THE NUMBER OF A WORD AMONG DIFFERENT WORDS

-- a number that is found is the first place
place_is : {A : Type 0} (test : A → Bool) (all : List A) (n : ℕ) → position test all ≡ Some n → position_or_len test all ≡ n
place_is test all n is = by (nat_lt (position_or_len test all) (length all)) is
  where
    by : (b : Bool) → cond b (Some (position_or_len test all)) None ≡ Some n → position_or_len test all ≡ n
    by true is = same_Some (position_or_len test all) n is
    by false is = absurd cc

-- where all differ, the first place of a word is any place of it
only_place : (words : List (List ℕ)) (n : ℕ) (word : List ℕ) → IsDistinct bytes_eq words → slice_get words n ≡ Some word
    → position_or_len (bytes_eq word) words ≡ n
unfolding IsDistinct
only_place [] n word differ is = absurd cc
only_place (other ∷ words) zero word differ is =
    ap (λ b. cond (not b) (1 + position_or_len (bytes_eq word) words) 0)
    ((bytes_eq-Decides word other).1 (sym (same_Some other word is)))
only_place (other ∷ words) (suc n) word differ is =
    let apart = one_of_all (λ w. bytes_eq other w ≡ false) word words differ.0 (get_among words n word is) in
    let later = only_place words n word differ.1 is in
    ap (λ b. cond (not b) (1 + position_or_len (bytes_eq word) words) 0) (words_equal.symm word other ∙ apart)
    ∙ omega (arith, later)

-- so the number that is found is the one by which the word stands there
same_number : (words : List (List ℕ)) (n m : ℕ) (word : List ℕ) → IsDistinct bytes_eq words
    → position (bytes_eq word) words ≡ Some n → slice_get words m ≡ Some word → n ≡ m
same_number words n m word differ found there =
    sym (place_is (bytes_eq word) words n found) ∙ only_place words m word differ there

-- a word among those of some numbers has one of them
number_among : (all : List (List ℕ)) (numbers : List ℕ) (words : List (List ℕ)) (word : List ℕ) (n : ℕ) → IsDistinct bytes_eq all
    → AllZip (λ n word. slice_get all n ≡ Some word) numbers words → Among word words → position (bytes_eq word) all ≡ Some n
    → is_among n numbers ≡ true
number_among all [] [] word n differ each is found = absurd is
number_among all [] (other ∷ words) word n differ each is found = absurd each
number_among all (m ∷ numbers) [] word n differ each is found = absurd is
number_among all (m ∷ numbers) (other ∷ words) word n differ each (inl is) found =
    or_left (nat_eq n m) (is_among n numbers)
    (eq-eqb n m (same_number all n m word differ found (each.0 ∙ ap Some (sym is))))
number_among all (m ∷ numbers) (other ∷ words) word n differ each (inr is) found =
    or_right (nat_eq n m) (is_among n numbers) (number_among all numbers words word n differ each.1 is found)

-- POINT MAPS

-- the map of a line has one of the numbers from here on, of which there are as many as lines
map_within : (naming : Naming) (start : ℕ) (points : List (List Entry)) (lines : List Tree) (word : List ℕ)
    → AllZip (StandsMap naming) (zip (range_with_len start (length points)) points) lines
    → Among word (flat_map points_map lines)
    → (n : ℕ) × (n < start + length points) × (slice_get naming.names.maps n ≡ Some word)
map_within naming start [] [] word stand is = absurd is
map_within naming start [] (line ∷ lines) word stand is = absurd stand
map_within naming start (entries ∷ points) [] word stand is = absurd is
map_within naming start (entries ∷ points) (line ∷ lines) word stand is =
    ⊎_elim
    (points_only
    (λ line. Among word (points_map line)
    → (n : ℕ) × (n < start + length (entries ∷ points)) × (slice_get naming.names.maps n ≡ Some word))
    naming (start, entries) line stand.0
    (λ put second bytes parts a b c d from to there entries.
    ⊎_elim (λ same. (start, omega arith, there ∙ ap Some (sym same))) (λ none. absurd none)))
    (λ later.
    let found = map_within naming (start + 1) points lines word stand.1 later in
    let less = found.1 in
    (found.0, omega (arith, less), found.2))
    (among_either word (points_map line) (flat_map points_map lines) is)

-- THE SETUP OF A FORM, WITH ITS PARTS
module _ (a b c d e f from to : ℕ) (lines rest : Trees) where
  abbrev tree : Tree
  tree = whole_form a b c d e f from to lines rest

  abbrev naming : Naming
  naming = naming_of tree

  -- the lines of decks, and those of points
  abbrev deck_lines : List Tree
  deck_lines = lines_with "create" "deck" lines

  abbrev points_lines : List Tree
  points_lines = lines_with "put" "points" lines

  module _ (shaped : IsSheetForm (setup_tree c d e f lines) lines rest (parts_with a b (setup_tree c d e f lines) rest))
      (s : Setup) (body : SheetItems × (Best × IntExpr)) (stands : StandsSetup naming (sheet_with naming s body) lines) where
    attrs_given : (bytes : List ℕ) (n : ℕ) → IsNamed bytes (flat_map attributes_in (parts_of tree))
        → position (bytes_eq bytes) naming.names.attrs ≡ Some n → IsAttr (sheet_with naming s body) n
    attrs_given bytes n named found =
        number_among naming.names.attrs (flat_map attr_of (in_setup (sheet_with naming s body)))
        (flat_map (deck_words attrs) deck_lines ++ flat_map (points_words attrs) points_lines) bytes n
        (different_differ [] (attr_mentions tree))
        (setup_named attrs naming s.decks (numbered s.points) deck_lines points_lines refl stands.decks stands.points).each
        (lines_within (deck_words attrs) (points_words attrs) lines bytes
        (subst (Among bytes) (attributes_give a b c d e f from to lines rest shaped) (named_among bytes _ named)))
        found

    values_given : (bytes : List ℕ) (n : ℕ) → IsNamed bytes (flat_map values_in (parts_of tree))
        → position (bytes_eq bytes) naming.names.values ≡ Some n → IsValue (sheet_with naming s body) n
    values_given bytes n named found =
        number_among naming.names.values (flat_map value_of (in_setup (sheet_with naming s body)))
        (flat_map (deck_words values) deck_lines ++ flat_map (points_words values) points_lines) bytes n
        (different_differ [] (value_mentions tree))
        (setup_named values naming s.decks (numbered s.points) deck_lines points_lines refl stands.decks stands.points).each
        (lines_within (deck_words values) (points_words values) lines bytes
        (subst (Among bytes) (values_give a b c d e f from to lines rest shaped) (named_among bytes _ named)))
        found

    maps_given : (bytes : List ℕ) (n : ℕ) → IsNamed bytes (flat_map maps_in (parts_of tree))
        → position (bytes_eq bytes) naming.names.maps ≡ Some n → IsMap (sheet_with naming s body) n
    maps_given bytes n named found =
        let there = map_within naming 0 s.points points_lines bytes stands.points
        (subst (Among bytes) (maps_give a b c d e f from to lines rest shaped ∙ points_alone lines)
        (named_among bytes _ named)) in
        let same = same_number naming.names.maps n there.0 bytes (different_differ [] (map_mentions tree)) found there.2 in
        let less = there.1 in
        omega (arith, same, less)

-- THE LAW: the setup that is read of a form has what the form gives, whatever the items and the score of its sheet are.
pub is_set_up : (tree : Tree) → faults symbol.Sheet tree ≡ [] → second_faults tree ≡ []
    → Means (setup_form_at (naming_of tree) (setup_in tree)) (IsSetUp (naming_of tree) (given_of tree))
is_set_up tree shaped sound =
    sheet_only (λ tree. Means (setup_form_at (naming_of tree) (setup_in tree))
    (IsSetUp (naming_of tree) (given_of tree))) tree shaped
    (λ a b c d e f from to lines rest fits.
    let naming = naming_of (whole_form a b c d e f from to lines rest) in
    weaker (setup_form_at naming (setup_tree c d e f lines)) (setup_form_means naming (setup_tree c d e f lines))
    (λ s stands body.
    let setup = (stands (sheet_with naming s body) refl).1.1 in
    record {
      attrs = attrs_given a b c d e f from to lines rest fits s body setup;
      values = values_given a b c d e f from to lines rest fits s body setup;
      maps = maps_given a b c d e f from to lines rest fits s body setup;
    }))
