-- What the setup of a sheet gives of attributes, of values and of point maps the parts of its form give.
use Rattle.std.proofs.Common.{◌≡◌, ℕ, zero, suc, ◌+◌, ◌<◌, Bool, true, false, ◌||◌, List, [], ◌∷◌, ◌++◌, inl, inr, length, flat_map, zip, Some, slice_get, nat_eq, refl, sym, subst, ap₂, ◌∙◌, arith, eqb-true}
use Rattle.std.specs.Prelude.{slice_index_or}
use Rattle.std.specs.List.{range_with_len}
use Rattle.std.proofs.lemmas.Option.{get_or_from_slice_get}
use Rattle.std.proofs.lemmas.Grind.{flat_map-append}
use Rattle.rc_base.specs.Tree.{Tree}
use Rattle.rc_base.specs.Deck.{Entry}
use Rattle.rc_sheet_spec.specs.Sheet.{Sheet}
use Rattle.rc_sheet_spec.specs.Mentions.{Mention, map_of, in_deck, in_entry, in_map}
use Rattle.rc_sheet_spec.specs.Naming.{sheet_naming}
use Rattle.rc_sheet_spec.specs.FormMentions.{points_entries, deck_groups, group_attr_words, entry_attr_words, group_value_words, entry_value_words}
use Rattle.rc_sheet_spec.specs.StandsSetup.{numbered, lines_with}
use Rattle.rc_sheet_spec.specs.Stands.{Stands}
use Rattle.rc_sheet_spec.specs.WellFormed.{is_among}
use Rattle.rc_check.specs.Faults.{faults}
use Rattle.rc_check.specs.declared.grammar.Symbol.TheVariants as symbol
use Rattle.rc_check.specs.SecondParts.{parts_of}
use Rattle.rc_check.proofs.Seen.{zero_add}
use Rattle.rc_sheet.proofs.Among.{Among, among_right, among_named, among_map}
use Rattle.rc_sheet.proofs.Lines.{within_lines}
use Rattle.rc_sheet.proofs.MapsInTurn.{points_alone}
use Rattle.rc_sheet.proofs.Mentioned.Common.{Kind, attrs, values, maps, of_kind, names_in, said, said-append}
use Rattle.rc_sheet.proofs.Mentioned.Setup.{deck_words, points_words, decks_said, maps_said}
use Rattle.rc_sheet.proofs.Whole.{sheet_only, attributes_give, values_give, maps_give}
use Rattle.rc_sheet.proofs.Sound.Parts.{AreGiven}

-- a number that is found among others is one of them
found_among : (n : ℕ) (numbers : List ℕ) → is_among n numbers ≡ true → Among n numbers
found_among n [] is = absurd cc
found_among n (m ∷ numbers) is = by (nat_eq n m) refl is (found_among n numbers)
  where
    by : (b : Bool) → nat_eq n m ≡ b → (b || is_among n numbers) ≡ true → (is_among n numbers ≡ true → Among n numbers)
        → Among n (m ∷ numbers)
    by true same is later = inl (eqb-true n m same)
    by false other is later = inr (later is)

-- the word of a number that the setup mentions is one of the words that its lines say
word_said : (kind : Kind) (sheet : Sheet) (n : ℕ) (bytes : List ℕ) (ms : List Mention)
    → slice_get (names_in kind sheet.names) n ≡ Some bytes → is_among n (flat_map (of_kind kind) ms) ≡ true
    → Among bytes (said kind sheet.names ms)
word_said kind sheet n bytes ms is among =
    subst (λ w. Among w (said kind sheet.names ms)) (get_or_from_slice_get (names_in kind sheet.names) n bytes [] is)
    (among_map (λ m. slice_index_or (names_in kind sheet.names) m []) n (flat_map (of_kind kind) ms)
    (found_among n (flat_map (of_kind kind) ms) among))

-- what the setup mentions its lines say
setup_said : (kind : Kind) (sheet : Sheet) (deck_lines points_lines : List Tree)
    → said kind sheet.names (flat_map in_deck sheet.decks) ≡ flat_map (deck_words kind) deck_lines
    → said kind sheet.names (flat_map in_map (numbered sheet.points)) ≡ flat_map (points_words kind) points_lines
    → said kind sheet.names (flat_map in_deck sheet.decks ++ flat_map in_map (numbered sheet.points))
    ≡ flat_map (deck_words kind) deck_lines ++ flat_map (points_words kind) points_lines
setup_said kind sheet deck_lines points_lines first second =
    said-append kind sheet.names (flat_map in_deck sheet.decks) (flat_map in_map (numbered sheet.points))
    ∙ ap₂ ◌++◌ first second

-- the numbers of point maps are mentioned in order
map_mentioned : (start k : ℕ) (points : List (List Entry)) → k < length points
    → Among (start + k) (flat_map map_of (flat_map in_map (zip (range_with_len start (length points)) points)))
map_mentioned start k [] less = absurd (omega (arith, less))
map_mentioned start zero (entries ∷ points) less = inl (omega arith)
map_mentioned start (suc k) (entries ∷ points) less =
    let next : (start + 1) + k ≡ start + suc k = omega arith in
    let rest = flat_map in_map (zip (range_with_len (start + 1) (length points)) points) in
    inr (subst (Among (start + suc k)) (sym (flat_map-append map_of (flat_map in_entry entries) rest))
    (among_right (start + suc k) (flat_map map_of (flat_map in_entry entries)) (flat_map map_of rest)
    (subst (λ m. Among m (flat_map map_of rest)) next (map_mentioned (start + 1) k points (omega (arith, less))))))

-- WHAT IS GIVEN
pub are_given : (sheet : Sheet) (tree : Tree) → faults symbol.Sheet tree ≡ [] → Stands sheet tree → AreGiven sheet (parts_of tree)
are_given sheet tree shaped stands =
    sheet_only (λ tree. Stands sheet tree → AreGiven sheet (parts_of tree)) tree shaped
    (λ a b c d e f from to lines rest fits stands.
    let setup = stands.1.0.1.1 in
    let deck_lines = lines_with "create" "deck" lines in
    let points_lines = lines_with "put" "points" lines in
    record {
      attrs = λ n bytes is attr. among_named bytes _
          (subst (Among bytes) (sym (attributes_give a b c d e f from to lines rest fits))
          (within_lines (λ line. group_attr_words (deck_groups line)) (λ line. entry_attr_words (points_entries line)) lines bytes
          (subst (Among bytes)
          (setup_said attrs sheet deck_lines points_lines (decks_said attrs (sheet_naming sheet) sheet.decks deck_lines setup.decks)
          (maps_said attrs (sheet_naming sheet) (numbered sheet.points) points_lines setup.points))
          (word_said attrs sheet n bytes
          (flat_map in_deck sheet.decks ++ flat_map in_map (numbered sheet.points)) is attr))));
      values = λ n bytes is value. among_named bytes _
          (subst (Among bytes) (sym (values_give a b c d e f from to lines rest fits))
          (within_lines (λ line. group_value_words (deck_groups line)) (λ line. entry_value_words (points_entries line)) lines
          bytes
          (subst (Among bytes)
          (setup_said values sheet deck_lines points_lines
          (decks_said values (sheet_naming sheet) sheet.decks deck_lines setup.decks)
          (maps_said values (sheet_naming sheet) (numbered sheet.points) points_lines setup.points))
          (word_said values sheet n bytes
          (flat_map in_deck sheet.decks ++ flat_map in_map (numbered sheet.points)) is value))));
      maps = λ n bytes is map. among_named bytes _
          (subst (Among bytes) (sym (maps_give a b c d e f from to lines rest fits ∙ points_alone lines))
          (subst (Among bytes) (maps_said maps (sheet_naming sheet) (numbered sheet.points) points_lines setup.points)
          (subst (λ w. Among w (said maps sheet.names (flat_map in_map (numbered sheet.points))))
          (get_or_from_slice_get sheet.names.maps n bytes [] is)
          (among_map (λ m. slice_index_or sheet.names.maps m []) n (flat_map map_of (flat_map in_map (numbered sheet.points)))
          (subst (λ m. Among m (flat_map map_of (flat_map in_map (numbered sheet.points)))) (zero_add n)
          (map_mentioned 0 n sheet.points map))))));
    })
    stands
