-- The points that a setup says: each has an entry, and each entry a value and points that are in range.
use Rattle.std.proofs.Common.{◌≡◌, ℕ, ◌≤◌, List, [], ◌∷◌, length, ℤ, pos, Option, Some, None, ◌==◌, subst, arith}
use Rattle.std.specs.Prelude.{int_le, neg_ℤ}
use Rattle.std.specs.List.{All, AllByRecursion}
use Rattle.std.specs.Option.{option_and_then}
use Rattle.std.proofs.lemmas.Bool.{and_parts}
use Rattle.std.proofs.lemmas.Int.{ints}
use Rattle.std.proofs.lemmas.List.Elements.{All-from_recursion, All-weaker}
use Rattle.rc_base.specs.Tree.{Tree, word, list, Trees, nil, cons}
use Rattle.rc_base.specs.Literal.{integer}
use Rattle.rc_base.specs.Deck.{Entry}
use Rattle.rc_resolve.specs.NamedNumbers.{DeckNames}
use Rattle.rc_sheet_spec.specs.Sheet.{Sheet}
use Rattle.rc_base.specs.Clamp.{IsWithinClamp, largest_number}
use Rattle.rc_deck.proofs.EachLemmas.{append_each}
use Rattle.rc_sheet_spec.specs.WellFormed.{IsEntry}
use Rattle.rc_resolve.specs.NamedNumbers.{number_of}
use Rattle.rc_resolve.specs.Reading.{read_values, read_value_list, unclamped, read_points, entry_with, read_entry, read_all_entries, read_entries}
use Rattle.rc_resolve.specs.Reading.{both as both_read}
use Rattle.rc_check.specs.Faults.{faults}
use Rattle.rc_check.specs.declared.grammar.Symbol.TheVariants as symbol
use Rattle.rc_check.specs.SecondFaults.{second_faults}
use Rattle.rc_resolve.specs.Naming.{naming_of}
use Rattle.rc_sheet_spec.specs.Naming.{Naming}
use Rattle.rc_sheet.specs.ReadNames.{ensure, name_at}
use Rattle.rc_sheet.specs.ReadSetup.{face_words, points_at}
use Rattle.rc_sheet.specs.ReadSheet.{setup_form_at, sheet_at}
use Rattle.rc_sheet.proofs.Means.{Means, nothing, something, means_so, weaker, behind, either, made_of, anything}
use Rattle.rc_sheet.proofs.Fine.Lines.{setup_in, setup_keeps}
use Rattle.rc_sheet.proofs.SheetSetup.{by_setup}

-- a number within the clamp is in range
unclamped_fits : (found : Option ℤ) → Means (option_and_then unclamped found) IsWithinClamp
unclamped_fits None = nothing
unclamped_fits (Some points) =
    either _ (Some points) None
    (λ is.
    let both = and_parts (int_le (neg_ℤ (pos largest_number)) points) (int_le points (pos largest_number)) is in
    let least = both.0 in
    let most = both.1 in
    something points (omega (arith, ints, least), omega (arith, ints, most)))
    (λ is. nothing)

points_fit : (tree : Tree) → Means (read_points tree) IsWithinClamp
points_fit (word bytes from to) = unclamped_fits (integer bytes)
points_fit (list parts from to) = nothing

-- values, of which there is one
values_some : (names : DeckNames) (tree : Tree) → Means (read_value_list names tree) (λ values. 1 ≤ length values)
values_some names (word bytes from to) = nothing
values_some names (list nil from to) = nothing
values_some names (list (cons tree trees) from to) =
    made_of ◌∷◌ (number_of names.values tree) (read_values names trees) (anything _) (anything _)
    (λ value values a b. omega arith)

-- an entry
entry_fits : (names : DeckNames) (tree : Tree) → Means (read_entry names tree) IsEntry
entry_fits names (word bytes from to) = nothing
entry_fits names (list nil from to) = nothing
entry_fits names (list (cons head nil) from to) = nothing
entry_fits names (list (cons head (cons second nil)) from to) = nothing
entry_fits names (list (cons head (cons second (cons third nil))) from to) =
    made_of entry_with (number_of names.attrs head) (both_read (λ values points. (values, points)) (read_value_list names second)
    (read_points third))
    (anything _)
    (made_of {R = λ worth. (1 ≤ length worth.0) × IsWithinClamp worth.1} (λ values points. (values, points))
    (read_value_list names second) (read_points third) (values_some names second) (points_fit third)
    (λ values points some fits. (some, fits)))
    (λ attr worth a fits. fits)
entry_fits names (list (cons head (cons second (cons third (cons fourth others)))) from to) = nothing

-- entries
each_entry_fits : (names : DeckNames) (trees : Trees) → Means (read_all_entries names trees) (AllByRecursion IsEntry)
each_entry_fits names nil = something [] tt
each_entry_fits names (cons tree trees) =
    made_of ◌∷◌ (read_entry names tree) (read_all_entries names trees) (entry_fits names tree) (each_entry_fits names trees)
    (λ entry entries fits fit. (fits, fit))

-- entries, of which there is one
abbrev pub ArePoints : List Entry → Type 0
ArePoints entries = (1 ≤ length entries) × AllByRecursion IsEntry entries

pub entries_fit : (names : DeckNames) (tree : Tree) → Means (read_entries names tree) ArePoints
entries_fit names (word bytes from to) = nothing
entries_fit names (list nil from to) = nothing
entries_fit names (list (cons tree trees) from to) =
    made_of ◌∷◌ (read_entry names tree) (read_all_entries names trees) (entry_fits names tree) (each_entry_fits names trees)
    (λ entry entries fits fit. (omega arith, (fits, fit)))

-- a line of points
map_fits : (naming : Naming) (number : ℕ) (map entries : Tree) → Means (points_at naming number map entries) ArePoints
unfolding points_at
map_fits naming number map entries =
    behind (name_at naming.names.maps map) _ (anything _)
    (λ found u. behind (ensure (found == number)) _ (anything _) (λ u u'. entries_fit (face_words naming) entries))

-- THE LAW: the points of the setup that is read have entries, which have values and points in range.
pub points_are_fine : (tree : Tree) → faults symbol.Sheet tree ≡ [] → second_faults tree ≡ []
    → Means (setup_form_at (naming_of tree) (setup_in tree)) (λ s. AllByRecursion ArePoints s.points)
points_are_fine tree shaped sound =
    weaker _
    (setup_keeps (λ said seen. AllByRecursion ArePoints said.points) tree shaped sound (
      record {
        players = λ said earlier at create second last from to n line first is q. q;
        teams = λ said earlier at create second parts from to all line first is q. q;
        decks = λ said earlier at create second loc tree from to deck line is q. q;
        points = λ said earlier at put second map inner from to entries line is q.
            append_each ArePoints said.points (entries ∷ []) q
            (means_so _ entries (map_fits (naming_of tree) (length said.points) map inner) is, tt);
      },
      λ parts start. tt,
    ))
    (λ s is. subst (AllByRecursion ArePoints) is.points is.is)

-- and so do those of the sheet
pub points_have_entries : (tree : Tree) (sheet : Sheet) → faults symbol.Sheet tree ≡ [] → second_faults tree ≡ []
    → sheet_at (naming_of tree) tree ≡ Some sheet → All ArePoints sheet.points
points_have_entries tree sheet shaped sound is =
    by_setup (λ sheet. All ArePoints sheet.points) (naming_of tree) tree sheet is
    (weaker _ (points_are_fine tree shaped sound) (λ s are body. All-from_recursion ArePoints s.points are))

pub some_entry : (points : List (List Entry)) → All ArePoints points → All (λ entries. 1 ≤ length entries) points
some_entry points are = All-weaker ArePoints (λ entries. 1 ≤ length entries) (λ entries are. are.0) points are

pub are_entries : (points : List (List Entry)) → All ArePoints points → All (All IsEntry) points
are_entries points are = All-weaker ArePoints (All IsEntry) (λ entries are. All-from_recursion IsEntry entries are.1) points are
