-- Each point map stands once in the form of a sheet.
use Rattle.std.proofs.Common.{◌≡◌, ℕ, ◌+◌, ◌≤◌, Bool, true, false, List, [], ◌∷◌, ◌++◌, length, flat_map, zip, Some, slice_get, bytes_eq, refl, sym, subst, ap, ◌∙◌, arith}
use Rattle.std.specs.List.{AllByRecursion, AllZip, range_with_len, IsDistinct}
use Rattle.std.proofs.lemmas.Slice.Eq.{bytes_eq-Decides}
use Rattle.rc_base.specs.Tree.{Tree}
use Rattle.rc_base.specs.Deck.{Entry}
use Rattle.rc_sheet_spec.specs.Sheet.{Sheet}
use Rattle.rc_sheet_spec.specs.Naming.{Naming, sheet_naming}
use Rattle.rc_sheet_spec.specs.FormMentions.{points_map}
use Rattle.rc_sheet_spec.specs.StandsSetup.{StandsMap, lines_with}
use Rattle.rc_sheet_spec.specs.Stands.{Stands}
use Rattle.rc_check.specs.Faults.{faults}
use Rattle.rc_check.specs.declared.grammar.Symbol.TheVariants as symbol
use Rattle.rc_check.specs.SecondParts.{parts_of}
use Rattle.rc_check.specs.SecondNames.{maps_in}
use Rattle.rc_sheet.proofs.MapsInTurn.{points_alone}
use Rattle.rc_sheet.proofs.Mentioned.Setup.{points_only}
use Rattle.rc_sheet.proofs.One.Names.{Alone}
use Rattle.rc_sheet.proofs.Whole.{sheet_only, maps_give}

-- the word has a number from here on
abbrev HasNumber : Naming → ℕ → List ℕ → Type 0
HasNumber naming start word = (m : ℕ) × (start ≤ m) × (slice_get naming.names.maps m ≡ Some word)

-- words of later numbers are others than the word of this one
apart_from : (naming : Naming) → Alone naming.names.maps → (start : ℕ) (bytes : List ℕ) (words : List (List ℕ))
    → slice_get naming.names.maps start ≡ Some bytes → AllByRecursion (HasNumber naming (start + 1)) words
    → AllByRecursion (λ word. bytes_eq bytes word ≡ false) words
apart_from naming alone start bytes [] here each = tt
apart_from naming alone start bytes (word ∷ words) here each =
    (by (bytes_eq bytes word) refl, apart_from naming alone start bytes words here each.1)
  where
    by : (b : Bool) → bytes_eq bytes word ≡ b → b ≡ false
    by true same =
        let equal : bytes ≡ word = (bytes_eq-Decides bytes word).0 same in
        let number : start ≡ each.0.0 = alone start each.0.0 bytes here (each.0.2 ∙ ap Some (sym equal)) in
        let least = each.0.1 in absurd (omega (arith, number, least))
    by false other = refl

later_numbers : (naming : Naming) (start : ℕ) (words : List (List ℕ)) → AllByRecursion (HasNumber naming (start + 1)) words
    → AllByRecursion (HasNumber naming start) words
later_numbers naming start [] each = tt
later_numbers naming start (word ∷ words) each =
    let least = each.0.1 in
    ((each.0.0, omega (arith, least), each.0.2), later_numbers naming start words each.1)

maps_apart : (naming : Naming) → Alone naming.names.maps → (start : ℕ) (points : List (List Entry)) (lines : List Tree)
    → AllZip (StandsMap naming) (zip (range_with_len start (length points)) points) lines
    → IsDistinct bytes_eq (flat_map points_map lines) × AllByRecursion (HasNumber naming start) (flat_map points_map lines)
unfolding IsDistinct
maps_apart naming alone start [] [] pairs = (tt, tt)
maps_apart naming alone start [] (line ∷ lines) pairs = absurd pairs
maps_apart naming alone start (entries ∷ points) [] pairs = absurd pairs
maps_apart naming alone start (entries ∷ points) (line ∷ lines) pairs =
    let later = maps_apart naming alone (start + 1) points lines pairs.1 in
    points_only
    (λ line. IsDistinct bytes_eq (points_map line ++ flat_map points_map lines)
    × AllByRecursion (HasNumber naming start) (points_map line ++ flat_map points_map lines)) naming (start, entries) line pairs.0
    (λ put second bytes parts a b c d from to here stands. (
      (apart_from naming alone start bytes (flat_map points_map lines) here later.1, later.0),
      ((start, omega arith, here), later_numbers naming start (flat_map points_map lines) later.1),
    ))

pub maps_alone : (sheet : Sheet) (tree : Tree) → faults symbol.Sheet tree ≡ [] → Stands sheet tree → Alone sheet.names.maps
    → IsDistinct bytes_eq (flat_map maps_in (parts_of tree))
maps_alone sheet tree shaped stands alone =
    sheet_only (λ tree. Stands sheet tree → IsDistinct bytes_eq (flat_map maps_in (parts_of tree))) tree shaped
    (λ a b c d e f from to lines rest fits stands.
    subst (IsDistinct bytes_eq) (sym (maps_give a b c d e f from to lines rest fits ∙ points_alone lines))
    (maps_apart (sheet_naming sheet) alone 0 sheet.points (lines_with "put" "points" lines) stands.1.0.1.1.points).0)
    stands
