-- The form of a sheet has as many locations and stored numbers of all owners as the sheet.
use Rattle.std.proofs.Common.{◌≡◌, ℕ, suc, ◌+◌, Bool, true, false, cond, List, [], ◌∷◌, length, map, flat_map, Option, Some, None, slice_get, option_map, refl, sym, subst, ap, ap₂, ◌∙◌, arith}
use Rattle.std.specs.Prelude.{sum_by}
use Rattle.std.specs.List.{AllByRecursion}
use Rattle.std.proofs.lemmas.List.{length-map}
use Rattle.std.proofs.lemmas.List.Sums.{sum_by-cons}
use Rattle.std.proofs.lemmas.Option.{same_Some, slice_get-map}
use Rattle.std.proofs.lemmas.List.FromFn.{length-range_with_len}
use Rattle.rc_base.specs.Tree.{Tree}
use Rattle.rc_sheet_spec.specs.Sheet.{Class, LocName, NumName, Sheet}
use Rattle.rc_sheet_spec.specs.Naming.{loc_class, num_class, sheet_naming}
use Rattle.rc_base.specs.Words.{different}
use Rattle.rc_sheet_spec.specs.Numbering.{IsNumbered}
use Rattle.rc_sheet_spec.specs.Stands.{Stands}
use Rattle.rc_sheet_spec.specs.WellFormed.{owner_count}
use Rattle.rc_check.specs.Faults.{faults}
use Rattle.rc_check.specs.declared.grammar.Symbol.TheVariants as symbol
use Rattle.rc_resolve.specs.Mentions.{all_locations, all_numbers}
use Rattle.rc_sheet_spec.specs.WellFormed.{owner_count_by}
use Rattle.rc_check.specs.SecondParts.{Part, parts_of}
use Rattle.rc_check.specs.SecondNames.{is_named, locations_in, numbers_of, firsts_from, owned, OwnedMention}
use Rattle.rc_sheet.proofs.Found.Names.{name_of, names_different, loc_names_are, num_names_are}
use Rattle.rc_sheet.proofs.One.Names.{Differ, all_at}
use Rattle.rc_sheet.proofs.One.Sheet.{names_are}
use Rattle.rc_sheet.proofs.OwnedNames.{locations_are}
use Rattle.rc_sheet.proofs.Whole.{gives_mentions}
use Rattle.rc_sheet.proofs.Sound.Parts.{IsLocSaid, IsNumSaid, AllSound}
use Rattle.rc_sheet.proofs.Sound.Whole.{locs_said, nums_said}

-- what holds of mentions holds of the first ones
of_firsts : (P : OwnedMention → Type 0) (seen : List (List ℕ)) (ms : List OwnedMention) → AllByRecursion P ms
    → AllByRecursion P (firsts_from seen ms)
of_firsts P seen [] all = tt
of_firsts P seen (m ∷ ms) all =
    by (is_named m.name seen) (of_firsts P seen ms all.1) (of_firsts P (m.name ∷ seen) ms all.1)
  where
    by : (old : Bool) → AllByRecursion P (firsts_from seen ms) → AllByRecursion P (firsts_from (m.name ∷ seen) ms)
        → AllByRecursion P (cond old (firsts_from seen ms) (m ∷ firsts_from (m.name ∷ seen) ms))
    by true kept new = kept
    by false kept new = (all.0, new)

-- sums of two lists whose items count the same, place by place
same_sum : {A B : Type 0} (f : A → ℕ) (g : B → ℕ) (xs : List A) (ys : List B) → length xs ≡ length ys
    → ((i : ℕ) (a : A) → slice_get xs i ≡ Some a → (b : B) × (slice_get ys i ≡ Some b) × (f a ≡ g b)) → sum_by f xs ≡ sum_by g ys
same_sum f g [] [] same each = refl
same_sum f g [] (y ∷ ys) same each = absurd cc
same_sum f g (x ∷ xs) [] same each = absurd cc
same_sum f g (x ∷ xs) (y ∷ ys) same each =
    let first = each 0 x refl in
    let here : f x ≡ g y = first.2 ∙ ap g (sym (same_Some y first.0 first.1)) in
    sum_by-cons f x xs
    ∙ ap₂ (λ m n. m + n) here (same_sum f g xs ys (omega (arith, same)) (λ i a is. each (suc i) a is))
    ∙ sym (sum_by-cons g y ys)

-- the class of a name that is known
known_class : {A : Type 0} (class : A → Class) (found : Option A) (c : Class) (count count' : Class → ℕ)
    → ((c : Class) → count c ≡ count' c) → option_map class found ≡ Some c
    → (b : A) × (found ≡ Some b) × (count c ≡ count' (class b))
known_class class None c count count' same is = absurd cc
known_class class (Some b) c count count' same is =
    (b, refl, same c ∙ ap count' (sym (same_Some (class b) c is)))

module _ (sheet : Sheet) (all : List Part) (differ : Differ sheet.names) (numbered : IsNumbered sheet) (players teams : ℕ)
    (owners : (class : Class) → owner_count_by players teams class ≡ owner_count sheet class)
    (sound : AllSound sheet all all)
  where
    pub locs_owned : map name_of (firsts_from [] (flat_map locations_in all)) ≡ sheet.names.locs
        → owned players teams (flat_map locations_in all) ≡ sum_by (λ loc. owner_count sheet loc.class) sheet.locs
    locs_owned names =
        let ms = firsts_from [] (flat_map locations_in all) in
        let said = of_firsts (IsLocSaid sheet all) [] (flat_map locations_in all) (locs_said sheet all differ all sound) in
        let a = length-map ms name_of in
        let b = ap length names in
        let c = length-map sheet.locs (λ (loc : LocName). loc.name) in
        let d = ap length numbered.loc_numbers in
        let e = length-range_with_len 0 (length sheet.names.locs) in
        same_sum (λ (m : OwnedMention). owner_count_by players teams m.class) (λ (loc : LocName). owner_count sheet loc.class) ms
        sheet.locs
        (omega (arith, a, b, c, d, e))
        (λ i m is.
        let known = all_at (IsLocSaid sheet all) ms i m said is in
        let here : slice_get sheet.names.locs i ≡ Some m.name =
        subst (λ l. slice_get l i ≡ Some m.name) names (slice_get-map name_of ms i ∙ ap (option_map name_of) is) in
        let same : known.number ≡ i = differ.locs known.number i m.name known.named here in
        known_class (λ (loc : LocName). loc.class) (slice_get sheet.locs i) m.class (owner_count_by players teams)
        (owner_count sheet)
        owners (ap (λ n. loc_class (sheet_naming sheet) n) (sym same) ∙ known.same_class))

    pub nums_owned : map name_of (firsts_from [] (flat_map numbers_of all)) ≡ sheet.names.nums
        → owned players teams (flat_map numbers_of all) ≡ sum_by (λ num. owner_count sheet num.class) sheet.nums
    nums_owned names =
        let ms = firsts_from [] (flat_map numbers_of all) in
        let said = of_firsts (IsNumSaid sheet all) [] (flat_map numbers_of all) (nums_said sheet all differ all sound) in
        let a = length-map ms name_of in
        let b = ap length names in
        let c = length-map sheet.nums (λ (num : NumName). num.name) in
        let d = ap length numbered.num_numbers in
        let e = length-range_with_len 0 (length sheet.names.nums) in
        same_sum (λ (m : OwnedMention). owner_count_by players teams m.class) (λ (num : NumName). owner_count sheet num.class) ms
        sheet.nums
        (omega (arith, a, b, c, d, e))
        (λ i m is.
        let known = all_at (IsNumSaid sheet all) ms i m said is in
        let here : slice_get sheet.names.nums i ≡ Some m.name =
        subst (λ l. slice_get l i ≡ Some m.name) names (slice_get-map name_of ms i ∙ ap (option_map name_of) is) in
        let same : known.number ≡ i = differ.nums known.number i m.name known.named here in
        known_class (λ (num : NumName). num.class) (slice_get sheet.nums i) m.class (owner_count_by players teams)
        (owner_count sheet)
        owners (ap (λ n. num_class (sheet_naming sheet) n) (sym same) ∙ known.same_class))

-- the first mentions have the names of the sheet
pub locs_first : (sheet : Sheet) (tree : Tree) → faults symbol.Sheet tree ≡ [] → Stands sheet tree → IsNumbered sheet
    → map name_of (firsts_from [] (flat_map locations_in (parts_of tree))) ≡ sheet.names.locs
locs_first sheet tree shaped stands numbered =
    ap (λ l. map name_of (firsts_from [] l)) (locations_are tree shaped)
    ∙ sym (names_different [] (all_locations tree))
    ∙ ap different (sym (loc_names_are tree))
    ∙ ap (λ n. n.locs) (sym (names_are sheet tree stands numbered))

pub nums_first : (sheet : Sheet) (tree : Tree) → faults symbol.Sheet tree ≡ [] → Stands sheet tree → IsNumbered sheet
    → map name_of (firsts_from [] (flat_map numbers_of (parts_of tree))) ≡ sheet.names.nums
nums_first sheet tree shaped stands numbered =
    ap (λ l. map name_of (firsts_from [] l)) (gives_mentions tree shaped).numbers
    ∙ sym (names_different [] (all_numbers tree))
    ∙ ap different (sym (num_names_are tree))
    ∙ ap (λ n. n.nums) (sym (names_are sheet tree stands numbered))
