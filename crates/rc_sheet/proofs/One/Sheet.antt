-- A form of which a sheet can be read is the form of no other well formed sheet.
use Rattle.std.proofs.Common.{◌≡◌, ℕ, suc, ◌<◌, List, [], ◌∷◌, ◌++◌, inl, inr, length, get_or, map, flat_map, Option, Some, None, slice_get, bytes_eq, refl, sym, subst, ap, ap₂, ◌∙◌, arith, append_assoc}
use Rattle.std.specs.Prelude.{codes, slice_index_or}
use Rattle.std.specs.List.{IsDistinct}
use Rattle.std.proofs.lemmas.Option.{same_Some, slice_get-get_or, get_or_from_slice_get}
use Rattle.std.proofs.lemmas.List.{length-map}
use Rattle.std.proofs.lemmas.List.FromFn.{length-range_with_len}
use Rattle.rc_base.specs.Tree.{Tree, word, cons}
use Rattle.rc_sheet_spec.specs.Sheet.{Names, LocName, NumName, Sheet}
use Rattle.rc_sheet_spec.specs.Mentions.{Mention, attr_name, value_name, map_name, loc_name, num_name, var_name, in_setup, in_items, in_int, mentions, loc_of, num_of}
use Rattle.rc_base.specs.Numbers.{below}
use Rattle.rc_base.specs.Words.{different}
use Rattle.rc_sheet_spec.specs.Numbering.{IsNumbered}
use Rattle.rc_sheet_spec.specs.FormMentions.{names_of}
use Rattle.rc_sheet_spec.specs.Rows.{◌▸◌, End, AtLeast, Row, Atom}
use Rattle.rc_sheet_spec.specs.Rows.{Some as Full}
use Rattle.rc_sheet_spec.specs.Naming.{Naming, sheet_naming}
use Rattle.rc_sheet_spec.specs.StandsSetup.{StandsSetup}
use Rattle.rc_sheet_spec.specs.StandsItems.{StandItems}
use Rattle.rc_sheet_spec.specs.Stands.{StandsScoring, Stands}
use Rattle.rc_sheet_spec.specs.WellFormed.{IsWellFormed}
use Rattle.rc_check.specs.Faults.{count}
use Rattle.rc_resolve.specs.Naming.{naming_of}
use Rattle.rc_resolve.proofs.Whole.{loc_numbers, num_numbers}
use Rattle.rc_check.specs.SecondFaults.{sheet_fault}
use Rattle.rc_sheet.specs.ReadSetup.{setup_in}
use Rattle.rc_sheet.specs.ReadItems.{body_at}
use Rattle.rc_sheet.specs.ReadSheet.{setup_form_at, game_parts, game_rule, sheet_at, sheet_with}
use Rattle.rc_sheet.proofs.Accepted.{is_read}
use Rattle.rc_sheet.proofs.Means.{means_so}
use Rattle.rc_sheet.proofs.Mentioned.Common.{attrs, values, maps, locs, nums, vars}
use Rattle.rc_sheet.proofs.Mentioned.Sheet.{sheet_said}
use Rattle.rc_sheet.proofs.FewNames.{different_differ}
use Rattle.rc_sheet.proofs.Found.Names.{different_within, get_among}
use Rattle.rc_sheet.proofs.Among.{Among}
use Rattle.rc_sheet.proofs.One.Rows.{row_part}
use Rattle.rc_sheet.proofs.One.Names.{Alone, distinct_alone, Differ, described, classed, along, Agrees, Agree, Only, only_then, only_made, only_sized}
use Rattle.rc_sheet.proofs.One.Items.{one_body}
use Rattle.rc_sheet.proofs.One.Setup.{one_setup}
use Rattle.rc_check.specs.declared.grammar.Rule.TheVariants as rule

-- NAMES

alone_of : (words mentions : List (List ℕ)) → words ≡ different mentions → Alone words
alone_of words mentions is = distinct_alone words (subst (IsDistinct bytes_eq) (sym is) (different_differ [] mentions))

pub differ_of : (sheet : Sheet) → IsNumbered sheet → Differ sheet.names
differ_of sheet is =
    record {
      attrs = alone_of sheet.names.attrs _ is.attrs;
      values = alone_of sheet.names.values _ is.values;
      maps = alone_of sheet.names.maps _ is.maps;
      locs = alone_of sheet.names.locs _ is.locs;
      nums = alone_of sheet.names.nums _ is.nums;
      vars = alone_of sheet.names.vars _ is.vars;
    }

-- the names of a sheet that stands for a form are those of the form
pub names_are : (sheet : Sheet) (tree : Tree) → Stands sheet tree → IsNumbered sheet → sheet.names ≡ names_of tree
names_are sheet tree stands is =
    let a = is.attrs ∙ ap different (sheet_said attrs sheet tree stands) in
    let v = is.values ∙ ap different (sheet_said values sheet tree stands) in
    let m = is.maps ∙ ap different (sheet_said maps sheet tree stands) in
    let l = is.locs ∙ ap different (sheet_said locs sheet tree stands) in
    let n = is.nums ∙ ap different (sheet_said nums sheet tree stands) in
    let b = is.vars ∙ ap different (sheet_said vars sheet tree stands) in
    λ i. record { attrs = a i; values = v i; maps = m i; locs = l i; nums = n i; vars = b i }

-- WHAT IS READ

module _ (sheet : Sheet) (told : Naming) where
  -- the sheet, with that naming's tables
  abbrev with_tables : Sheet
  with_tables = sheet_with (along sheet told) (setup_in sheet) (sheet.items, (sheet.best, sheet.score))

  one_read : (tree : Tree) → Stands sheet tree → IsWellFormed sheet
      → Only sheet told with_tables (in_setup sheet ++ (in_items sheet.items ++ in_int sheet.score))
      (sheet_at (along sheet told) tree)
  unfolding sheet_at game_parts
  one_read tree stands well =
      let differ = differ_of sheet well.numbered in
      row_part "game" (Row (Atom "setup" ▸ Full (StandsSetup (sheet_naming sheet) sheet)))
      (AtLeast 2 (StandItems (sheet_naming sheet) sheet.items (StandsScoring sheet ▸ End)))
      (λ tree. Only sheet told with_tables (in_setup sheet ++ (in_items sheet.items ++ in_int sheet.score))
      (sheet_at (along sheet told) tree)) tree stands
      (λ f t from to setup parts here there. only_sized sheet told (count (cons (word (codes "game") f t) (cons setup parts)))
      rule.Game (λ rule. game_rule (along sheet told) rule (cons (word (codes "game") f t) (cons setup parts))) with_tables
      (in_setup sheet ++ (in_items sheet.items ++ in_int sheet.score))
      (only_then sheet told _ (setup_in sheet) with_tables (in_setup sheet) (in_items sheet.items ++ in_int sheet.score)
      (setup_form_at (along sheet told) setup) (one_setup sheet told differ setup here)
      (only_made sheet told (λ body. Some (sheet_with (along sheet told) (setup_in sheet) body))
      (sheet.items, (sheet.best, sheet.score)) with_tables (in_items sheet.items ++ in_int sheet.score)
      (body_at (along sheet told) parts) refl
      (one_body sheet told differ parts there well.items well.score well.numbered.stages well.numbered.sites))))

  -- a location that is mentioned, and a stored number
  loc_agrees : (ms : List Mention) (n : ℕ) → Agree sheet told ms → Among n (flat_map loc_of ms) → Agrees sheet told (loc_name n)
  loc_agrees [] n all is = absurd is
  loc_agrees (loc_name m ∷ ms) n all (inl is) = subst (λ m. Agrees sheet told (loc_name m)) (sym is) all.0
  loc_agrees (loc_name m ∷ ms) n all (inr is) = loc_agrees ms n all.1 is
  loc_agrees (attr_name m ∷ ms) n all is = loc_agrees ms n all.1 is
  loc_agrees (value_name m ∷ ms) n all is = loc_agrees ms n all.1 is
  loc_agrees (map_name m ∷ ms) n all is = loc_agrees ms n all.1 is
  loc_agrees (num_name m ∷ ms) n all is = loc_agrees ms n all.1 is
  loc_agrees (var_name m ∷ ms) n all is = loc_agrees ms n all.1 is

  num_agrees : (ms : List Mention) (n : ℕ) → Agree sheet told ms → Among n (flat_map num_of ms) → Agrees sheet told (num_name n)
  num_agrees [] n all is = absurd is
  num_agrees (num_name m ∷ ms) n all (inl is) = subst (λ m. Agrees sheet told (num_name m)) (sym is) all.0
  num_agrees (num_name m ∷ ms) n all (inr is) = num_agrees ms n all.1 is
  num_agrees (attr_name m ∷ ms) n all is = num_agrees ms n all.1 is
  num_agrees (value_name m ∷ ms) n all is = num_agrees ms n all.1 is
  num_agrees (map_name m ∷ ms) n all is = num_agrees ms n all.1 is
  num_agrees (loc_name m ∷ ms) n all is = num_agrees ms n all.1 is
  num_agrees (var_name m ∷ ms) n all is = num_agrees ms n all.1 is

-- each name is mentioned
from_map : (f : ℕ → List ℕ) (ns : List ℕ) (w : List ℕ) → Among w (map f ns) → (n : ℕ) × Among n ns × (w ≡ f n)
from_map f [] w is = absurd is
from_map f (n ∷ ns) w (inl is) = (n, inl refl, is)
from_map f (n ∷ ns) w (inr is) = let found = from_map f ns w is in (found.0, inr found.1, found.2)

each_mentioned : (words : List (List ℕ)) (ns : List ℕ) (n : ℕ) → words ≡ different (map (λ m. slice_index_or words m []) ns)
    → n < length words → (m : ℕ) × Among m ns × (slice_get words n ≡ Some (slice_index_or words m []))
each_mentioned words ns n is within =
    let there : slice_get words n ≡ Some (get_or words n []) = slice_get-get_or words n [] within in
    let among : Among (get_or words n []) words = get_among words n (get_or words n []) there in
    let found = from_map (λ m. slice_index_or words m []) ns (get_or words n [])
    (different_within [] (map (λ m. slice_index_or words m []) ns) (get_or words n [])
    (subst (Among (get_or words n [])) is among)) in
    (found.0, found.1, there ∙ ap Some found.2)

-- the number of a name that stands alone
number_is : (words : List (List ℕ)) (m n : ℕ) (bytes : List ℕ) → Alone words → slice_get words m ≡ Some bytes
    → slice_get words n ≡ Some (slice_index_or words m []) → m ≡ n
number_is words m n bytes alone here there =
    alone m n bytes here (there ∙ ap Some (get_or_from_slice_get words m bytes [] here))

-- TABLES

locs_same : (xs ys : List LocName) → map (λ loc. loc.name) xs ≡ map (λ loc. loc.name) ys
    → ((n : ℕ) → n < length xs → described (slice_get xs n) ≡ described (slice_get ys n)) → xs ≡ ys
locs_same [] [] names each = refl
locs_same [] (y ∷ ys) names each = absurd cc
locs_same (x ∷ xs) [] names each = absurd cc
locs_same (x ∷ xs) (y ∷ ys) names each =
    let name : x.name ≡ y.name = cc in
    let later : map (λ (loc : LocName). loc.name) xs ≡ map (λ (loc : LocName). loc.name) ys = cc in
    let here = same_Some (x.kind, x.class) (y.kind, y.class) (each 0 (omega arith)) in
    let first : x ≡ y = λ i. record { name = name i; kind = (here i).0; class = (here i).1 } in
    ap₂ ◌∷◌ first (locs_same xs ys later (λ n within. each (suc n) (omega (arith, within))))

nums_same : (xs ys : List NumName) → map (λ num. num.name) xs ≡ map (λ num. num.name) ys
    → ((n : ℕ) → n < length xs → classed (slice_get xs n) ≡ classed (slice_get ys n)) → xs ≡ ys
nums_same [] [] names each = refl
nums_same [] (y ∷ ys) names each = absurd cc
nums_same (x ∷ xs) [] names each = absurd cc
nums_same (x ∷ xs) (y ∷ ys) names each =
    let name : x.name ≡ y.name = cc in
    let later : map (λ (num : NumName). num.name) xs ≡ map (λ (num : NumName). num.name) ys = cc in
    let here : x.class ≡ y.class = same_Some x.class y.class (each 0 (omega arith)) in
    let first : x ≡ y = λ i. record { name = name i; class = here i } in
    ap₂ ◌∷◌ first (nums_same xs ys later (λ n within. each (suc n) (omega (arith, within))))

-- as many as are numbered
within_names : {A : Type 0} (f : A → ℕ) (xs : List A) (k n : ℕ) → map f xs ≡ below k → n < length xs → n < k
within_names f xs k n is within =
    let a = length-map xs f in
    let b = ap length is in
    let c = length-range_with_len 0 k in omega (arith, a, b, c, within)

-- the tables of two numberings with the same names that agree at what is mentioned
tables_same : (sheet : Sheet) (told : Naming) → IsNumbered sheet → told.names ≡ sheet.names
    → map (λ loc. loc.name) told.locs ≡ below (length told.names.locs)
    → map (λ num. num.name) told.nums ≡ below (length told.names.nums) → Agree sheet told (mentions sheet)
    → (sheet.locs ≡ told.locs) × (sheet.nums ≡ told.nums)
tables_same sheet told numbered names counted counted' agree =
    let differ = differ_of sheet numbered in (
      locs_same sheet.locs told.locs
          (numbered.loc_numbers ∙ ap (λ (names : Names). below (length names.locs)) (sym names) ∙ sym counted)
          (λ n within.
          let found = each_mentioned sheet.names.locs (flat_map loc_of (mentions sheet)) n numbered.locs
          (within_names (λ (loc : LocName). loc.name) sheet.locs (length sheet.names.locs) n numbered.loc_numbers within) in
          let known = loc_agrees sheet told (mentions sheet) found.0 agree found.1 in
          subst (λ n. described (slice_get sheet.locs n) ≡ described (slice_get told.locs n))
          (number_is sheet.names.locs found.0 n known.0 differ.locs known.1 found.2) known.2),
      nums_same sheet.nums told.nums
          (numbered.num_numbers ∙ ap (λ (names : Names). below (length names.nums)) (sym names) ∙ sym counted')
          (λ n within.
          let found = each_mentioned sheet.names.nums (flat_map num_of (mentions sheet)) n numbered.nums
          (within_names (λ (num : NumName). num.name) sheet.nums (length sheet.names.nums) n numbered.num_numbers within) in
          let known = num_agrees sheet told (mentions sheet) found.0 agree found.1 in
          subst (λ n. classed (slice_get sheet.nums n) ≡ classed (slice_get told.nums n))
          (number_is sheet.names.nums found.0 n known.0 differ.nums known.1 found.2) known.2),
    )

-- THE SHEET OF A FORM

pub one_sheet : (tree : Tree) (read other : Sheet) → sheet_at (naming_of tree) tree ≡ Some read → Stands other tree
    → IsWellFormed other → other ≡ read
one_sheet tree read other is stands well =
    let told : Naming = naming_of tree in
    let names : other.names ≡ told.names = names_are other tree stands well.numbered in
    let same : along other told ≡ told = λ i. record { names = names i; locs = told.locs; nums = told.nums } in
    let is' : sheet_at (along other told) tree ≡ Some read = ap (λ n. sheet_at n tree) same ∙ is in
    let found = means_so (sheet_at (along other told) tree) read (one_read other told tree stands well) is' in
    let agree : Agree other told (mentions other) =
    subst (Agree other told) (sym (append_assoc (in_setup other) (in_items other.items) (in_int other.score))) found.1 in
    let tables = tables_same other told well.numbered (sym names) (loc_numbers tree) (num_numbers tree) agree in
    let made : other ≡ with_tables other told =
    λ i. record {
      players = other.players;
      teams = other.teams;
      names = other.names;
      decks = other.decks;
      points = other.points;
      locs = tables.0 i;
      nums = tables.1 i;
      items = other.items;
      best = other.best;
      score = other.score;
    } in
    made ∙ sym found.0

-- a form without a fault has one well formed sheet
pub one_well_formed : (tree : Tree) (sheet other : Sheet) → sheet_fault tree ≡ None → Stands sheet tree → IsWellFormed sheet
    → Stands other tree → IsWellFormed other → other ≡ sheet
one_well_formed tree sheet other faultless stands well stands' well' = by (sheet_at (naming_of tree) tree) refl
  where
    by : (found : Option Sheet) → sheet_at (naming_of tree) tree ≡ found → other ≡ sheet
    by None none = absurd (is_read tree faultless none)
    by (Some read) is = one_sheet tree read other is stands' well' ∙ sym (one_sheet tree read sheet is stands well)
