-- A form whose parts have no fault by themselves has none at all, where what its parts say together keeps the limits and
-- nothing stands twice.
use Rattle.std.proofs.Common.{◌≡◌, ℕ, suc, ◌<◌, ◌≤◌, Bool, true, false, not, ◌&&◌, ◌||◌, cond, nat_le, nat_lt, List, [], ◌∷◌, ◌++◌, length, flat_map, Some, slice_get, option_map, bytes_eq, nat_eq, refl, sym, subst, ap, ap₂, ◌∙◌, arith, append_assoc, eq-eqb, eqb-true}
use Rattle.std.specs.Prelude.{sum, sum_by}
use Rattle.std.specs.List.{list_any, AllByRecursion, IsDistinct}
use Rattle.std.proofs.lemmas.Option.{same_Some}
use Rattle.std.proofs.lemmas.Bool.{or_parts, lt-leb, and_right, or_from}
use Rattle.std.proofs.lemmas.List.Sums.{sum_by-append}
use Rattle.std.proofs.lemmas.List.{length-append}
use Rattle.std.proofs.lemmas.Grind.{flat_map-append}
use Rattle.std.proofs.lemmas.Slice.Eq.{bytes_eq-Decides}
use Rattle.rc_sheet_spec.specs.Sheet.{Sheet}
use Rattle.rc_sheet_spec.specs.Naming.{loc_class, num_class, sheet_naming}
use Rattle.rc_sheet_spec.specs.Naming.{kind_word as kind_bytes}
use Rattle.rc_base.specs.Limits.{most_cards, most_locations, most_numbers, most_attrs, most_values, most_maps, most_stages, most_sites}
use Rattle.rc_deck.proofs.EachLemmas.{parts_of_append}
use Rattle.rc_sheet_spec.specs.WellFormed.{is_among}
use Rattle.rc_check.specs.declared.grammar.Symbol.{Symbol}
use Rattle.rc_check.specs.declared.grammar.Symbol.TheVariants as symbol
use Rattle.rc_check.specs.declared.grammar.Rule.TheVariants as rule
use Rattle.rc_check.specs.declared.fault.SheetKind.{SheetKind}
use Rattle.rc_check.specs.declared.fault.SheetKind.TheVariants.{Twice, Unknown, WrongKind, TooMany, NoCards}
use Rattle.rc_sheet_spec.specs.Sheet.{same_class}
use Rattle.rc_sheet_spec.specs.WellFormed.{owner_count_by}
use Rattle.rc_check.specs.declared.role.Role.{Role}
use Rattle.rc_check.specs.declared.role.Role.TheVariants.{GivenValue as given_value}
use Rattle.rc_check.specs.SecondParts.{Standing, Part, atom, form, word_in}
use Rattle.rc_check.specs.SecondNames.{some_of, is_named, number_by, players_in, player_count, teams_in, team_count, member_by, members_in, cards_in, attributes_in, values_in, maps_in, mention_of, first_mention, firsts_from, owned, locations_in, numbers_of, stages_in, choices_in, different_count, OwnedMention}
use Rattle.rc_check.specs.SecondFaults.{is_player_again, is_no_player, is_unbound, is_unnamed, is_other_side, differs_from, is_other_mention, is_misplaced, is_twice, is_unknown, is_wrong_kind, passes, card_count, attribute_count, value_count, map_count, stage_count, choice_count, location_count, number_count, atom_counts, is_too_deep, is_too_many, lacks_cards, fault_where, faults_of, faults_behind}
use Rattle.rc_sheet.proofs.Among.{Among, among_left}
use Rattle.rc_sheet.proofs.ReadOff.Names.{class_same}
use Rattle.rc_sheet.proofs.Faultless.{IsFaultless}
use Rattle.rc_sheet.proofs.FewNames.{no_more_different}
use Rattle.rc_sheet.proofs.Fine.Names.{same_either_way}
use Rattle.rc_sheet.proofs.One.Names.{Differ}
use Rattle.rc_sheet.proofs.Sound.Parts.{IsLocSaid, IsNumSaid, IsSound, AllSound}

-- NO FAULT

-- a list of two empty ones
nothing_more : {A : Type 0} (xs ys : List A) → xs ≡ [] → ys ≡ [] → xs ++ ys ≡ []
nothing_more xs ys none none' = ap₂ ◌++◌ none none'

no_fault_where : (b : Bool) (kind : SheetKind) (part : Part) → b ≡ false → fault_where b kind part ≡ []
no_fault_where b kind part none = ap (λ b. fault_where b kind part) none

no_faults_of : (all earlier : List Part) (part : Part) → IsFaultless all earlier part → faults_of all earlier part ≡ []
no_faults_of all earlier part none =
    nothing_more _ _ (nothing_more _ _ (nothing_more _ _ (nothing_more _ _
    (no_fault_where (is_twice earlier part) Twice part none.once)
    (no_fault_where (is_unknown all earlier part) Unknown part none.known))
    (no_fault_where (is_wrong_kind earlier part) WrongKind part none.kind_fits))
    (no_fault_where (is_too_many all earlier part) TooMany part none.few))
    (no_fault_where (lacks_cards all part) NoCards part none.cards)

-- where each part is faultless behind those before it
no_faults_behind : (all earlier parts : List Part)
    → ((before later : List Part) (part : Part) → earlier ++ parts ≡ before ++ (part ∷ later) → IsFaultless all before part)
    → faults_behind all earlier parts ≡ []
no_faults_behind all earlier [] each = refl
no_faults_behind all earlier (part ∷ parts) each =
    nothing_more _ _ (no_faults_of all earlier part (each earlier parts part refl))
    (no_faults_behind all (earlier ++ part ∷ []) parts
    (λ before later part' is. each before later part' (sym (append_assoc earlier (part ∷ []) parts) ∙ is)))

-- MENTIONS

module _ (sheet : Sheet) (all : List Part) (differ : Differ sheet.names) where
  -- two mentions of one location say the same
  same_loc : (one other : OwnedMention) → IsLocSaid sheet all one → IsLocSaid sheet all other → one.name ≡ other.name
      → (one.kind ≡ other.kind) × (one.class ≡ other.class)
  same_loc one other said said' same =
      let number : said.number ≡ said'.number =
      differ.locs said.number said'.number one.name said.named (said'.named ∙ ap Some (sym same)) in (
        same_Some one.kind other.kind (sym said.same_kind
            ∙ ap (λ n. option_map (λ loc. kind_bytes loc.kind) (slice_get sheet.locs n)) number ∙ said'.same_kind),
        same_Some one.class other.class (sym said.same_class ∙ ap (loc_class (sheet_naming sheet)) number ∙ said'.same_class),
      )

  same_num : (one other : OwnedMention) → IsNumSaid sheet all one → IsNumSaid sheet all other → one.name ≡ other.name
      → (one.kind ≡ other.kind) × (one.class ≡ other.class)
  same_num one other said said' same =
      let number : said.number ≡ said'.number =
      differ.nums said.number said'.number one.name said.named (said'.named ∙ ap Some (sym same)) in (
        said.stored ∙ sym said'.stored,
        same_Some one.class other.class (sym said.same_class ∙ ap (num_class (sheet_naming sheet)) number ∙ said'.same_class),
      )

  -- so none is another than the first of its name
  no_other : (P : OwnedMention → Type 0)
      → ((one other : OwnedMention) → P one → P other → one.name ≡ other.name
      → (one.kind ≡ other.kind) × (one.class ≡ other.class))
      → (mention : OwnedMention) (earlier : List OwnedMention) → P mention → AllByRecursion P earlier
      → is_other_mention earlier mention ≡ false
  no_other P agree mention [] said all_said = refl
  no_other P agree mention (first ∷ earlier) said all_said =
      by (bytes_eq mention.name first.name) refl (no_other P agree mention earlier said all_said.1)
    where
      by : (b : Bool) → bytes_eq mention.name first.name ≡ b → is_other_mention earlier mention ≡ false
          → differs_from mention (cond b (Some first) (first_mention mention.name earlier)) ≡ false
      by true same later =
          let both = agree mention first said all_said.0 ((bytes_eq-Decides mention.name first.name).0 same) in
          ap not (ap₂ (λ k c. bytes_eq mention.kind k && same_class mention.class c) (sym both.0) (sym both.1)
          ∙ ap₂ ◌&&◌ ((bytes_eq-Decides mention.kind mention.kind).1 refl) (class_same mention.class))
      by false other later = later

  -- the mentions of sound parts
  pub locs_said : (parts : List Part) → AllSound sheet all parts
      → AllByRecursion (IsLocSaid sheet all) (flat_map locations_in parts)
  locs_said [] sound = tt
  locs_said (atom at bytes from ∷ parts) sound = locs_said parts sound.1
  locs_said (form at rule.Location trees from ∷ parts) sound = (sound.0.said, locs_said parts sound.1)
  locs_said (form at r trees from ∷ parts) sound = locs_said parts sound.1

  pub nums_said : (parts : List Part) → AllSound sheet all parts
      → AllByRecursion (IsNumSaid sheet all) (flat_map numbers_of parts)
  nums_said [] sound = tt
  nums_said (atom at bytes from ∷ parts) sound = nums_said parts sound.1
  nums_said (form at rule.Counter trees from ∷ parts) sound = (sound.0.said, nums_said parts sound.1)
  nums_said (form at r trees from ∷ parts) sound = nums_said parts sound.1

-- LIMITS

-- a count that never falls doesn't pass a limit that it keeps at the end
not_passed : (most : ℕ) (count : List Part → ℕ) (earlier : List Part) (part : Part)
    → count (earlier ++ part ∷ []) ≤ most → passes most count earlier part ≡ false
not_passed most count earlier part le =
    and_right (nat_le (count earlier) most) (nat_lt most (count (earlier ++ part ∷ [])))
    (lt-leb (suc most) (count (earlier ++ part ∷ [])) (omega (arith, le)))

-- what parts and others behind them give
given_of_both : {X : Type 0} (f : Part → List X) (earlier : List Part) (part : Part) (later : List Part)
    → flat_map f (earlier ++ (part ∷ later)) ≡ flat_map f (earlier ++ part ∷ []) ++ flat_map f later
given_of_both f earlier part later =
    ap (flat_map f) (sym (append_assoc earlier (part ∷ []) later)) ∙ flat_map-append f (earlier ++ part ∷ []) later

fewer_different : (f : Part → List (List ℕ)) (most : ℕ) (earlier : List Part) (part : Part) (later : List Part)
    → different_count (flat_map f (earlier ++ (part ∷ later))) ≤ most
    → different_count (flat_map f (earlier ++ part ∷ [])) ≤ most
fewer_different f most earlier part later le =
    let less = no_more_different (flat_map f (earlier ++ part ∷ [])) (flat_map f (earlier ++ (part ∷ later)))
    (λ x is. subst (λ l. Among x l) (sym (given_of_both f earlier part later))
    (among_left x (flat_map f (earlier ++ part ∷ [])) (flat_map f later) is)) in
    omega (arith, le, less)

fewer_items : {X : Type 0} (f : Part → List X) (most : ℕ) (earlier : List Part) (part : Part) (later : List Part)
    → length (flat_map f (earlier ++ (part ∷ later))) ≤ most → length (flat_map f (earlier ++ part ∷ [])) ≤ most
fewer_items f most earlier part later le =
    let same = ap length (given_of_both f earlier part later) in
    let both = length-append (flat_map f (earlier ++ part ∷ [])) (flat_map f later) in
    omega (arith, le, same, both)

fewer_cards : (most : ℕ) (earlier : List Part) (part : Part) (later : List Part)
    → card_count (earlier ++ (part ∷ later)) ≤ most → card_count (earlier ++ part ∷ []) ≤ most
fewer_cards most earlier part later le =
    let same = ap sum (given_of_both cards_in earlier part later) in
    let both = sum_by-append (λ n. n) (flat_map cards_in (earlier ++ part ∷ [])) (flat_map cards_in later) in
    omega (arith, le, same, both)

-- the first mentions of more mentions are the first ones, and others
first_ones : (seen : List (List ℕ)) (xs ys : List OwnedMention)
    → (more : List OwnedMention) × (firsts_from seen (xs ++ ys) ≡ firsts_from seen xs ++ more)
first_ones seen [] ys = (firsts_from seen ys, refl)
first_ones seen (x ∷ xs) ys =
    by (is_named x.name seen) (first_ones seen xs ys) (first_ones (x.name ∷ seen) xs ys)
  where
    by : (old : Bool) → (more : List OwnedMention) × (firsts_from seen (xs ++ ys) ≡ firsts_from seen xs ++ more)
        → (more : List OwnedMention) × (firsts_from (x.name ∷ seen) (xs ++ ys) ≡ firsts_from (x.name ∷ seen) xs ++ more)
        → (more : List OwnedMention)
        × (cond old (firsts_from seen (xs ++ ys)) (x ∷ firsts_from (x.name ∷ seen) (xs ++ ys))
        ≡ cond old (firsts_from seen xs) (x ∷ firsts_from (x.name ∷ seen) xs) ++ more)
    by true kept new = kept
    by false kept new = (new.0, ap (λ l. x ∷ l) new.1)

fewer_owned : (players teams most : ℕ) (f : Part → List OwnedMention) (earlier : List Part) (part : Part) (later : List Part)
    → owned players teams (flat_map f (earlier ++ (part ∷ later))) ≤ most
    → owned players teams (flat_map f (earlier ++ part ∷ [])) ≤ most
fewer_owned players teams most f earlier part later le =
    let same = ap (owned players teams) (given_of_both f earlier part later) in
    let more = first_ones [] (flat_map f (earlier ++ part ∷ [])) (flat_map f later) in
    let split = ap (λ l. sum_by (λ mention. owner_count_by players teams mention.class) l) more.1 in
    let both = sum_by-append (λ mention. owner_count_by players teams mention.class)
    (firsts_from [] (flat_map f (earlier ++ part ∷ []))) more.0 in
    omega (arith, le, same, split, both)

-- WHAT STANDS ONCE

-- what holds of all items holds of one behind others
of_one : {A : Type 0} (P : A → Type 0) (xs : List A) (w : A) (ys : List A) → AllByRecursion P (xs ++ (w ∷ ys)) → P w
of_one P [] w ys each = each.0
of_one P (x ∷ xs) w ys each = of_one P xs w ys each.1

-- none before an item of a list of different ones is equal to it
apart_before : {A : Type 0} (eq : A → A → Bool) (symmetric : (a b : A) → eq a b ≡ false → eq b a ≡ false) (xs : List A)
    (w : A) (ys : List A) → IsDistinct eq (xs ++ (w ∷ ys)) → list_any (eq w) xs ≡ false
unfolding IsDistinct
apart_before eq symmetric [] w ys differ = refl
apart_before eq symmetric (x ∷ xs) w ys differ =
    or_from (eq w x) (list_any (eq w) xs) (symmetric x w (of_one (λ y. eq x y ≡ false) xs w ys differ.0))
    (apart_before eq symmetric xs w ys differ.1)

numbers_differ : (x y : ℕ) → nat_eq x y ≡ false → nat_eq y x ≡ false
numbers_differ x y other = by (nat_eq y x) refl
  where
    by : (b : Bool) → nat_eq y x ≡ b → b ≡ false
    by true same = let equal = eq-eqb x y (sym (eqb-true y x same)) in absurd cc
    by false same = refl

-- what parts before a part give, what it gives and what others give
given_around : {X : Type 0} (f : Part → List X) (earlier : List Part) (part : Part) (later : List Part) (x : X)
    → f part ≡ x ∷ [] → flat_map f (earlier ++ (part ∷ later)) ≡ flat_map f earlier ++ (x ∷ flat_map f later)
given_around f earlier part later x is =
    flat_map-append f earlier (part ∷ later) ∙ ap (λ l. flat_map f earlier ++ (l ++ flat_map f later)) is

-- nothing stands before what stands once
none_before : {X : Type 0} (f : Part → List X) (earlier : List Part) (part : Part) (later : List Part) (x : X)
    → f part ≡ x ∷ [] → length (flat_map f (earlier ++ (part ∷ later))) ≤ 1 → some_of (flat_map f earlier) ≡ false
none_before {X = X} f earlier part later x is le =
    by (flat_map f earlier) (subst (λ l. length l ≤ 1) (given_around f earlier part later x is) le)
  where
    by : (xs : List X) → length (xs ++ (x ∷ flat_map f later)) ≤ 1 → some_of xs ≡ false
    by [] le = refl
    by (y ∷ xs) le =
        let both = length-append xs (x ∷ flat_map f later) in
        absurd (omega (arith, le, both))

-- What all parts of a form say together: one line for the players, one for the teams at most, different point maps and members,
-- who are players, decks, and no more of anything than a sheet may have.
pub record IsTogether (all : List Part) : Type 0 where
  pub players_once : length (flat_map players_in all) ≤ 1
  pub teams_once : length (flat_map teams_in all) ≤ 1
  pub maps_once : IsDistinct bytes_eq (flat_map maps_in all)
  pub members_once : IsDistinct nat_eq (flat_map members_in all)
  pub members_known : AllByRecursion (λ n. n < player_count all) (flat_map members_in all)
  pub some_cards : some_of (flat_map cards_in all) ≡ true
  pub few_cards : card_count all ≤ most_cards
  pub few_attributes : attribute_count all ≤ most_attrs
  pub few_values : value_count all ≤ most_values
  pub few_maps : map_count all ≤ most_maps
  pub few_stages : stage_count all ≤ most_stages
  pub few_choices : choice_count all ≤ most_sites
  pub few_locations : location_count all all ≤ most_locations
  pub few_numbers : number_count all all ≤ most_numbers

module _ (sheet : Sheet) (all : List Part) (differ : Differ sheet.names) (together : IsTogether all) where
  -- a member
  member_fresh : (before later : List Part) (at : Standing) (bytes : List ℕ) (from : ℕ) → at.place ≡ symbol.Member
      → all ≡ before ++ (atom at bytes from ∷ later)
      → (is_among (number_by bytes) (flat_map members_in before) ≡ false) × (number_by bytes < player_count all)
  member_fresh before later at bytes from here is =
      let split = ap (flat_map members_in) is
      ∙ given_around members_in before (atom at bytes from) later (number_by bytes) (ap (λ q. member_by q bytes) here) in (
        apart_before nat_eq numbers_differ (flat_map members_in before) (number_by bytes) (flat_map members_in later)
            (subst (IsDistinct nat_eq) split together.members_once),
        of_one (λ n. n < player_count all) (flat_map members_in before) (number_by bytes) (flat_map members_in later)
            (subst (AllByRecursion (λ n. n < player_count all)) split together.members_known),
      )

  once_again : (before later : List Part) (part : Part) → all ≡ before ++ (part ∷ later) → IsSound sheet all part
      → is_twice before part ≡ false
  once_again before later (atom at bytes from) is sound = by at.place refl
    where
      by : (q : Symbol) → at.place ≡ q → is_player_again before q bytes ≡ false
      by symbol.Member here = and_right _ _ (member_fresh before later at bytes from here is).0
      by q here = refl
  once_again before later (form at rule.CreatePlayers parts from) is sound =
      none_before players_in before (form at rule.CreatePlayers parts from) later _ refl
      (subst (λ l. length (flat_map players_in l) ≤ 1) is together.players_once)
  once_again before later (form at rule.CreateTeams parts from) is sound =
      none_before teams_in before (form at rule.CreateTeams parts from) later _ refl
      (subst (λ l. length (flat_map teams_in l) ≤ 1) is together.teams_once)
  once_again before later (form at rule.PutPoints parts from) is sound =
      apart_before bytes_eq same_either_way (flat_map maps_in before) (word_in 2 parts) (flat_map maps_in later)
      (subst (IsDistinct bytes_eq) (ap (flat_map maps_in) is
      ∙ given_around maps_in before (form at rule.PutPoints parts from) later (word_in 2 parts) refl) together.maps_once)
  once_again before later (form at r parts from) is sound = sound.once

  all_known : (before later : List Part) (part : Part) → all ≡ before ++ (part ∷ later) → IsSound sheet all part
      → is_unknown all before part ≡ false
  all_known before later (atom at bytes from) is sound =
      or_from (is_unbound at bytes || is_unnamed all at.role bytes) (is_no_player all before at.place bytes)
      (or_parts (is_unbound at bytes || is_unnamed all at.role bytes) (is_no_player all [] at.place bytes) sound.known).0
      (by at.place refl)
    where
      by : (q : Symbol) → at.place ≡ q → is_no_player all before q bytes ≡ false
      by symbol.Member here =
          and_right _ _ (lt-leb (player_count all) (number_by bytes) (member_fresh before later at bytes from here is).1)
      by q here = refl
  all_known before later (form at rule.CreateTeams parts from) is sound = and_right _ _ sound.known
  all_known before later (form at r parts from) is sound = sound.known

  kinds_fit : (before : List Part) (part : Part) → AllSound sheet all before → IsSound sheet all part
      → is_wrong_kind before part ≡ false
  kinds_fit before (atom at bytes from) earlier sound = sound.kind_fits
  kinds_fit before (form at rule.Location parts from) earlier sound =
      let both = or_parts (is_misplaced at.role (mention_of parts)) (is_other_side at at.role) sound.kind_fits in
      or_from (is_other_mention (flat_map locations_in before) (mention_of parts) || is_misplaced at.role (mention_of parts))
      (is_other_side at at.role)
      (or_from (is_other_mention (flat_map locations_in before) (mention_of parts)) (is_misplaced at.role (mention_of parts))
      (no_other sheet all differ (IsLocSaid sheet all) (same_loc sheet all differ) (mention_of parts)
      (flat_map locations_in before) sound.said (locs_said sheet all differ before earlier)) both.0) both.1
  kinds_fit before (form at rule.Counter parts from) earlier sound =
      or_from (is_other_mention (flat_map numbers_of before) (mention_of parts)) (is_other_side at at.role)
      (no_other sheet all differ (IsNumSaid sheet all) (same_num sheet all differ) (mention_of parts)
      (flat_map numbers_of before) sound.said (nums_said sheet all differ before earlier)) sound.kind_fits
  kinds_fit before (form at r parts from) earlier sound = sound.kind_fits

  -- where one count watches a part
  one_count : (most : ℕ) (count : List Part → ℕ) (before : List Part) (part : Part) → count (before ++ part ∷ []) ≤ most
      → is_too_deep part ≡ false → ((passes most count before part || false) || is_too_deep part) ≡ false
  one_count most count before part le shallow =
      or_from (passes most count before part || false) (is_too_deep part)
      (or_from (passes most count before part) false (not_passed most count before part le) refl) shallow

  are_few : (before later : List Part) (part : Part) → all ≡ before ++ (part ∷ later) → IsSound sheet all part
      → is_too_many all before part ≡ false
  are_few before later (atom at bytes from) is sound = by at.role
    where
      by : (role : Role)
          → (list_any (λ count. passes count.0 count.1 before (atom at bytes from)) (atom_counts role) || false) ≡ false
      by given_value =
          one_count most_values value_count before (atom at bytes from)
          (fewer_different values_in most_values before (atom at bytes from) later
          (subst (λ l. value_count l ≤ most_values) is together.few_values)) refl
      by role = refl
  are_few before later (form at rule.CreateDeck parts from) is sound =
      one_count most_cards card_count before (form at rule.CreateDeck parts from)
      (fewer_cards most_cards before (form at rule.CreateDeck parts from) later
      (subst (λ l. card_count l ≤ most_cards) is together.few_cards)) sound.shallow
  are_few before later (form at rule.Location parts from) is sound =
      one_count most_locations (location_count all) before (form at rule.Location parts from)
      (fewer_owned (player_count all) (team_count all) most_locations locations_in before (form at rule.Location parts from) later
      (subst (λ l. location_count all l ≤ most_locations) is together.few_locations)) sound.shallow
  are_few before later (form at rule.Counter parts from) is sound =
      one_count most_numbers (number_count all) before (form at rule.Counter parts from)
      (fewer_owned (player_count all) (team_count all) most_numbers numbers_of before (form at rule.Counter parts from) later
      (subst (λ l. number_count all l ≤ most_numbers) is together.few_numbers)) sound.shallow
  are_few before later (form at rule.Group parts from) is sound =
      one_count most_attrs attribute_count before (form at rule.Group parts from)
      (fewer_different attributes_in most_attrs before (form at rule.Group parts from) later
      (subst (λ l. attribute_count l ≤ most_attrs) is together.few_attributes)) sound.shallow
  are_few before later (form at rule.Entry parts from) is sound =
      one_count most_attrs attribute_count before (form at rule.Entry parts from)
      (fewer_different attributes_in most_attrs before (form at rule.Entry parts from) later
      (subst (λ l. attribute_count l ≤ most_attrs) is together.few_attributes)) sound.shallow
  are_few before later (form at rule.PutPoints parts from) is sound =
      one_count most_maps map_count before (form at rule.PutPoints parts from)
      (fewer_different maps_in most_maps before (form at rule.PutPoints parts from) later
      (subst (λ l. map_count l ≤ most_maps) is together.few_maps)) sound.shallow
  are_few before later (form at rule.PlayerStage parts from) is sound =
      one_count most_stages stage_count before (form at rule.PlayerStage parts from)
      (fewer_items stages_in most_stages before (form at rule.PlayerStage parts from) later
      (subst (λ l. stage_count l ≤ most_stages) is together.few_stages)) sound.shallow
  are_few before later (form at rule.TeamStage parts from) is sound =
      one_count most_stages stage_count before (form at rule.TeamStage parts from)
      (fewer_items stages_in most_stages before (form at rule.TeamStage parts from) later
      (subst (λ l. stage_count l ≤ most_stages) is together.few_stages)) sound.shallow
  are_few before later (form at rule.Choice parts from) is sound =
      one_count most_sites choice_count before (form at rule.Choice parts from)
      (fewer_items choices_in most_sites before (form at rule.Choice parts from) later
      (subst (λ l. choice_count l ≤ most_sites) is together.few_choices)) sound.shallow
  are_few before later (form at r parts from) is sound = sound.shallow

  no_cards_lacking : (part : Part) → lacks_cards all part ≡ false
  no_cards_lacking (atom at bytes from) = refl
  no_cards_lacking (form at rule.Setup parts from) = ap not together.some_cards
  no_cards_lacking (form at r parts from) = refl

  -- THE LAW: sound parts that keep together what they must have no fault.
  pub no_second_faults : AllSound sheet all all → faults_behind all [] all ≡ []
  no_second_faults sound =
      no_faults_behind all [] all
      (λ before later part is.
      let each = subst (AllSound sheet all) is sound in
      let here = of_one (IsSound sheet all) before part later each in
      let earlier = (parts_of_append (IsSound sheet all) before (part ∷ later) each).0 in
      record {
        once = once_again before later part is here;
        known = all_known before later part is here;
        kind_fits = kinds_fit before part earlier here;
        few = are_few before later part is here;
        cards = no_cards_lacking part;
      })
