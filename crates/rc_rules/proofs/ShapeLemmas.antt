-- The shape of a well formed sheet is a shape.
use Rattle.std.proofs.Common.{◌≡◌, ℕ, zero, suc, ◌+◌, ◌<◌, ◌≤◌, true, not, List, [], ◌∷◌, ◌++◌, length, get_or, take, map, flat_map, replicate, min, Option, Some, None, refl, sym, ap, ap₂, ◌∙◌, arith}
use Rattle.std.specs.Prelude.{sum_by}
use Rattle.std.specs.List.{AllByRecursion}
use Rattle.std.proofs.lemmas.List.{take_more, map-append, append-nil, take_min}
use Rattle.std.proofs.lemmas.Grind.{flat_map-append}
use Rattle.std.proofs.lemmas.List.Sums.{sum_by-cons, sum_by_push, sum_by-take-le, prefix_len-le-length}
use Rattle.std.proofs.lemmas.List.Concat.{length-flat_map}
use Rattle.std.proofs.lemmas.List.Elements.{All-from_recursion}
use Rattle.std.proofs.lemmas.List.FromFn.{length-map-range_with_len}
use Rattle.rc_base.specs.Numbers.{below}
use Rattle.rc_base.specs.Deck.{Face, face_count}
use Rattle.rc_deck.specs.Product.{faces_of_groups}
use Rattle.rc_deck.proofs.PathLaws.{AreFaces-faces_of_groups, length-AreFaces}
use Rattle.rc_deck.proofs.EachLemmas.{append_each}
use Rattle.rc_sheet_spec.specs.Sheet.{Teams, Class, game_class, player_class, team_class, LocName, DeckLine, Sheet}
use Rattle.rc_sheet_spec.specs.WellFormed.{is_among, AreTeams, team_count, owner_count, IsWellFormed}
use Rattle.rc_play_spec.specs.Shape.{Place, team_in, team_among, places_of, first_loc, shape_of}
use Rattle.rc_play_spec.specs.Bound.{HasHomes}
use Rattle.rc_play_spec.proofs.CardLemmas.{map_each, numbers_below}
use Rattle.rc_ast.specs.declared.sheet.Sheet.{Sheet as SheetRead}
use Rattle.rc_ast.specs.declared.names.LocName.{LocName as LocRead}
use Rattle.rc_ast.specs.Names.{loc_name_seen}
use Rattle.rc_ast.specs.Sheet.{sheet_seen}
use Rattle.rc_table.specs.Places.{place_seen}
use Rattle.rc_table.specs.Shape.{IsOwnerOf, IsShape, shape_of_parts}
use Rattle.rc_table.specs.declared.place.Place.{Place as TablePlace}
use Rattle.rc_rules.proofs.PartitionLemmas.{teams_few, team_has_player, among_below}

-- sums of what is equal
pub sums_same : {X : Type 0} (f g : X → ℕ) → ((x : X) → f x ≡ g x) → (xs : List X) → sum_by f xs ≡ sum_by g xs
sums_same f g same [] = refl
sums_same f g same (x ∷ xs) = sum_by-cons f x xs ∙ ap₂ ◌+◌ (same x) (sums_same f g same xs) ∙ sym (sum_by-cons g x xs)

-- one item more in a sum
sum_more : {X Y : Type 0} (f : Y → ℕ) (g : X → Y) (xs : List X) (k : ℕ) (d : X) → k < length xs →
    sum_by f (map g (take (k + 1) xs)) ≡ sum_by f (map g (take k xs)) + f (g (get_or xs k d))
sum_more f g xs k d lt =
    ap (λ ys. sum_by f (map g ys)) (take_more xs k d lt) ∙ ap (sum_by f) (map-append g (take k xs) (get_or xs k d ∷ []))
    ∙ sum_by_push f (map g (take k xs)) (g (get_or xs k d))

pub summed_map : {X Y : Type 0} (f : Y → ℕ) (g : X → Y) (xs : List X) → sum_by f (map g xs) ≡ sum_by (λ x. f (g x)) xs
summed_map f g [] = refl
summed_map f g (x ∷ xs) =
    sum_by-cons f (g x) (map g xs) ∙ ap (λ n. f (g x) + n) (summed_map f g xs) ∙ sym (sum_by-cons (λ x. f (g x)) x xs)

taken_within : {X Y : Type 0} (f : Y → ℕ) (g : X → Y) (xs : List X) (k : ℕ) → sum_by f (map g (take k xs)) ≤ sum_by f (map g xs)
taken_within f g xs k =
    let part = summed_map f g (take k xs) in
    let whole = summed_map f g xs in
    let most = sum_by-take-le (λ x. f (g x)) xs k in
    omega (arith, part, whole, most)

-- so the items up to one have at most the sum of all
pub part_at : {X Y : Type 0} (f : Y → ℕ) (g : X → Y) (xs : List X) (k : ℕ) (d : X) → k < length xs →
    sum_by f (map g (take k xs)) + f (g (get_or xs k d)) ≤ sum_by f (map g xs)
part_at f g xs k d lt =
    let more = sum_more f g xs k d lt in
    let most = taken_within f g xs (k + 1) in
    omega (arith, more, most)

pub part_within : {X Y : Type 0} (f : Y → ℕ) (g : X → Y) (xs : List X) (k : ℕ) (x : X) → k < length xs → x ≡ get_or xs k x →
    sum_by f (map g (take k xs)) + f (g x) ≤ sum_by f (map g xs)
part_within f g xs k x lt is =
    let most = part_at f g xs k x lt in
    let same = ap (λ y. f (g y)) is in
    omega (arith, most, same)

repeated_more : {X : Type 0} (x : X) (n : ℕ) → replicate (suc n) x ≡ replicate n x ++ x ∷ []
repeated_more x zero = refl
repeated_more x (suc n) = ap (λ xs. x ∷ xs) (repeated_more x n)

pub taken_mapped : {X Y : Type 0} (g : X → Y) (xs : List X) (k : ℕ) → map g (take k xs) ≡ take k (map g xs)
taken_mapped g xs zero = refl
taken_mapped g [] (suc k) = refl
taken_mapped g (x ∷ xs) (suc k) = ap (λ ys. g x ∷ ys) (taken_mapped g xs k)

pub repeated_push : {X : Type 0} (x : X) (n : ℕ) → replicate (n + 1) x ≡ replicate n x ++ x ∷ []
repeated_push x n = ap (λ k. replicate k x) (let e : n + 1 ≡ suc n = omega arith in e) ∙ repeated_more x n

-- one item more in what a list of lists joins
pub joined_more : {X Y Z : Type 0} (f : Y → List Z) (g : X → Y) (xs : List X) (k : ℕ) (x : X) → k < length xs → x ≡ get_or xs k x →
    flat_map f (map g (take (k + 1) xs)) ≡ flat_map f (map g (take k xs)) ++ f (g x)
joined_more f g xs k x lt is =
    ap (λ ys. flat_map f (map g ys)) (take_more xs k x lt ∙ ap (λ y. take k xs ++ y ∷ []) (sym is))
    ∙ ap (flat_map f) (map-append g (take k xs) (x ∷ [])) ∙ flat_map-append f (map g (take k xs)) (g x ∷ [])
    ∙ ap (λ last. flat_map f (map g (take k xs)) ++ last) (append-nil (f (g x)))

flat_each : {X Y : Type 0} (P : Y → Type 0) (f : X → List Y) → ((x : X) → AllByRecursion P (f x)) → (xs : List X) → AllByRecursion P (flat_map f xs)
flat_each P f each [] = tt
flat_each P f each (x ∷ xs) = append_each P (f x) (flat_map f xs) (each x) (flat_each P f each xs)

-- at most 8 teams
few_teams : (players : ℕ) (o : Option Teams) → players ≤ 8 → AreTeams players o → (sheet : Sheet) → sheet.players ≡ players → team_count sheet o ≤ 8
few_teams players None few are sheet same = omega (arith, few, same)
few_teams players (Some teams) few are sheet same =
    let more = teams_few teams are.some in
    let whole = are.whole in
    omega (arith, more, whole, few)

place_in_teams : (teams : Teams) (player : ℕ) → team_among teams player ≤ length teams
place_in_teams teams player = prefix_len-le-length (λ team. not (is_among player team)) teams

module _ (sheet : Sheet) (formed : IsWellFormed sheet) where
  pub owners_few : (class : Class) → owner_count sheet class ≤ 8
  owners_few game_class = omega arith
  owners_few player_class = formed.limits.players
  owners_few team_class = few_teams sheet.players sheet.teams formed.limits.players formed.teams sheet refl

  team_few_of : (o : Option Teams) → AreTeams sheet.players o → team_count sheet o ≤ 8 → (player : ℕ) → player < sheet.players → team_in o player ≤ 8
  team_few_of None are few player lt = let most = formed.limits.players in omega (arith, most, lt)
  team_few_of (Some teams) are few player lt = let most = place_in_teams teams player in omega (arith, most, few)

  pub team_few : (player : ℕ) → player < sheet.players → team_in sheet.teams player ≤ 8
  team_few = team_few_of sheet.teams formed.teams (owners_few team_class)

  team_there : (o : Option Teams) → AreTeams sheet.players o → (t : ℕ) → t < team_count sheet o → is_among t (map (team_in o) (below sheet.players)) ≡ true
  team_there None are t lt = among_below (team_in None) t t sheet.players lt refl
  team_there (Some teams) are t lt =
      let found = team_has_player sheet.players teams are t lt in
      among_below (team_in (Some teams)) t found.0 sheet.players found.1 found.2

  owner_there : (class : Class) (n : ℕ) → n < owner_count sheet class → IsOwnerOf (shape_of sheet) class n
  owner_there game_class n lt = omega (arith, lt)
  owner_there player_class n lt = lt
  owner_there team_class n lt = team_there sheet.teams formed.teams n lt

  owners_there : (name : LocName) → AllByRecursion (λ (place : Place). IsOwnerOf (shape_of sheet) place.class place.owner) (places_of sheet name)
  owners_there name =
      map_each (λ n. n < owner_count sheet name.class) (λ (place : Place). IsOwnerOf (shape_of sheet) place.class place.owner)
      (λ n. record { kind = name.kind; class = name.class; owner = n }) (λ n lt. owner_there name.class n lt) (below (owner_count sheet name.class))
      (numbers_below 0 (owner_count sheet name.class) (owner_count sheet name.class) (omega arith))

  place_count : (name : LocName) → length (places_of sheet name) ≡ owner_count sheet name.class
  place_count name =
      length-map-range_with_len (λ n. record { kind = name.kind; class = name.class; owner = n }) 0 (owner_count sheet name.class)

  faces_count : (line : DeckLine) → length (faces_of_groups line.groups) ≡ face_count line.groups
  faces_count line = length-AreFaces line.groups (faces_of_groups line.groups) (AreFaces-faces_of_groups line.groups)

  pub shaped : HasHomes (shape_of sheet) → IsShape (shape_of sheet)
  shaped homes = record {
    some_players = formed.limits.some_players;
    players = formed.limits.players;
    teams = length-map-range_with_len (team_in sheet.teams) 0 sheet.players;
    locations =
        let count = length-flat_map (places_of sheet) sheet.locs in
        let same = sums_same (λ name. length (places_of sheet name)) (λ name. owner_count sheet name.class) place_count sheet.locs in
        let most = formed.limits.locations in
        omega (arith, count, same, most);
    owners =
        let place = λ (place : Place). IsOwnerOf (shape_of sheet) place.class place.owner in
        All-from_recursion place (flat_map (places_of sheet) sheet.locs) (flat_each place (places_of sheet) owners_there sheet.locs);
    numbers = formed.limits.numbers;
    cards =
        let count = length-flat_map (λ (line : DeckLine). faces_of_groups line.groups) sheet.decks in
        let same = sums_same (λ (line : DeckLine). length (faces_of_groups line.groups)) (λ line. face_count line.groups) faces_count sheet.decks in
        let most = formed.limits.cards in
        omega (arith, count, same, most);
    homes = homes;
  }

-- a shape by its parts
pub parts_same : (sheet : Sheet) (team_of : List ℕ) (places : List TablePlace) (numbers : ℕ) (faces : List Face) (home : List ℕ) →
    team_of ≡ (shape_of sheet).team_of → map place_seen places ≡ (shape_of sheet).places → numbers ≡ (shape_of sheet).numbers →
    faces ≡ (shape_of sheet).faces → home ≡ (shape_of sheet).home →
    shape_of_parts sheet.players team_of places numbers faces home ≡ shape_of sheet
parts_same sheet team_of places numbers faces home t p n f h = λ i. record {
  players = sheet.players;
  team_of = t i;
  places = p i;
  numbers = n i;
  faces = f i;
  home = h i;
}

-- the locations of the first names, which the code reads
pub first_within : (sheet : SheetRead) → IsWellFormed (sheet_seen sheet) → (k : ℕ) (read : List LocRead) → read ≡ sheet.locs.items →
    sum_by (λ (name : LocName). owner_count (sheet_seen sheet) name.class) (map loc_name_seen (take k read)) ≤ 256
first_within sheet formed k read is =
    let count = λ (name : LocName). owner_count (sheet_seen sheet) name.class in
    let part = taken_within count loc_name_seen read k in
    let same = ap (λ locs. sum_by count (map loc_name_seen locs)) is in
    let most = formed.limits.locations in
    omega (arith, part, same, most)

pub first_is : (sheet : SheetRead) (name k : ℕ) (read : List LocRead) → read ≡ sheet.locs.items → k ≡ min name (length read) →
    sum_by (λ (name : LocName). owner_count (sheet_seen sheet) name.class) (map loc_name_seen (take k read))
    ≡ first_loc (sheet_seen sheet) (sheet_seen sheet).locs name
first_is sheet name k read is least =
    let count = λ (name : LocName). owner_count (sheet_seen sheet) name.class in
    ap (λ n. sum_by count (map loc_name_seen (take n read))) least
    ∙ ap (λ locs. sum_by count (map loc_name_seen locs)) (take_min name read)
    ∙ ap (sum_by count) (taken_mapped loc_name_seen read name)
    ∙ ap (λ locs. sum_by count (take name (map loc_name_seen locs))) is
