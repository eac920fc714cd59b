-- What expressions mean in a sound table: cards of the shape, and references that were read in locations of references.
use Rattle.std.proofs.Common.{◌≡◌, ℕ, zero, suc, ◌+◌, ◌<◌, Bool, true, false, cond, List, [], ◌∷◌, ◌++◌, length, get_or, map, slice_get, ℤ, Option, Some, None, refl, arith}
use Rattle.std.specs.Prelude.{filter, filter_map, All, int_lt}
use Rattle.std.specs.List.{AllByRecursion, range_with_len, best_of as first_best}
use Rattle.std.proofs.lemmas.List.Elements.{recursion_from_All, All-from_recursion}
use Rattle.rc_base.specs.Numbers.{below}
use Rattle.rc_deck.proofs.EachLemmas.{take_each, append_each}
use Rattle.rc_sheet_spec.specs.Sheet.{CardExpr, card_var, top_card, bottom_card, max_card, min_card, CollExpr, group_var, cards_in, filtered, union_of, known_in, CollExprs, no_coll, coll, Domain, each_player, each_card, each_group, Alt, do_alt, if_alt, any_alt}
use Rattle.rc_sheet_spec.specs.WellFormed.{is_mem}
use Rattle.rc_play_spec.specs.Ends.{last_of, first_of}
use Rattle.rc_play_spec.specs.Shape.{Place, Shape, holds_references}
use Rattle.rc_play_spec.specs.Sees.{sees}
use Rattle.rc_play_spec.specs.Table.{Table, list_at, is_marked}
use Rattle.rc_play_spec.specs.Value.{Scene, Bind, player_bound, card_bound, group_bound, both, nat_same, card_of, group_of, firsts, beats, best_of, int_more, cards_there, known_there, loc_place, worth, attr_of, card_value, coll_value, colls_value, test_value, members}
use Rattle.rc_play_spec.specs.Scene.{CardValue, Vars, value_in, seen_of, ids_seen}
use Rattle.rc_play_spec.specs.Bound.{IsCardOf, IsBindOf}
use Rattle.rc_play_spec.specs.Menu.{bindings_of}

kept_each : {X : Type 0} (P : X → Type 0) (b : Bool) (x : X) (xs : List X) → P x → AllByRecursion P xs → AllByRecursion P (cond b (x ∷ xs) xs)
kept_each P true x xs is all = (is, all)
kept_each P false x xs is all = all

pub filter_each : {X : Type 0} (P : X → Type 0) (p : X → Bool) (xs : List X) → AllByRecursion P xs → AllByRecursion P (filter p xs)
filter_each P p [] all = tt
filter_each P p (x ∷ xs) all = kept_each P (p x) x (filter p xs) all.0 (filter_each P p xs all.1)

pub map_each : {X Y : Type 0} (P : X → Type 0) (Q : Y → Type 0) (f : X → Y) → ((x : X) → P x → Q (f x)) → (xs : List X) → AllByRecursion P xs → AllByRecursion Q (map f xs)
map_each P Q f each [] all = tt
map_each P Q f each (x ∷ xs) all = (each x all.0, map_each P Q f each xs all.1)

pub get_each : {X : Type 0} (P : X → Type 0) (d : X) → P d → (xs : List X) (n : ℕ) → AllByRecursion P xs → P (get_or xs n d)
get_each P d is [] n all = is
get_each P d is (x ∷ xs) zero all = all.0
get_each P d is (x ∷ xs) (suc n) all = get_each P d is xs n all.1

pub numbers_below : (a n k : ℕ) → k ≡ a + n → AllByRecursion (λ m. m < k) (range_with_len a n)
numbers_below a zero k e = tt
numbers_below a (suc n) k e = (omega (arith, e), numbers_below (a + 1) n k (omega (arith, e)))

module _ (shape : Shape) where
  abbrev IsCard : ℕ → Type 0
  IsCard id = id < length shape.faces

  abbrev pub AreCards : List CardValue → Type 0
  AreCards cards = AllByRecursion (IsCardOf shape) cards

  abbrev pub AreBinds : Vars → Type 0
  AreBinds vars = AllByRecursion (IsBindOf shape) vars

  -- a card of the shape, or nothing
  abbrev pub MayBeCard : Option CardValue → Type 0
  MayBeCard None = Unit {0}
  MayBeCard (Some card) = IsCardOf shape card

  abbrev MayBeBind : Option (Bind CardValue) → Type 0
  MayBeBind None = Unit {0}
  MayBeBind (Some bind) = IsBindOf shape bind

  get_bind : (vars : Vars) (k : ℕ) → AreBinds vars → MayBeBind (slice_get vars k)
  get_bind [] k all = tt
  get_bind (bind ∷ vars) zero all = all.0
  get_bind (bind ∷ vars) (suc k) all = get_bind vars k all.1

  card_bind : (o : Option (Bind CardValue)) → MayBeBind o → MayBeCard (card_of o)
  card_bind None is = tt
  card_bind (Some (player_bound n)) is = tt
  card_bind (Some (card_bound card)) is = is
  card_bind (Some (group_bound cards)) is = tt

  group_bind : (o : Option (Bind CardValue)) → MayBeBind o → AreCards (group_of o)
  group_bind None is = tt
  group_bind (Some (player_bound n)) is = tt
  group_bind (Some (card_bound card)) is = tt
  group_bind (Some (group_bound cards)) is = recursion_from_All (IsCardOf shape) cards is

  last_card : (cards : List CardValue) → AreCards cards → MayBeCard (last_of cards)
  last_card [] all = tt
  last_card (c ∷ []) all = all.0
  last_card (c ∷ d ∷ cards) all = last_card (d ∷ cards) all.1

  first_card : (cards : List CardValue) → AreCards cards → MayBeCard (first_of cards)
  first_card [] all = tt
  first_card (c ∷ cards) all = all.0

  either : (b : Bool) (c d : CardValue) → IsCardOf shape c → IsCardOf shape d → IsCardOf shape (cond b c d)
  either true c d is is' = is
  either false c d is is' = is'

  first_best_card : (better : CardValue → CardValue → Bool) (c : CardValue) (cards : List CardValue) → IsCardOf shape c → AreCards cards →
      IsCardOf shape (first_best better c cards)
  first_best_card better c [] is all = is
  first_best_card better c (d ∷ cards) is all =
      first_best_card better (cond (better d c) d c) cards (either (better d c) d c all.0 is) all.1

  best_card : (better : ℤ → ℤ → Bool) (w : CardValue → ℤ) (cards : List CardValue) → AreCards cards → MayBeCard (best_of better w cards)
  best_card better w [] all = tt
  best_card better w (c ∷ cards) all = first_best_card (beats better w) c cards all.0 all.1

  -- what is read in a location
  read_card : (p : Option Place) → (n : ℕ) → slice_get shape.places n ≡ p → (id : ℕ) → IsCard id → IsCardOf shape (value_in (holds_references p) n id)
  read_card None n is id card = card
  read_card (Some place) n is id card = read_kind (is_mem place.kind) refl where
    read_kind : (b : Bool) → is_mem place.kind ≡ b → IsCardOf shape (value_in b n id)
    read_kind true mem = ((place, is, mem), card)
    read_kind false mem = card

  lists_each : (lists : List (List ℕ)) → AllByRecursion (All IsCard) lists → AllByRecursion (AllByRecursion IsCard) lists
  lists_each [] all = tt
  lists_each (ids ∷ lists) all = (recursion_from_All IsCard ids all.0, lists_each lists all.1)

  -- what is seen of it
  seen_each : (sees_it : Bool) (marks : List (List ℕ)) (seat : ℕ) (ids : List ℕ) → AllByRecursion IsCard ids → AllByRecursion IsCard (seen_of sees_it marks seat ids)
  seen_each true marks seat ids all = all
  seen_each false marks seat ids all = filter_each IsCard (is_marked marks seat) ids all

  pub read_cards : (table : Table) → All (All IsCard) table.lists → (seat n : ℕ) →
      AreCards (map (value_in (holds_references (slice_get shape.places n)) n) (list_at table n))
      × AreCards (map (value_in (holds_references (slice_get shape.places n)) n) (ids_seen shape table seat n))
  read_cards table ids seat n =
      let each = get_each (AllByRecursion IsCard) [] tt table.lists n (lists_each table.lists (recursion_from_All (All IsCard) table.lists ids)) in
      let read = map_each IsCard (IsCardOf shape) (value_in (holds_references (slice_get shape.places n)) n) (λ id card. read_card (slice_get shape.places n) n refl id card) in
      (read (list_at table n) each, read (ids_seen shape table seat n) (seen_each (sees shape seat n) table.marks seat (list_at table n) each))

  module _ (scene : Scene CardValue) (there : (n : ℕ) → AreCards (scene.cards_at n) × AreCards (scene.known_at n))
      (players : shape.players ≡ scene.known.sheet.players) where
    there_cards : (o : Option ℕ) → AreCards (cards_there scene o)
    there_cards None = tt
    there_cards (Some n) = (there n).0

    known_cards : (o : Option ℕ) → AreCards (known_there scene o)
    known_cards None = tt
    known_cards (Some n) = (there n).1

    mutual
      pub card_cards : (vars : Vars) → AreBinds vars → (e : CardExpr) → MayBeCard (card_value scene vars e)
      card_cards vars v (card_var var) = card_bind (slice_get vars var) (get_bind vars var v)
      card_cards vars v (top_card cards) = last_card (coll_value scene vars cards) (coll_cards vars v cards)
      card_cards vars v (bottom_card cards) = first_card (coll_value scene vars cards) (coll_cards vars v cards)
      card_cards vars v (max_card cards points) = best_card int_more (worth scene points) (coll_value scene vars cards) (coll_cards vars v cards)
      card_cards vars v (min_card cards points) = best_card int_lt (worth scene points) (coll_value scene vars cards) (coll_cards vars v cards)

      pub coll_cards : (vars : Vars) → AreBinds vars → (e : CollExpr) → AreCards (coll_value scene vars e)
      coll_cards vars v (group_var var) =
          take_each (IsCardOf shape) 512 (group_of (slice_get vars var)) (group_bind (slice_get vars var) (get_bind vars var v))
      coll_cards vars v (cards_in loc) =
          take_each (IsCardOf shape) 512 (cards_there scene (loc_place scene.known vars loc)) (there_cards (loc_place scene.known vars loc))
      coll_cards vars v (filtered cards bound t) =
          filter_each (IsCardOf shape) (λ c. test_value scene (vars ++ card_bound c ∷ []) t) (coll_value scene vars cards) (coll_cards vars v cards)
      coll_cards vars v (union_of parts) = take_each (IsCardOf shape) 512 (colls_value scene vars parts) (colls_cards vars v parts)
      coll_cards vars v (known_in loc) =
          take_each (IsCardOf shape) 512 (known_there scene (loc_place scene.known vars loc)) (known_cards (loc_place scene.known vars loc))

      colls_cards : (vars : Vars) → AreBinds vars → (e : CollExprs) → AreCards (colls_value scene vars e)
      colls_cards vars v no_coll = tt
      colls_cards vars v (coll cards parts) =
          append_each (IsCardOf shape) (coll_value scene vars cards) (colls_value scene vars parts) (coll_cards vars v cards) (colls_cards vars v parts)

    group_cards : (attr : ℕ) (cards : List CardValue) → AreCards cards → (values : List ℕ) →
        AreBinds (map (λ g. group_bound g) (map (λ value. filter (λ c. both nat_same (attr_of scene attr c) (Some value)) cards) values))
    group_cards attr cards all [] = tt
    group_cards attr cards all (value ∷ values) = (
      All-from_recursion (IsCardOf shape) (filter (λ c. both nat_same (attr_of scene attr c) (Some value)) cards)
          (filter_each (IsCardOf shape) (λ c. both nat_same (attr_of scene attr c) (Some value)) cards all),
      group_cards attr cards all values,
    )

    -- what a variable runs over
    pub member_binds : (vars : Vars) → AreBinds vars → (domain : Domain) → AreBinds (members scene vars domain)
    member_binds vars v each_player =
        map_each (λ n. n < shape.players) (IsBindOf shape) (λ n. player_bound n) (λ n lt. lt) (below scene.known.sheet.players)
        (numbers_below 0 scene.known.sheet.players shape.players (omega (arith, players)))
    member_binds vars v (each_card cards) =
        map_each (IsCardOf shape) (IsBindOf shape) (λ c. card_bound c) (λ c is. is) (coll_value scene vars cards) (coll_cards vars v cards)
    member_binds vars v (each_group cards attr) =
        group_cards attr (coll_value scene vars cards) (coll_cards vars v cards) (firsts (filter_map (attr_of scene attr) (coll_value scene vars cards)))

    pub with_bind : (vars : Vars) → AreBinds vars → (bind : Bind CardValue) → IsBindOf shape bind → AreBinds (vars ++ bind ∷ [])
    with_bind vars v bind is = append_each (IsBindOf shape) vars (bind ∷ []) v (is, tt)

    -- what an item binds
    pub item_binds : 0 < shape.players → (vars : Vars) → AreBinds vars → (alt : Alt) (spots : List ℕ) → AreBinds (bindings_of scene vars alt spots)
    item_binds some vars v (do_alt effects) spots = v
    item_binds some vars v (if_alt guard effects) spots = v
    item_binds some vars v (any_alt domain bound alt) [] = v
    item_binds some vars v (any_alt domain bound alt) (spot ∷ spots) =
        let bind = get_or (members scene vars domain) spot (player_bound 0) in
        item_binds some (vars ++ bind ∷ [])
        (with_bind vars v bind (get_each (IsBindOf shape) (player_bound 0) some (members scene vars domain) spot (member_binds vars v domain))) alt spots
