-- What expressions mean. An expression reads faces and never what else a card is: so its meaning is given for cards of any
-- type C that have faces.
use Rattle.std.specs.Prelude.{ℕ, ◌==◌, Bool, true, false, not, List, [], ◌∷◌, ◌++◌, length, take, map, filter, filter_map, fold, slice_get, slice_index_or, ℤ, pos, ◌+ℤ◌, ◌-ℤ◌, ◌*ℤ◌, int_lt, int_le, Option, Some, None, option_map}
use Rattle.std.specs.List.{list_any, list_all, best_of as first_best}
use Rattle.std.specs.Ordering.{int_eq}
use Rattle.rc_base.specs.Clamp.{clamped}
use Rattle.rc_base.specs.Numbers.{below}
use Rattle.rc_base.specs.Deck.{Face, value_at, points_of}
use Rattle.rc_base.specs.Limits.{most_in_collection}
use Rattle.rc_sheet_spec.specs.Sheet.{player_class, team_class, Who, game, current_player, current_team, team_of_current, team_of_var, who_var, Loc, Num, CardExpr, card_var, top_card, bottom_card, max_card, min_card, CollExpr, group_var, cards_in, filtered, union_of, known_in, CollExprs, no_coll, coll, IntExpr, literal, number, size_of, sum_of, worth_of, add, subtract, multiply, Test, eq_int, eq_card, eq_attr, eq_who, ne, less, less_eq, more, more_eq, has_value, and_of, or_of, not_of, all_of, any_of, Tests, no_test, test, Domain, each_player, each_card, each_group, Sheet}
use Rattle.rc_sheet_spec.specs.Naming.{class_of}
pub use Rattle.rc_play_spec.specs.Ends.{last_of, first_of}
use Rattle.rc_play_spec.specs.Control.{Frame}
use Rattle.rc_play_spec.specs.Owners.{current_in, place_among}
use Rattle.rc_play_spec.specs.Shape.{Shape, team_at, face_eq}

-- what everybody knows: the sheet and its shape, the numbers, and the open stages
pub record Known : Type 0 where
  pub sheet : Sheet
  pub shape : Shape
  pub numbers : List ℤ
  pub frames : List Frame

-- what an expression is read in: what everybody knows, the cards of each location by its number, those of them that the current player
-- sees, and the face of a card
pub record Scene (C : Type 0) : Type 0 where
  pub known : Known
  pub cards_at : ℕ → List C
  pub known_at : ℕ → List C
  pub face : C → Face

-- what a variable stands for
pub data Bind (C : Type 0) : Type 0 where
  player_bound : (number : ℕ) → Bind C
  card_bound : (card : C) → Bind C
  group_bound : (cards : List C) → Bind C

-- of a collection the first cards count, up to a limit
abbrev pub cut : {C : Type 0} → List C → List C
cut cards = take most_in_collection cards

-- the same, or both nothing
abbrev pub both : {A : Type 0} → (A → A → Bool) → Option A → Option A → Bool
both same None None = true
both same None (Some b) = false
both same (Some a) None = false
both same (Some a) (Some b) = same a b

abbrev pub nat_same : ℕ → ℕ → Bool
nat_same a b = a == b

-- the player, the card or the cards that a variable stands for
abbrev pub player_of : {C : Type 0} → Option (Bind C) → ℕ
player_of (Some (player_bound n)) = n
player_of other = 0

abbrev pub card_of : {C : Type 0} → Option (Bind C) → Option C
card_of (Some (card_bound c)) = Some c
card_of other = None

abbrev pub group_of : {C : Type 0} → Option (Bind C) → List C
group_of (Some (group_bound cards)) = cards
group_of other = []

-- whether a card is better than another, by their worth
abbrev pub beats : {C : Type 0} → (ℤ → ℤ → Bool) → (C → ℤ) → C → C → Bool
beats better worth c other = better (worth c) (worth other)

-- the first of those that no other beats
abbrev pub best_of : {C : Type 0} → (ℤ → ℤ → Bool) → (C → ℤ) → List C → Option C
best_of better worth [] = None
best_of better worth (c ∷ cards) = Some (first_best (beats better worth) c cards)

abbrev pub int_more : ℤ → ℤ → Bool
int_more a b = int_lt b a

-- the numbers of a list, each once, in the order of their first places
abbrev pub firsts : List ℕ → List ℕ
firsts [] = []
firsts (n ∷ ns) = n ∷ filter (λ m. not (m == n)) (firsts ns)

-- the number of an owner: a player's, or a team's
module _ {C : Type 0} (known : Known) (vars : List (Bind C)) where
  abbrev pub who_value : Who → ℕ
  who_value game = 0
  who_value current_player = current_in known.sheet player_class known.frames
  who_value current_team = current_in known.sheet team_class known.frames
  who_value team_of_current = team_at known.shape (current_in known.sheet player_class known.frames)
  who_value (team_of_var var) = team_at known.shape (player_of (slice_get vars var))
  who_value (who_var var) = player_of (slice_get vars var)

  -- the number of the location of this owner, and of its number; nothing where there is none
  abbrev pub loc_place : Loc → Option ℕ
  loc_place loc =
      place_among known.sheet (class_of loc.who) (map (λ l. l.class) known.sheet.locs) loc.name (who_value loc.who)

  abbrev pub num_place : Num → Option ℕ
  num_place num =
      place_among known.sheet (class_of num.who) (map (λ n. n.class) known.sheet.nums) num.name (who_value num.who)

abbrev pub cards_there : {C : Type 0} → Scene C → Option ℕ → List C
cards_there scene None = []
cards_there scene (Some n) = scene.cards_at n

abbrev pub known_there : {C : Type 0} → Scene C → Option ℕ → List C
known_there scene None = []
known_there scene (Some n) = scene.known_at n

abbrev pub number_there : List ℤ → Option ℕ → ℤ
number_there numbers None = pos 0
number_there numbers (Some n) = slice_index_or numbers n (pos 0)

module _ {C : Type 0} (scene : Scene C) where
  -- what a card is worth, and its value for an attribute
  abbrev pub worth : ℕ → C → ℤ
  worth points c = points_of (slice_index_or scene.known.sheet.points points []) (scene.face c)

  abbrev pub attr_of : ℕ → C → Option ℕ
  attr_of attr c = value_at (scene.face c) attr

  abbrev pub attr_of_any : ℕ → Option C → Option ℕ
  attr_of_any attr None = None
  attr_of_any attr (Some c) = attr_of attr c

  abbrev pub worth_of_any : ℕ → Option C → ℤ
  worth_of_any points None = pos 0
  worth_of_any points (Some c) = worth points c

  -- the sum of the cards' points: the exact sum, clamped once
  abbrev pub sum_worth : ℕ → List C → ℤ
  sum_worth points cards = clamped (fold ◌+ℤ◌ (pos 0) (map (worth points) cards))

  -- the groups of cards with equal values of the attribute, in order of first appearance
  abbrev pub groups_by : ℕ → List C → List (List C)
  groups_by attr cards =
      map (λ value. filter (λ c. both nat_same (attr_of attr c) (Some value)) cards)
      (firsts (filter_map (attr_of attr) cards))

  abbrev mutual
    pub card_value : List (Bind C) → CardExpr → Option C
    card_value vars (card_var var) = card_of (slice_get vars var)
    card_value vars (top_card cards) = last_of (coll_value vars cards)
    card_value vars (bottom_card cards) = first_of (coll_value vars cards)
    card_value vars (max_card cards points) = best_of int_more (worth points) (coll_value vars cards)
    card_value vars (min_card cards points) = best_of int_lt (worth points) (coll_value vars cards)

    pub coll_value : List (Bind C) → CollExpr → List C
    coll_value vars (group_var var) = cut (group_of (slice_get vars var))
    coll_value vars (cards_in loc) = cut (cards_there scene (loc_place scene.known vars loc))
    coll_value vars (filtered cards bound t) =
        filter (λ c. test_value (vars ++ card_bound c ∷ []) t) (coll_value vars cards)
    coll_value vars (union_of parts) = cut (colls_value vars parts)
    coll_value vars (known_in loc) = cut (known_there scene (loc_place scene.known vars loc))

    -- one behind the other
    pub colls_value : List (Bind C) → CollExprs → List C
    colls_value vars no_coll = []
    colls_value vars (coll cards parts) = coll_value vars cards ++ colls_value vars parts

    pub int_value : List (Bind C) → IntExpr → ℤ
    int_value vars (literal value) = value
    int_value vars (number num) = number_there scene.known.numbers (num_place scene.known vars num)
    int_value vars (size_of cards) = pos (length (coll_value vars cards))
    int_value vars (sum_of cards points) = sum_worth points (coll_value vars cards)
    int_value vars (worth_of card points) = worth_of_any points (card_value vars card)
    int_value vars (add a b) = clamped (int_value vars a +ℤ int_value vars b)
    int_value vars (subtract a b) = clamped (int_value vars a -ℤ int_value vars b)
    int_value vars (multiply a b) = clamped (int_value vars a *ℤ int_value vars b)

    pub test_value : List (Bind C) → Test → Bool
    test_value vars (eq_int a b) = int_eq (int_value vars a) (int_value vars b)
    test_value vars (eq_card a b) =
        both face_eq (option_map scene.face (card_value vars a)) (option_map scene.face (card_value vars b))
    test_value vars (eq_attr a attr b attr') =
        both nat_same (attr_of_any attr (card_value vars a)) (attr_of_any attr' (card_value vars b))
    test_value vars (eq_who who who') = who_value scene.known vars who == who_value scene.known vars who'
    test_value vars (ne t) = not (test_value vars t)
    test_value vars (less a b) = int_lt (int_value vars a) (int_value vars b)
    test_value vars (less_eq a b) = int_le (int_value vars a) (int_value vars b)
    test_value vars (more a b) = int_lt (int_value vars b) (int_value vars a)
    test_value vars (more_eq a b) = int_le (int_value vars b) (int_value vars a)
    test_value vars (has_value c attr value) = both nat_same (attr_of_any attr (card_value vars c)) (Some value)
    test_value vars (and_of tests) = list_all (λ b. b) (tests_value vars tests)
    test_value vars (or_of tests) = list_any (λ b. b) (tests_value vars tests)
    test_value vars (not_of t) = not (test_value vars t)
    test_value vars (all_of domain bound t) = list_all (λ m. test_value (vars ++ m ∷ []) t) (members vars domain)
    test_value vars (any_of domain bound t) = list_any (λ m. test_value (vars ++ m ∷ []) t) (members vars domain)

    pub tests_value : List (Bind C) → Tests → List Bool
    tests_value vars no_test = []
    tests_value vars (test t tests) = test_value vars t ∷ tests_value vars tests

    -- what a variable runs over
    pub members : List (Bind C) → Domain → List (Bind C)
    members vars each_player = map (λ n. player_bound n) (below scene.known.sheet.players)
    members vars (each_card cards) = map (λ c. card_bound c) (coll_value vars cards)
    members vars (each_group cards attr) = map (λ g. group_bound g) (groups_by attr (coll_value vars cards))
