-- Values depend on faces alone: where the cards of one scene are those of another, each changed to a card with the same
-- face, all values are.
use Rattle.std.proofs.Common.{◌≡◌, ℕ, min, not, if◌then◌else◌, List, [], ◌∷◌, ◌++◌, length, map, slice_get, pos, ◌+ℤ◌, ◌-ℤ◌, ◌*ℤ◌, int_lt, int_le, int_eq, Option, Some, None, refl, sym, ap, ap₂, ◌∙◌}
use Rattle.std.specs.Prelude.{filter, filter_map, fold, option_map}
use Rattle.std.specs.List.{list_any, list_all, AllByRecursion}
use Rattle.std.proofs.lemmas.List.{take-map, map-append, length-map, length-take}
use Rattle.std.proofs.lemmas.Option.{slice_get-map}
use Rattle.rc_base.specs.Clamp.{clamped}
use Rattle.rc_base.specs.Numbers.{below}
use Rattle.rc_base.specs.Deck.{Face}
use Rattle.rc_deck.proofs.EachLemmas.{parts_of_append}
use Rattle.rc_sheet_spec.specs.Sheet.{Who, game, current_player, current_team, team_of_current, team_of_var, who_var, Loc, Num, CardExpr, card_var, top_card, bottom_card, max_card, min_card, CollExpr, group_var, cards_in, filtered, union_of, known_in, CollExprs, no_coll, coll, IntExpr, literal, number, size_of, sum_of, worth_of, add, subtract, multiply, Test, eq_int, eq_card, eq_attr, eq_who, ne, less, less_eq, more, more_eq, has_value, and_of, or_of, not_of, all_of, any_of, Tests, no_test, test, Domain, each_player, each_card, each_group, Alt, do_alt, if_alt, any_alt}
use Rattle.rc_sheet_spec.specs.Sight.{locs_in_card, locs_in_coll, locs_in_colls, locs_in_int, locs_in_test, locs_in_tests, locs_in_domain, locs_in_alt}
use Rattle.rc_sheet_spec.specs.Naming.{class_of}
use Rattle.rc_play_spec.specs.Owners.{place_among}
use Rattle.rc_play_spec.specs.Shape.{team_at, face_eq}
use Rattle.rc_play_spec.specs.Value.{Known, Scene, Bind, player_bound, card_bound, group_bound, cut, both, nat_same, player_of, card_of, group_of, last_of, first_of, best_of, int_more, firsts, who_value, loc_place, num_place, cards_there, known_there, number_there, worth, attr_of, attr_of_any, worth_of_any, sum_worth, groups_by, card_value, coll_value, colls_value, int_value, test_value, tests_value, members}
use Rattle.rc_play_spec.specs.Menu.{from_each, spots_of}
use Rattle.rc_play_spec.proofs.Parts.{bind_map, player_map, card_map, group_map, last_map, first_map, best_map, map_twice, filter_map_map, filter_same, all_same, any_same, from_each_same}

abbrev pub scene_from : {C : Type 0} → Known → (ℕ → List C) → (ℕ → List C) → (C → Face) → Scene C
scene_from known at seen face = record { known = known; cards_at = at; known_at = seen; face = face }

module _ {C D : Type 0} (known : Known) (at seen_at : ℕ → List C) (at' seen_at' : ℕ → List D) (face' : D → Face) (f : C → D) where
  abbrev s : Scene C
  s = scene_from known at seen_at (λ c. face' (f c))

  abbrev t : Scene D
  t = scene_from known at' seen_at' face'

  abbrev g : Bind C → Bind D
  g = bind_map f

  -- one variable more
  more_vars : (vars : List (Bind C)) (vars' : List (Bind D)) → vars' ≡ map g vars → (m : Bind C) → vars' ++ g m ∷ [] ≡ map g (vars ++ m ∷ [])
  more_vars vars vars' e m = ap (λ vs. vs ++ g m ∷ []) e ∙ sym (map-append g vars (m ∷ []))

  var_same : (vars : List (Bind C)) (vars' : List (Bind D)) → vars' ≡ map g vars → (k : ℕ) → slice_get vars' k ≡ option_map g (slice_get vars k)
  var_same vars vars' e k = ap (λ vs. slice_get vs k) e ∙ slice_get-map g vars k

  player_same : (vars : List (Bind C)) (vars' : List (Bind D)) → vars' ≡ map g vars → (k : ℕ) → player_of (slice_get vars' k) ≡ player_of (slice_get vars k)
  player_same vars vars' e k = ap player_of (var_same vars vars' e k) ∙ player_map f (slice_get vars k)

  who_same : (vars : List (Bind C)) (vars' : List (Bind D)) → vars' ≡ map g vars → (who : Who) → who_value known vars' who ≡ who_value known vars who
  who_same vars vars' e game = refl
  who_same vars vars' e current_player = refl
  who_same vars vars' e current_team = refl
  who_same vars vars' e team_of_current = refl
  who_same vars vars' e (team_of_var k) = ap (team_at known.shape) (player_same vars vars' e k)
  who_same vars vars' e (who_var k) = player_same vars vars' e k

  place_same : (vars : List (Bind C)) (vars' : List (Bind D)) → vars' ≡ map g vars → (loc : Loc) → loc_place known vars' loc ≡ loc_place known vars loc
  place_same vars vars' e loc = ap (λ o. place_among known.sheet (class_of loc.who) (map (λ l. l.class) known.sheet.locs) loc.name o) (who_same vars vars' e loc.who)

  num_same : (vars : List (Bind C)) (vars' : List (Bind D)) → vars' ≡ map g vars → (num : Num) → num_place known vars' num ≡ num_place known vars num
  num_same vars vars' e num = ap (λ o. place_among known.sheet (class_of num.who) (map (λ n. n.class) known.sheet.nums) num.name o) (who_same vars vars' e num.who)

  -- the parts of a card's value
  face_map : (o : Option C) → option_map face' (option_map f o) ≡ option_map (λ c. face' (f c)) o
  face_map None = refl
  face_map (Some c) = refl

  attr_map : (attr : ℕ) (o : Option C) → attr_of_any t attr (option_map f o) ≡ attr_of_any s attr o
  attr_map attr None = refl
  attr_map attr (Some c) = refl

  worth_map : (points : ℕ) (o : Option C) → worth_of_any t points (option_map f o) ≡ worth_of_any s points o
  worth_map points None = refl
  worth_map points (Some c) = refl

  sum_map : (points : ℕ) (xs : List C) → sum_worth t points (map f xs) ≡ sum_worth s points xs
  sum_map points xs = ap (λ ws. clamped (fold ◌+ℤ◌ (pos 0) ws)) (map_twice f (worth t points) xs)

  by_map : (attr : ℕ) (xs : List C) (values : List ℕ) →
      map (λ value. filter (λ c. both nat_same (attr_of t attr c) (Some value)) (map f xs)) values
      ≡ map (map f) (map (λ value. filter (λ c. both nat_same (attr_of s attr c) (Some value)) xs) values)
  by_map attr xs [] = refl
  by_map attr xs (value ∷ values) =
      ap₂ ◌∷◌
      (filter_same f (λ c. both nat_same (attr_of s attr c) (Some value)) (λ c. both nat_same (attr_of t attr c) (Some value)) (λ c. refl) xs)
      (by_map attr xs values)

  groups_map : (attr : ℕ) (xs : List C) → groups_by t attr (map f xs) ≡ map (map f) (groups_by s attr xs)
  groups_map attr xs =
      ap (λ values. map (λ value. filter (λ c. both nat_same (attr_of t attr c) (Some value)) (map f xs)) (firsts values)) (filter_map_map f (attr_of t attr) xs)
      ∙ by_map attr xs (firsts (filter_map (attr_of s attr) xs))

  -- the domains' members
  players_map : (ns : List ℕ) → map (λ n. player_bound n) ns ≡ map g (map (λ n. player_bound n) ns)
  players_map [] = refl
  players_map (n ∷ ns) = ap (λ ms. player_bound n ∷ ms) (players_map ns)

  cards_map : (xs : List C) → map (λ c. card_bound c) (map f xs) ≡ map g (map (λ c. card_bound c) xs)
  cards_map [] = refl
  cards_map (x ∷ xs) = ap (λ ms. card_bound (f x) ∷ ms) (cards_map xs)

  groups_bound_map : (xss : List (List C)) → map (λ c. group_bound c) (map (map f) xss) ≡ map g (map (λ c. group_bound c) xss)
  groups_bound_map [] = refl
  groups_bound_map (xs ∷ xss) = ap (λ ms. group_bound (map f xs) ∷ ms) (groups_bound_map xss)

  module _ (Ok : Loc → Type 0)
      (seen : (loc : Loc) (vars : List (Bind C)) → Ok loc → cards_there t (loc_place known vars loc) ≡ map f (cards_there s (loc_place known vars loc)))
      (lengths : (place : Option ℕ) → length (cards_there t place) ≡ length (cards_there s place))
      (knows : (place : Option ℕ) → known_there t place ≡ map f (known_there s place)) where
    abbrev Oks : List Loc → Type 0
    Oks locs = AllByRecursion Ok locs

    size_same : (xs : List C) (ys : List D) → ys ≡ map f xs → pos (length ys) ≡ pos (length xs)
    size_same xs ys e = ap (λ n. pos n) (ap length e ∙ length-map xs f)

    mutual
      pub card_same : (vars : List (Bind C)) (vars' : List (Bind D)) → vars' ≡ map g vars → (e : CardExpr) → Oks (locs_in_card e) →
          card_value t vars' e ≡ option_map f (card_value s vars e)
      card_same vars vars' v (card_var k) ok = ap card_of (var_same vars vars' v k) ∙ card_map f (slice_get vars k)
      card_same vars vars' v (top_card cards) ok = ap last_of (coll_same vars vars' v cards ok) ∙ last_map f (coll_value s vars cards)
      card_same vars vars' v (bottom_card cards) ok = ap first_of (coll_same vars vars' v cards ok) ∙ first_map f (coll_value s vars cards)
      card_same vars vars' v (max_card cards points) ok =
          ap (best_of int_more (worth t points)) (coll_same vars vars' v cards ok) ∙ best_map f int_more (worth t points) (coll_value s vars cards)
      card_same vars vars' v (min_card cards points) ok =
          ap (best_of int_lt (worth t points)) (coll_same vars vars' v cards ok) ∙ best_map f int_lt (worth t points) (coll_value s vars cards)

      pub coll_same : (vars : List (Bind C)) (vars' : List (Bind D)) → vars' ≡ map g vars → (e : CollExpr) → Oks (locs_in_coll e) →
          coll_value t vars' e ≡ map f (coll_value s vars e)
      coll_same vars vars' v (group_var k) ok =
          ap (λ o. cut (group_of o)) (var_same vars vars' v k) ∙ ap cut (group_map f (slice_get vars k)) ∙ take-map f 512 (group_of (slice_get vars k))
      coll_same vars vars' v (cards_in loc) ok =
          ap (λ p. cut (cards_there t p)) (place_same vars vars' v loc) ∙ ap cut (seen loc vars ok.0)
          ∙ take-map f 512 (cards_there s (loc_place known vars loc))
      coll_same vars vars' v (filtered cards bound u) ok =
          let h = parts_of_append Ok (locs_in_coll cards) (locs_in_test u) ok in
          ap (filter (λ c. test_value t (vars' ++ card_bound c ∷ []) u)) (coll_same vars vars' v cards h.0)
          ∙ filter_same f (λ c. test_value s (vars ++ card_bound c ∷ []) u) (λ c. test_value t (vars' ++ card_bound c ∷ []) u)
          (λ c. test_same (vars ++ card_bound c ∷ []) (vars' ++ card_bound (f c) ∷ []) (more_vars vars vars' v (card_bound c)) u h.1)
          (coll_value s vars cards)
      coll_same vars vars' v (union_of parts) ok =
          ap cut (colls_same vars vars' v parts ok) ∙ take-map f 512 (colls_value s vars parts)
      coll_same vars vars' v (known_in loc) ok =
          ap (λ p. cut (known_there t p)) (place_same vars vars' v loc) ∙ ap cut (knows (loc_place known vars loc))
          ∙ take-map f 512 (known_there s (loc_place known vars loc))

      pub colls_same : (vars : List (Bind C)) (vars' : List (Bind D)) → vars' ≡ map g vars → (e : CollExprs) → Oks (locs_in_colls e) →
          colls_value t vars' e ≡ map f (colls_value s vars e)
      colls_same vars vars' v no_coll ok = refl
      colls_same vars vars' v (coll cards parts) ok =
          let h = parts_of_append Ok (locs_in_coll cards) (locs_in_colls parts) ok in
          ap₂ ◌++◌ (coll_same vars vars' v cards h.0) (colls_same vars vars' v parts h.1)
          ∙ sym (map-append f (coll_value s vars cards) (colls_value s vars parts))

      pub int_same : (vars : List (Bind C)) (vars' : List (Bind D)) → vars' ≡ map g vars → (e : IntExpr) → Oks (locs_in_int e) →
          int_value t vars' e ≡ int_value s vars e
      int_same vars vars' v (literal value) ok = refl
      int_same vars vars' v (number num) ok = ap (number_there known.numbers) (num_same vars vars' v num)
      int_same vars vars' v (size_of (cards_in loc)) ok =
          ap (λ p. pos (length (cut (cards_there t p)))) (place_same vars vars' v loc)
          ∙ ap (λ n. pos n) (length-take 512 (cards_there t (loc_place known vars loc)) ∙ ap (min 512) (lengths (loc_place known vars loc))
          ∙ sym (length-take 512 (cards_there s (loc_place known vars loc))))
      int_same vars vars' v (size_of (group_var k)) ok = size_same _ _ (coll_same vars vars' v (group_var k) ok)
      int_same vars vars' v (size_of (filtered cards bound u)) ok = size_same _ _ (coll_same vars vars' v (filtered cards bound u) ok)
      int_same vars vars' v (size_of (union_of parts)) ok = size_same _ _ (coll_same vars vars' v (union_of parts) ok)
      int_same vars vars' v (size_of (known_in loc)) ok = size_same _ _ (coll_same vars vars' v (known_in loc) ok)
      int_same vars vars' v (sum_of cards points) ok =
          ap (sum_worth t points) (coll_same vars vars' v cards ok) ∙ sum_map points (coll_value s vars cards)
      int_same vars vars' v (worth_of card points) ok =
          ap (worth_of_any t points) (card_same vars vars' v card ok) ∙ worth_map points (card_value s vars card)
      int_same vars vars' v (add a b) ok =
          let h = parts_of_append Ok (locs_in_int a) (locs_in_int b) ok in
          ap₂ (λ x y. clamped (x +ℤ y)) (int_same vars vars' v a h.0) (int_same vars vars' v b h.1)
      int_same vars vars' v (subtract a b) ok =
          let h = parts_of_append Ok (locs_in_int a) (locs_in_int b) ok in
          ap₂ (λ x y. clamped (x -ℤ y)) (int_same vars vars' v a h.0) (int_same vars vars' v b h.1)
      int_same vars vars' v (multiply a b) ok =
          let h = parts_of_append Ok (locs_in_int a) (locs_in_int b) ok in
          ap₂ (λ x y. clamped (x *ℤ y)) (int_same vars vars' v a h.0) (int_same vars vars' v b h.1)

      pub test_same : (vars : List (Bind C)) (vars' : List (Bind D)) → vars' ≡ map g vars → (e : Test) → Oks (locs_in_test e) →
          test_value t vars' e ≡ test_value s vars e
      test_same vars vars' v (eq_int a b) ok =
          let h = parts_of_append Ok (locs_in_int a) (locs_in_int b) ok in ap₂ int_eq (int_same vars vars' v a h.0) (int_same vars vars' v b h.1)
      test_same vars vars' v (eq_card a b) ok =
          let h = parts_of_append Ok (locs_in_card a) (locs_in_card b) ok in
          ap₂ (both face_eq)
          (ap (option_map face') (card_same vars vars' v a h.0) ∙ face_map (card_value s vars a))
          (ap (option_map face') (card_same vars vars' v b h.1) ∙ face_map (card_value s vars b))
      test_same vars vars' v (eq_attr a attr b attr') ok =
          let h = parts_of_append Ok (locs_in_card a) (locs_in_card b) ok in
          ap₂ (both nat_same)
          (ap (attr_of_any t attr) (card_same vars vars' v a h.0) ∙ attr_map attr (card_value s vars a))
          (ap (attr_of_any t attr') (card_same vars vars' v b h.1) ∙ attr_map attr' (card_value s vars b))
      test_same vars vars' v (eq_who who who') ok = ap₂ nat_same (who_same vars vars' v who) (who_same vars vars' v who')
      test_same vars vars' v (ne u) ok = ap not (test_same vars vars' v u ok)
      test_same vars vars' v (less a b) ok =
          let h = parts_of_append Ok (locs_in_int a) (locs_in_int b) ok in ap₂ int_lt (int_same vars vars' v a h.0) (int_same vars vars' v b h.1)
      test_same vars vars' v (less_eq a b) ok =
          let h = parts_of_append Ok (locs_in_int a) (locs_in_int b) ok in ap₂ int_le (int_same vars vars' v a h.0) (int_same vars vars' v b h.1)
      test_same vars vars' v (more a b) ok =
          let h = parts_of_append Ok (locs_in_int a) (locs_in_int b) ok in ap₂ (λ x y. int_lt y x) (int_same vars vars' v a h.0) (int_same vars vars' v b h.1)
      test_same vars vars' v (more_eq a b) ok =
          let h = parts_of_append Ok (locs_in_int a) (locs_in_int b) ok in ap₂ (λ x y. int_le y x) (int_same vars vars' v a h.0) (int_same vars vars' v b h.1)
      test_same vars vars' v (has_value card attr value) ok =
          ap (λ o. both nat_same o (Some value))
          (ap (attr_of_any t attr) (card_same vars vars' v card ok) ∙ attr_map attr (card_value s vars card))
      test_same vars vars' v (and_of tests) ok = ap (list_all (λ b. b)) (tests_same vars vars' v tests ok)
      test_same vars vars' v (or_of tests) ok = ap (list_any (λ b. b)) (tests_same vars vars' v tests ok)
      test_same vars vars' v (not_of u) ok = ap not (test_same vars vars' v u ok)
      test_same vars vars' v (all_of domain bound u) ok =
          let h = parts_of_append Ok (locs_in_domain domain) (locs_in_test u) ok in
          ap (list_all (λ m. test_value t (vars' ++ m ∷ []) u)) (members_same vars vars' v domain h.0)
          ∙ all_same g (λ m. test_value s (vars ++ m ∷ []) u) (λ m. test_value t (vars' ++ m ∷ []) u)
          (λ m. test_same (vars ++ m ∷ []) (vars' ++ g m ∷ []) (more_vars vars vars' v m) u h.1) (members s vars domain)
      test_same vars vars' v (any_of domain bound u) ok =
          let h = parts_of_append Ok (locs_in_domain domain) (locs_in_test u) ok in
          ap (list_any (λ m. test_value t (vars' ++ m ∷ []) u)) (members_same vars vars' v domain h.0)
          ∙ any_same g (λ m. test_value s (vars ++ m ∷ []) u) (λ m. test_value t (vars' ++ m ∷ []) u)
          (λ m. test_same (vars ++ m ∷ []) (vars' ++ g m ∷ []) (more_vars vars vars' v m) u h.1) (members s vars domain)

      pub tests_same : (vars : List (Bind C)) (vars' : List (Bind D)) → vars' ≡ map g vars → (e : Tests) → Oks (locs_in_tests e) →
          tests_value t vars' e ≡ tests_value s vars e
      tests_same vars vars' v no_test ok = refl
      tests_same vars vars' v (test u tests) ok =
          let h = parts_of_append Ok (locs_in_test u) (locs_in_tests tests) ok in
          ap₂ ◌∷◌ (test_same vars vars' v u h.0) (tests_same vars vars' v tests h.1)

      pub members_same : (vars : List (Bind C)) (vars' : List (Bind D)) → vars' ≡ map g vars → (e : Domain) → Oks (locs_in_domain e) →
          members t vars' e ≡ map g (members s vars e)
      members_same vars vars' v each_player ok = players_map (below known.sheet.players)
      members_same vars vars' v (each_card cards) ok =
          ap (map (λ c. card_bound c)) (coll_same vars vars' v cards ok) ∙ cards_map (coll_value s vars cards)
      members_same vars vars' v (each_group cards attr) ok =
          ap (λ xs. map (λ c. group_bound c) (groups_by t attr xs)) (coll_same vars vars' v cards ok)
          ∙ ap (map (λ c. group_bound c)) (groups_map attr (coll_value s vars cards))
          ∙ groups_bound_map (groups_by s attr (coll_value s vars cards))

    -- and so are the items that an alternative gives
    pub spots_same : (vars : List (Bind C)) (vars' : List (Bind D)) → vars' ≡ map g vars → (e : Alt) → Oks (locs_in_alt e) →
        spots_of t vars' e ≡ spots_of s vars e
    spots_same vars vars' v (do_alt effects) ok = refl
    spots_same vars vars' v (if_alt guard effects) ok = ap (λ b. if b then [] ∷ [] else []) (test_same vars vars' v guard ok)
    spots_same vars vars' v (any_alt domain bound alt) ok =
        let h = parts_of_append Ok (locs_in_domain domain) (locs_in_alt alt) ok in
        ap (from_each (λ m. spots_of t (vars' ++ m ∷ []) alt) 0) (members_same vars vars' v domain h.0)
        ∙ from_each_same g (λ m. spots_of s (vars ++ m ∷ []) alt) (λ m. spots_of t (vars' ++ m ∷ []) alt)
        (λ m. spots_same (vars ++ m ∷ []) (vars' ++ g m ∷ []) (more_vars vars vars' v m) alt h.1) 0 (members s vars domain)
