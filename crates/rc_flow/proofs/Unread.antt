-- What an expression is worth doesn't hang on a variable that it doesn't read.
use Rattle.std.proofs.Common.{◌≡◌, ℕ, zero, suc, ◌==◌, ◌||◌, not, Bool, true, false, List, [], ◌∷◌, ◌++◌, length, map, filter, slice_get, Some, option_map, pos, ◌+ℤ◌, ◌-ℤ◌, ◌*ℤ◌, int_lt, int_le, arith, refl, sym, ap, ap₂, ◌∙◌, append_assoc}
use Rattle.std.specs.List.{list_any, list_all}
use Rattle.std.specs.Ordering.{int_eq}
use Rattle.std.proofs.lemmas.Bool.Decides.{nat_tests}
use mathlib.Core.Path.{fun_ext}
use Rattle.rc_base.specs.Clamp.{clamped}
use Rattle.rc_sheet_spec.specs.Sheet.{Who, game, current_player, current_team, team_of_current, team_of_var, who_var, Loc, Num, CardExpr, card_var, top_card, bottom_card, max_card, min_card, CollExpr, group_var, cards_in, filtered, union_of, known_in, CollExprs, no_coll, coll, IntExpr, literal, number, size_of, sum_of, worth_of, add, subtract, multiply, Test, eq_int, eq_card, eq_attr, eq_who, ne, less, less_eq, more, more_eq, has_value, and_of, or_of, not_of, all_of, any_of, Tests, no_test, test, Domain, each_player, each_card, each_group}
use Rattle.rc_play_spec.specs.Shape.{face_eq, team_at}
use Rattle.rc_sheet_spec.specs.Naming.{class_of}
use Rattle.rc_play_spec.specs.Owners.{place_among}
use Rattle.rc_play_spec.specs.Ends.{first_of, last_of}
use Rattle.rc_play_spec.specs.Value.{Scene, Bind, card_bound, group_bound, cut, both, nat_same, best_of, int_more, player_of, card_of, group_of, who_value, loc_place, num_place, number_there, cards_there, known_there, worth, sum_worth, worth_of_any, attr_of_any, groups_by, card_value, coll_value, colls_value, int_value, test_value, tests_value, members}
use Rattle.rc_flow.specs.Reads.{reads_who, reads_card, reads_coll, reads_colls, reads_int, reads_test, reads_tests, reads_domain}

left : (a b : Bool) → (a || b) ≡ false → a ≡ false
left false b e = refl
left true b e = e

right : (a b : Bool) → (a || b) ≡ false → b ≡ false
right false b e = e
right true b e = absurd (cc)

pub other_place : (var k : ℕ) → (var == k) ≡ false → (var ≡ k → ⊥)
other_place var k e same = grind (arith, nat_tests)

-- what stands at other places
at_other : {B : Type 0} (outer inner : List B) (m m' : B) (var : ℕ) → (var ≡ length outer → ⊥) →
    slice_get (outer ++ m ∷ inner) var ≡ slice_get (outer ++ m' ∷ inner) var
at_other [] inner m m' zero e = absurd (e refl)
at_other [] inner m m' (suc var) e = refl
at_other (b ∷ outer) inner m m' zero e = refl
at_other (b ∷ outer) inner m m' (suc var) e = at_other outer inner m m' var (λ same. e (ap suc same))

module _ {C : Type 0} (scene : Scene C) (outer : List (Bind C)) (m m' : Bind C) where
  at_var : (inner : List (Bind C)) (var : ℕ) → (var == length outer) ≡ false →
      slice_get (outer ++ m ∷ inner) var ≡ slice_get (outer ++ m' ∷ inner) var
  at_var inner var e = at_other outer inner m m' var (other_place var (length outer) e)

  same_who : (inner : List (Bind C)) (who : Who) → reads_who (length outer) who ≡ false →
      who_value scene.known (outer ++ m ∷ inner) who ≡ who_value scene.known (outer ++ m' ∷ inner) who
  same_who inner game e = refl
  same_who inner current_player e = refl
  same_who inner current_team e = refl
  same_who inner team_of_current e = refl
  same_who inner (team_of_var var) e = ap (λ b. team_at scene.known.shape (player_of b)) (at_var inner var e)
  same_who inner (who_var var) e = ap player_of (at_var inner var e)

  same_loc : (inner : List (Bind C)) (loc : Loc) → reads_who (length outer) loc.who ≡ false →
      loc_place scene.known (outer ++ m ∷ inner) loc ≡ loc_place scene.known (outer ++ m' ∷ inner) loc
  same_loc inner loc e =
      ap (place_among scene.known.sheet (class_of loc.who) (map (λ l. l.class) scene.known.sheet.locs) loc.name) (same_who inner loc.who e)

  same_num : (inner : List (Bind C)) (num : Num) → reads_who (length outer) num.who ≡ false →
      num_place scene.known (outer ++ m ∷ inner) num ≡ num_place scene.known (outer ++ m' ∷ inner) num
  same_num inner num e =
      ap (place_among scene.known.sheet (class_of num.who) (map (λ n. n.class) scene.known.sheet.nums) num.name) (same_who inner num.who e)

  inside : (inner : List (Bind C)) (n x : Bind C) → (outer ++ n ∷ inner) ++ x ∷ [] ≡ outer ++ n ∷ (inner ++ x ∷ [])
  inside inner n x = append_assoc outer (n ∷ inner) (x ∷ [])

  mutual
    pub unread_card : (inner : List (Bind C)) (e : CardExpr) → reads_card (length outer) e ≡ false →
        card_value scene (outer ++ m ∷ inner) e ≡ card_value scene (outer ++ m' ∷ inner) e
    unread_card inner (card_var var) e = ap card_of (at_var inner var e)
    unread_card inner (top_card cards) e = ap last_of (same_coll inner cards e)
    unread_card inner (bottom_card cards) e = ap first_of (same_coll inner cards e)
    unread_card inner (max_card cards points) e = ap (best_of int_more (worth scene points)) (same_coll inner cards e)
    unread_card inner (min_card cards points) e = ap (best_of int_lt (worth scene points)) (same_coll inner cards e)

    same_coll : (inner : List (Bind C)) (e : CollExpr) → reads_coll (length outer) e ≡ false →
        coll_value scene (outer ++ m ∷ inner) e ≡ coll_value scene (outer ++ m' ∷ inner) e
    same_coll inner (group_var var) e = ap (λ b. cut (group_of b)) (at_var inner var e)
    same_coll inner (cards_in loc) e = ap (λ p. cut (cards_there scene p)) (same_loc inner loc e)
    same_coll inner (filtered cards bound t) e =
        let a = left (reads_coll (length outer) cards) (reads_test (length outer) t) e in
        let b = right (reads_coll (length outer) cards) (reads_test (length outer) t) e in
        ap (filter (λ c. test_value scene ((outer ++ m ∷ inner) ++ card_bound c ∷ []) t)) (same_coll inner cards a)
        ∙ ap (λ f. filter f (coll_value scene (outer ++ m' ∷ inner) cards)) (fun_ext (λ c. ap (λ vars. test_value scene vars t) (inside inner m (card_bound c)) ∙ unread_test (inner ++ (card_bound c) ∷ []) t b ∙ ap (λ vars. test_value scene vars t) (sym (inside inner m' (card_bound c)))))
    same_coll inner (union_of parts) e = ap cut (same_colls inner parts e)
    same_coll inner (known_in loc) e = ap (λ p. cut (known_there scene p)) (same_loc inner loc e)

    same_colls : (inner : List (Bind C)) (e : CollExprs) → reads_colls (length outer) e ≡ false →
        colls_value scene (outer ++ m ∷ inner) e ≡ colls_value scene (outer ++ m' ∷ inner) e
    same_colls inner no_coll e = refl
    same_colls inner (coll cards parts) e =
        ap₂ ◌++◌ (same_coll inner cards (left (reads_coll (length outer) cards) (reads_colls (length outer) parts) e))
        (same_colls inner parts (right (reads_coll (length outer) cards) (reads_colls (length outer) parts) e))

    same_int : (inner : List (Bind C)) (e : IntExpr) → reads_int (length outer) e ≡ false →
        int_value scene (outer ++ m ∷ inner) e ≡ int_value scene (outer ++ m' ∷ inner) e
    same_int inner (literal value) e = refl
    same_int inner (number num) e = ap (number_there scene.known.numbers) (same_num inner num e)
    same_int inner (size_of cards) e = ap (λ xs. pos (length xs)) (same_coll inner cards e)
    same_int inner (sum_of cards points) e = ap (sum_worth scene points) (same_coll inner cards e)
    same_int inner (worth_of card points) e = ap (worth_of_any scene points) (unread_card inner card e)
    same_int inner (add a b) e = ap₂ (λ x y. clamped (x +ℤ y)) (same_int inner a (left (reads_int (length outer) a) (reads_int (length outer) b) e)) (same_int inner b (right (reads_int (length outer) a) (reads_int (length outer) b) e))
    same_int inner (subtract a b) e = ap₂ (λ x y. clamped (x -ℤ y)) (same_int inner a (left (reads_int (length outer) a) (reads_int (length outer) b) e)) (same_int inner b (right (reads_int (length outer) a) (reads_int (length outer) b) e))
    same_int inner (multiply a b) e = ap₂ (λ x y. clamped (x *ℤ y)) (same_int inner a (left (reads_int (length outer) a) (reads_int (length outer) b) e)) (same_int inner b (right (reads_int (length outer) a) (reads_int (length outer) b) e))

    pub unread_test : (inner : List (Bind C)) (t : Test) → reads_test (length outer) t ≡ false →
        test_value scene (outer ++ m ∷ inner) t ≡ test_value scene (outer ++ m' ∷ inner) t
    unread_test inner (eq_int a b) e = ap₂ int_eq (same_int inner a (left (reads_int (length outer) a) (reads_int (length outer) b) e)) (same_int inner b (right (reads_int (length outer) a) (reads_int (length outer) b) e))
    unread_test inner (eq_card a b) e =
        ap₂ (λ x y. both face_eq (option_map scene.face x) (option_map scene.face y)) (unread_card inner a (left (reads_card (length outer) a) (reads_card (length outer) b) e)) (unread_card inner b (right (reads_card (length outer) a) (reads_card (length outer) b) e))
    unread_test inner (eq_attr a attr b attr') e =
        ap₂ (λ x y. both nat_same (attr_of_any scene attr x) (attr_of_any scene attr' y)) (unread_card inner a (left (reads_card (length outer) a) (reads_card (length outer) b) e)) (unread_card inner b (right (reads_card (length outer) a) (reads_card (length outer) b) e))
    unread_test inner (eq_who a b) e = ap₂ ◌==◌ (same_who inner a (left (reads_who (length outer) a) (reads_who (length outer) b) e)) (same_who inner b (right (reads_who (length outer) a) (reads_who (length outer) b) e))
    unread_test inner (ne t) e = ap not (unread_test inner t e)
    unread_test inner (less a b) e = ap₂ int_lt (same_int inner a (left (reads_int (length outer) a) (reads_int (length outer) b) e)) (same_int inner b (right (reads_int (length outer) a) (reads_int (length outer) b) e))
    unread_test inner (less_eq a b) e = ap₂ int_le (same_int inner a (left (reads_int (length outer) a) (reads_int (length outer) b) e)) (same_int inner b (right (reads_int (length outer) a) (reads_int (length outer) b) e))
    unread_test inner (more a b) e = ap₂ (λ x y. int_lt y x) (same_int inner a (left (reads_int (length outer) a) (reads_int (length outer) b) e)) (same_int inner b (right (reads_int (length outer) a) (reads_int (length outer) b) e))
    unread_test inner (more_eq a b) e = ap₂ (λ x y. int_le y x) (same_int inner a (left (reads_int (length outer) a) (reads_int (length outer) b) e)) (same_int inner b (right (reads_int (length outer) a) (reads_int (length outer) b) e))
    unread_test inner (has_value card attr value) e = ap (λ x. both nat_same (attr_of_any scene attr x) (Some value)) (unread_card inner card e)
    unread_test inner (and_of tests) e = ap (list_all (λ b. b)) (same_tests inner tests e)
    unread_test inner (or_of tests) e = ap (list_any (λ b. b)) (same_tests inner tests e)
    unread_test inner (not_of t) e = ap not (unread_test inner t e)
    unread_test inner (all_of domain bound t) e =
        let a = left (reads_domain (length outer) domain) (reads_test (length outer) t) e in
        let b = right (reads_domain (length outer) domain) (reads_test (length outer) t) e in
        ap (list_all (λ x. test_value scene ((outer ++ m ∷ inner) ++ x ∷ []) t)) (same_members inner domain a)
        ∙ ap (λ f. list_all f (members scene (outer ++ m' ∷ inner) domain)) (fun_ext (λ x. ap (λ vars. test_value scene vars t) (inside inner m x) ∙ unread_test (inner ++ x ∷ []) t b ∙ ap (λ vars. test_value scene vars t) (sym (inside inner m' x))))
    unread_test inner (any_of domain bound t) e =
        let a = left (reads_domain (length outer) domain) (reads_test (length outer) t) e in
        let b = right (reads_domain (length outer) domain) (reads_test (length outer) t) e in
        ap (list_any (λ x. test_value scene ((outer ++ m ∷ inner) ++ x ∷ []) t)) (same_members inner domain a)
        ∙ ap (λ f. list_any f (members scene (outer ++ m' ∷ inner) domain)) (fun_ext (λ x. ap (λ vars. test_value scene vars t) (inside inner m x) ∙ unread_test (inner ++ x ∷ []) t b ∙ ap (λ vars. test_value scene vars t) (sym (inside inner m' x))))

    same_tests : (inner : List (Bind C)) (e : Tests) → reads_tests (length outer) e ≡ false →
        tests_value scene (outer ++ m ∷ inner) e ≡ tests_value scene (outer ++ m' ∷ inner) e
    same_tests inner no_test e = refl
    same_tests inner (test t tests) e =
        ap₂ (λ x xs. x ∷ xs) (unread_test inner t (left (reads_test (length outer) t) (reads_tests (length outer) tests) e))
        (same_tests inner tests (right (reads_test (length outer) t) (reads_tests (length outer) tests) e))

    same_members : (inner : List (Bind C)) (domain : Domain) → reads_domain (length outer) domain ≡ false →
        members scene (outer ++ m ∷ inner) domain ≡ members scene (outer ++ m' ∷ inner) domain
    same_members inner each_player e = refl
    same_members inner (each_card cards) e = ap (map (λ c. card_bound c)) (same_coll inner cards e)
    same_members inner (each_group cards attr) e =
        ap (λ xs. map (λ g. group_bound g) (groups_by scene attr xs)) (same_coll inner cards e)
