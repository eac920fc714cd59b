-- Whether an expression reads a variable, by the variable's place among those in scope. Binders inside an expression bind places
-- behind those in scope, so the place stays the same within them.
use Rattle.std.specs.Prelude.{ℕ, ◌==◌, ◌||◌, Bool, false}
use Rattle.rc_sheet_spec.specs.Sheet.{Who, game, current_player, current_team, team_of_current, team_of_var, who_var, CardExpr, card_var, top_card, bottom_card, max_card, min_card, CollExpr, group_var, cards_in, filtered, union_of, known_in, CollExprs, no_coll, coll, IntExpr, literal, number, size_of, sum_of, worth_of, add, subtract, multiply, Test, eq_int, eq_card, eq_attr, eq_who, ne, less, less_eq, more, more_eq, has_value, and_of, or_of, not_of, all_of, any_of, Tests, no_test, test, Domain, each_player, each_card, each_group}

abbrev pub reads_who : ℕ → Who → Bool
reads_who k game = false
reads_who k current_player = false
reads_who k current_team = false
reads_who k team_of_current = false
reads_who k (team_of_var var) = var == k
reads_who k (who_var var) = var == k

abbrev mutual
  pub reads_card : ℕ → CardExpr → Bool
  reads_card k (card_var var) = var == k
  reads_card k (top_card cards) = reads_coll k cards
  reads_card k (bottom_card cards) = reads_coll k cards
  reads_card k (max_card cards points) = reads_coll k cards
  reads_card k (min_card cards points) = reads_coll k cards

  pub reads_coll : ℕ → CollExpr → Bool
  reads_coll k (group_var var) = var == k
  reads_coll k (cards_in loc) = reads_who k loc.who
  reads_coll k (filtered cards bound t) = reads_coll k cards || reads_test k t
  reads_coll k (union_of parts) = reads_colls k parts
  reads_coll k (known_in loc) = reads_who k loc.who

  pub reads_colls : ℕ → CollExprs → Bool
  reads_colls k no_coll = false
  reads_colls k (coll cards parts) = reads_coll k cards || reads_colls k parts

  pub reads_int : ℕ → IntExpr → Bool
  reads_int k (literal value) = false
  reads_int k (number num) = reads_who k num.who
  reads_int k (size_of cards) = reads_coll k cards
  reads_int k (sum_of cards points) = reads_coll k cards
  reads_int k (worth_of card points) = reads_card k card
  reads_int k (add a b) = reads_int k a || reads_int k b
  reads_int k (subtract a b) = reads_int k a || reads_int k b
  reads_int k (multiply a b) = reads_int k a || reads_int k b

  pub reads_test : ℕ → Test → Bool
  reads_test k (eq_int a b) = reads_int k a || reads_int k b
  reads_test k (eq_card a b) = reads_card k a || reads_card k b
  reads_test k (eq_attr a attr b attr') = reads_card k a || reads_card k b
  reads_test k (eq_who who who') = reads_who k who || reads_who k who'
  reads_test k (ne t) = reads_test k t
  reads_test k (less a b) = reads_int k a || reads_int k b
  reads_test k (less_eq a b) = reads_int k a || reads_int k b
  reads_test k (more a b) = reads_int k a || reads_int k b
  reads_test k (more_eq a b) = reads_int k a || reads_int k b
  reads_test k (has_value card attr value) = reads_card k card
  reads_test k (and_of tests) = reads_tests k tests
  reads_test k (or_of tests) = reads_tests k tests
  reads_test k (not_of t) = reads_test k t
  reads_test k (all_of domain bound t) = reads_domain k domain || reads_test k t
  reads_test k (any_of domain bound t) = reads_domain k domain || reads_test k t

  pub reads_tests : ℕ → Tests → Bool
  reads_tests k no_test = false
  reads_tests k (test t tests) = reads_test k t || reads_tests k tests

  pub reads_domain : ℕ → Domain → Bool
  reads_domain k each_player = false
  reads_domain k (each_card cards) = reads_coll k cards
  reads_domain k (each_group cards attr) = reads_coll k cards
