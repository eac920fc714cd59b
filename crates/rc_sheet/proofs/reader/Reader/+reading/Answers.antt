use Rattle.std.proofs.Common.{◌+◌, ◌-◌, ℕ, Box, length, take, drop, refl, sym, ap, ◌∙◌, arith}
use Rattle.std.specs.Global.{Global}
use Rattle.rc_form.specs.Form.{tree_of}
use Rattle.rc_ast.specs.declared.expressions.CardExpr.{CardExpr}
use Rattle.rc_ast.specs.declared.expressions.CollExpr.{CollExpr}
use Rattle.rc_ast.specs.declared.expressions.IntExpr.{IntExpr}
use Rattle.rc_ast.specs.declared.expressions.Test.{Test}
use Rattle.rc_ast.specs.Expressions.{card_seen, coll_seen, int_seen, test_seen, domain_seen}
use Rattle.rc_sheet_spec.specs.Sheet.{Sort, coll, test}
use Rattle.rc_sheet_spec.specs.Lists.{colls_from, tests_from}
use Rattle.rc_check.specs.declared.grammar.Symbol.TheVariants as symbol
use Rattle.rc_sheet.specs.ReadExpressions.{card_at, card_rule, coll_at, coll_rule, colls_at, int_at, int_rule, side_at, test_at, test_rule, tests_at}
use Rattle.rc_sheet.specs.ReadParts as behind
use Rattle.rc_sheet.specs.ReadParts.{card_and_attr, card_and_map, card_form, coll_and_map, coll_form, colls_behind, equality, filter_parts, int_form, is_parts, one_coll, side_form, test_form, tests_behind, two_ints}
use Rattle.rc_sheet.specs.Sides.{side_seen}
use Rattle.rc_sheet.proofs.Forms.{card_forms, coll_forms, int_forms, side_rule, side_forms, test_forms}
use Rattle.rc_sheet.proofs.InTurn.{so_far, goes_on, is_done}
use Rattle.rc_sheet.proofs.Lists.{list_gives, parts_fall, gives_same, gives_parts, two_parts, three_parts, four_parts, behind_head}
use Rattle.rc_sheet.proofs.MadeLemmas.{box_gives, both_gives, bound_gives}
use Rattle.rc_sheet.proofs.reader.Reader.+reading.Goals as goal

-- the parts of a list are less deep than the list, and as many as its form has
pub card-card_list-requires : goal.card-card_list-requires
card-card_list-requires t c =
    let falls = parts_fall c.args.form.now c.in-List.items c.in-List.span c.as_slice-parts.result.now c.in-List.is
    c.as_slice-parts.ensures.value in
    (omega arith, c.in_ok-rule-in-List.ensures.sized)

pub collection-collection_form-requires : goal.collection-collection_form-requires
collection-collection_form-requires t c =
    let falls = parts_fall c.args.form.now c.in-List.items c.in-List.span c.as_slice-parts.result.now c.in-List.is
    c.as_slice-parts.ensures.value in
    (omega arith, c.in_ok-rule-in-List.ensures.sized)

pub integer-integer_list-requires : goal.integer-integer_list-requires
integer-integer_list-requires t c =
    let falls = parts_fall c.args.form.now c.in-List.items c.in-List.span c.as_slice-parts.result.now c.in-List.is
    c.as_slice-parts.ensures.value in
    (omega arith, c.in_ok-rule-in-List.ensures.sized)

pub test-test_list-requires : goal.test-test_list-requires
test-test_list-requires t c =
    let falls = parts_fall c.args.form.now c.in-List.items c.in-List.span c.as_slice-parts.result.now c.in-List.is
    c.as_slice-parts.ensures.value in
    (omega arith, c.in_ok-rule-in-List.ensures.sized)

pub side-side_list-requires : goal.side-side_list-requires
side-side_list-requires t c =
    let falls = parts_fall c.args.form.now c.in-List.items c.in-List.span c.as_slice-parts.result.now c.in-List.is
    c.as_slice-parts.ensures.value in
    (omega arith, c.in_ok-rule-in-List.ensures.sized)

-- what a list's form says is what the list says
pub card-returns-in_ok-rule-in-List : goal.card-returns-in_ok-rule-in-List
card-returns-in_ok-rule-in-List t c =
    let naming = c.args.self.now in
    let scope = c.args.scope.now in
    list_gives card_seen (card_at naming scope) symbol.Card (λ from. card_rule naming scope) (λ from. card_form naming scope)
    (λ parts from to. refl) (λ from. card_forms naming scope) c.args.form.now c.in-List.items c.in-List.span
    c.in_ok-rule-in-List.rule c.as_slice-parts.result.now c.card_list.result c.in-List.is
    c.as_slice-parts.ensures.trees c.in_ok-rule-in-List.ensures.given c.card_list.ensures

pub collection-returns-in_ok-rule-in-List : goal.collection-returns-in_ok-rule-in-List
collection-returns-in_ok-rule-in-List t c =
    let naming = c.args.self.now in
    let scope = c.args.scope.now in
    list_gives coll_seen (coll_at naming scope) symbol.Collection (coll_rule naming scope) (coll_form naming scope)
    (λ parts from to. refl) (coll_forms naming scope) c.args.form.now c.in-List.items c.in-List.span
    c.in_ok-rule-in-List.rule c.as_slice-parts.result.now c.collection_form.result c.in-List.is
    c.as_slice-parts.ensures.trees c.in_ok-rule-in-List.ensures.given c.collection_form.ensures

pub integer-returns-in_ok-rule-in-List : goal.integer-returns-in_ok-rule-in-List
integer-returns-in_ok-rule-in-List t c =
    let naming = c.args.self.now in
    let scope = c.args.scope.now in
    list_gives int_seen (int_at naming scope) symbol.Integer (λ from. int_rule naming scope) (λ from. int_form naming scope)
    (λ parts from to. refl) (λ from. int_forms naming scope) c.args.form.now c.in-List.items c.in-List.span
    c.in_ok-rule-in-List.rule c.as_slice-parts.result.now c.integer_list.result c.in-List.is
    c.as_slice-parts.ensures.trees c.in_ok-rule-in-List.ensures.given c.integer_list.ensures

pub test-returns-in_ok-rule-in-List : goal.test-returns-in_ok-rule-in-List
test-returns-in_ok-rule-in-List t c =
    let naming = c.args.self.now in
    let scope = c.args.scope.now in
    list_gives test_seen (test_at naming scope) symbol.Test (λ from. test_rule naming scope) (λ from. test_form naming scope)
    (λ parts from to. refl) (λ from. test_forms naming scope) c.args.form.now c.in-List.items c.in-List.span
    c.in_ok-rule-in-List.rule c.as_slice-parts.result.now c.test_list.result c.in-List.is
    c.as_slice-parts.ensures.trees c.in_ok-rule-in-List.ensures.given c.test_list.ensures

pub side-returns-in_ok-rule-in-List : goal.side-returns-in_ok-rule-in-List
side-returns-in_ok-rule-in-List t c =
    let naming = c.args.self.now in
    let scope = c.args.scope.now in
    list_gives side_seen (side_at naming scope) symbol.Side (λ from. side_rule naming scope) (λ from. side_form naming scope)
    (λ parts from to. refl) (λ from. side_forms naming scope) c.args.form.now c.in-List.items c.in-List.span
    c.in_ok-rule-in-List.rule c.as_slice-parts.result.now c.side_list.result c.in-List.is
    c.as_slice-parts.ensures.trees c.in_ok-rule-in-List.ensures.given c.side_list.ensures

-- what is read, in a box
pub boxed_card-returns : goal.boxed_card-returns
boxed_card-returns t c =
    box_gives card_seen c.card-card.result c.box_read.result _ c.box_read.ensures c.card-card.ensures

pub boxed_collection-returns : goal.boxed_collection-returns
boxed_collection-returns t c =
    box_gives coll_seen c.collection-cards.result c.box_read.result _ c.box_read.ensures c.collection-cards.ensures

pub boxed_integer-returns : goal.boxed_integer-returns
boxed_integer-returns t c =
    box_gives int_seen c.integer-value.result c.box_read.result _ c.box_read.ensures c.integer-value.ensures

pub boxed_test-returns : goal.boxed_test-returns
boxed_test-returns t c =
    box_gives test_seen c.test-test.result c.box_read.result _ c.box_read.ensures c.test-test.ensures

-- a test in which a variable is bound
pub bound_test-returns-in-Ok : goal.bound_test-returns-in-Ok
bound_test-returns-in-Ok t c =
    bound_gives c.args.self.now c.args.scope.now c.in-Ok.inner (tree_of c.args.variable.now) c.args.sort (tree_of c.args.test.now)
    c.in-Ok.bound c.boxed_test-test.result c.both_read.result c.in-Ok.ensures.given c.in-Ok.ensures.inner
    c.boxed_test-test.ensures c.both_read.ensures

-- what is read off the parts of a list
pub card_and_map-returns : goal.card_and_map-returns
card_and_map-returns t c =
    let card = c.card-item in
    let keyword = c.keyword-item in
    let map = c.map-item in
    gives_parts (λ two. (card_seen two.0.value, two.1)) c.both_read.result (card_and_map c.args.self.now c.args.scope.now)
    (four_parts c.args.parts.now card.result keyword.result map.result (omega arith) (omega arith) card.is keyword.is map.is)
    (both_gives (λ (card : Box CardExpr Global). card_seen card.value) (λ (n : ℕ). n) c.boxed_card-card.result c.map-map.result
    c.both_read.result _ _ c.both_read.ensures c.boxed_card-card.ensures c.map-map.ensures)

pub card_and_attr-returns : goal.card_and_attr-returns
card_and_attr-returns t c =
    let card = c.card-item in
    let attr = c.attr-item in
    gives_parts (λ two. (card_seen two.0, two.1)) c.both_read.result (card_and_attr c.args.self.now c.args.scope.now)
    (three_parts c.args.parts.now card.result attr.result (omega arith) (omega arith) card.is attr.is)
    (both_gives card_seen (λ (n : ℕ). n) c.card-card.result c.attr-attr.result
    c.both_read.result _ _ c.both_read.ensures c.card-card.ensures c.attr-attr.ensures)

pub one_collection-returns : goal.one_collection-returns
one_collection-returns t c =
    gives_parts (λ cards. coll_seen cards.value) c.boxed_collection.result (one_coll c.args.self.now c.args.scope.now)
    (two_parts c.args.parts.now c.cards-item.result (omega arith) (omega arith) c.cards-item.is) c.boxed_collection.ensures

pub collection_and_map-returns : goal.collection_and_map-returns
collection_and_map-returns t c =
    let cards = c.cards-item in
    let keyword = c.keyword-item in
    let map = c.map-item in
    gives_parts (λ two. (coll_seen two.0.value, two.1)) c.both_read.result (coll_and_map c.args.self.now c.args.scope.now)
    (four_parts c.args.parts.now cards.result keyword.result map.result (omega arith) (omega arith) cards.is keyword.is map.is)
    (both_gives (λ (cards : Box CollExpr Global). coll_seen cards.value) (λ (n : ℕ). n) c.boxed_collection-cards.result
    c.map-map.result c.both_read.result _ _ c.both_read.ensures c.boxed_collection-cards.ensures c.map-map.ensures)

pub two_integers-returns : goal.two_integers-returns
two_integers-returns t c =
    let a = c.a-item in
    let b = c.b-item in
    let seen = λ (value : Box IntExpr Global). int_seen value.value in
    gives_parts (λ two. (int_seen two.0.value, int_seen two.1.value)) c.both_read.result
    (two_ints c.args.self.now c.args.scope.now)
    (three_parts c.args.parts.now a.result b.result (omega arith) (omega arith) a.is b.is)
    (both_gives seen seen c.boxed_integer-a.result c.boxed_integer-b.result
    c.both_read.result _ _ c.both_read.ensures c.boxed_integer-a.ensures c.boxed_integer-b.ensures)

pub equality-returns : goal.equality-returns
equality-returns t c =
    let a = c.a-item in
    let b = c.b-item in
    gives_parts test_seen c.equal_read.result (equality c.args.self.now c.args.scope.now)
    (three_parts c.args.parts.now a.result b.result (omega arith) (omega arith) a.is b.is)
    (c.equal_read.ensures _ (both_gives side_seen side_seen c.side-a.result c.side-b.result
    c.both_read.result _ _ c.both_read.ensures c.side-a.ensures c.side-b.ensures))

pub value_test-returns : goal.value_test-returns
value_test-returns t c =
    let card = c.card-item in
    let attr = c.attr-item in
    let value = c.value-item in
    gives_parts test_seen c.value_read.result (is_parts c.args.self.now c.args.scope.now)
    (four_parts c.args.parts.now card.result attr.result value.result (omega arith) (omega arith) card.is attr.is value.is)
    (c.value_read.ensures _ (both_gives (λ (card : Box CardExpr Global). card_seen card.value)
    (λ (two : ℕ × ℕ). (two.0, two.1)) c.boxed_card-card.result c.face-face.result
    c.both_read.result _ _ c.both_read.ensures c.boxed_card-card.ensures c.face-face.ensures))

pub one_test-returns : goal.one_test-returns
one_test-returns t c =
    gives_parts (λ test. test_seen test.value) c.boxed_test.result (behind.one_test c.args.self.now c.args.scope.now)
    (two_parts c.args.parts.now c.test-item.result (omega arith) (omega arith) c.test-item.is) c.boxed_test.ensures

pub filter-returns : goal.filter-returns
filter-returns t c =
    let cards = c.cards-item in
    let variable = c.variable-item in
    let test = c.test-item in
    gives_parts coll_seen c.filter_read.result (filter_parts c.args.self.now c.args.scope.now)
    (four_parts c.args.parts.now cards.result variable.result test.result (omega arith) (omega arith) cards.is variable.is test.is)
    (c.filter_read.ensures _ (both_gives (λ (cards : Box CollExpr Global). coll_seen cards.value)
    (λ (two : ℕ × Box Test Global). (two.0, test_seen two.1.value)) c.boxed_collection-cards.result c.bound_test-passes.result
    c.both_read.result _ _ c.both_read.ensures c.boxed_collection-cards.ensures c.bound_test-passes.ensures))

pub quantified_test-returns : goal.quantified_test-returns
quantified_test-returns t c =
    let naming = c.args.self.now in
    let scope = c.args.scope.now in
    let range = c.range-item in
    let variable = c.variable-item in
    let test = c.test-item in
    let bound = λ (sort : Sort). behind.bound_test naming scope (tree_of variable.result) sort (tree_of test.result) in
    gives_parts (λ found. (domain_seen found.0, (found.1.0, test_seen found.1.1.value))) c.both_read.result
    (behind.quantified naming scope)
    (four_parts c.args.parts.now range.result variable.result test.result (omega arith) (omega arith) range.is variable.is test.is)
    (both_gives domain_seen (λ (two : ℕ × Box Test Global). (two.0, test_seen two.1.value)) c.range-domain.result c.bound_test-holds.result c.both_read.result _ _
    c.both_read.ensures c.range-domain.ensures
    (gives_same (λ (two : ℕ × Box Test Global). (two.0, test_seen two.1.value)) c.bound_test-holds.result (bound c.range_sort.result) (bound (behind.range_sort (tree_of range.result)))
    (ap bound (sym c.range_sort.ensures)) c.bound_test-holds.ensures))

-- one part after the other
pub collections-loop-form-preserved : goal.collections-loop-form-preserved
collections-loop-form-preserved t c =
    let naming = c.args.self.now in
    let scope = c.args.scope.now in
    let forms = take (length c.args.parts.now - 1) (drop 1 c.args.parts.now) in
    ap (λ all. so_far coll_seen coll (colls_at naming scope) all forms (c.loop-form.form-index + 1)) c.in_ok-push.ensures.items
    ∙ goes_on coll_seen coll (coll_at naming scope) (colls_at naming scope) (λ tree trees. refl)
    c.loop-form.all.items forms c.loop-form.form-index c.form-item.result c.in_ok-collection.field-0 _
    (omega arith) c.form-item.is c.in_ok-collection.ensures c.loop-form.invariant

pub collections-returns : goal.collections-returns
collections-returns t c =
    let naming = c.args.self.now in
    let scope = c.args.scope.now in
    let parts = c.args.parts.now in
    let forms = take (length parts - 1) (drop 1 parts) in
    behind_head (colls_behind naming scope) (colls_at naming scope) (λ head parts. refl) parts (omega arith)
    ∙ is_done coll_seen coll colls_from (colls_at naming scope) (λ first later. refl) refl c.loop-form.all.items forms
    c.loop-form.form-index _ (omega arith) c.loop-form.invariant

pub tests-loop-form-preserved : goal.tests-loop-form-preserved
tests-loop-form-preserved t c =
    let naming = c.args.self.now in
    let scope = c.args.scope.now in
    let forms = take (length c.args.parts.now - 1) (drop 1 c.args.parts.now) in
    ap (λ all. so_far test_seen test (tests_at naming scope) all forms (c.loop-form.form-index + 1)) c.in_ok-push.ensures.items
    ∙ goes_on test_seen test (test_at naming scope) (tests_at naming scope) (λ tree trees. refl)
    c.loop-form.all.items forms c.loop-form.form-index c.form-item.result c.in_ok-test.field-0 _
    (omega arith) c.form-item.is c.in_ok-test.ensures c.loop-form.invariant

pub tests-returns : goal.tests-returns
tests-returns t c =
    let naming = c.args.self.now in
    let scope = c.args.scope.now in
    let parts = c.args.parts.now in
    let forms = take (length parts - 1) (drop 1 parts) in
    behind_head (tests_behind naming scope) (tests_at naming scope) (λ head parts. refl) parts (omega arith)
    ∙ is_done test_seen test tests_from (tests_at naming scope) (λ first later. refl) refl c.loop-form.all.items forms
    c.loop-form.form-index _ (omega arith) c.loop-form.invariant
