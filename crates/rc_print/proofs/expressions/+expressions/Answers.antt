use Rattle.std.proofs.Common.{List, [], ◌∷◌, codes, refl, sym, ap, ap₂, ◌∙◌}
use Rattle.rc_base.specs.Tree.{Tree}
use Rattle.rc_sheet_spec.specs.Printing.{atom, keyword, row, named, binding, attr_form, card_form, coll_form, int_form, test_form, sides, domain_form}
use Rattle.rc_ast.specs.declared.expressions.IntExpr.{IntExpr}
use Rattle.rc_ast.specs.Expressions.{card_seen, coll_seen, int_seen, test_seen, domain_seen}
use Rattle.rc_print.specs.Printing.{naming_seen, bound_seen}
use Rattle.rc_print.proofs.Rows.{opened, with_part, with_parts, closed, printed_as, both, three}
use Rattle.rc_print.proofs.FormLemmas.{union_form, and_form, or_form}
use Rattle.rc_print.proofs.expressions.+expressions.Goals as goal

pub push_coll-returns-in-Union : goal.push_coll-returns-in-Union
push_coll-returns-in-Union t c =
    let sheet = c.args.sheet.now in
    printed_as _ _ c.push_union.result _ _ c.push_union.ensures
    (union_form (naming_seen sheet) (bound_seen sheet c.args.bound.now) c.args.cards.now c.in-Union.parts c.in-Union.is)

pub push_coll-returns-in-Known : goal.push_coll-returns-in-Known
push_coll-returns-in-Known t c =
    let sheet = c.args.sheet.now in
    printed_as _ _ c.push_known.result _ _ c.push_known.ensures
    (ap (λ x. coll_form (naming_seen sheet) (bound_seen sheet c.args.bound.now) (coll_seen x)) c.in-Known.is)

pub push_test-returns-in-And : goal.push_test-returns-in-And
push_test-returns-in-And t c =
    let sheet = c.args.sheet.now in
    printed_as _ _ c.push_tests.result _ _ c.push_tests.ensures
    (and_form (naming_seen sheet) (bound_seen sheet c.args.bound.now) c.args.test.now c.in-And.tests c.in-And.is)

pub push_test-returns-in-Or : goal.push_test-returns-in-Or
push_test-returns-in-Or t c =
    let sheet = c.args.sheet.now in
    printed_as _ _ c.push_tests-in-Or.result _ _ c.push_tests-in-Or.ensures
    (or_form (naming_seen sheet) (bound_seen sheet c.args.bound.now) c.args.test.now c.in-Or.tests c.in-Or.is)

pub push_card-returns-in-Top : goal.push_card-returns-in-Top
push_card-returns-in-Top t c =
    let sheet = c.args.sheet.now in
    let naming = naming_seen sheet in
    let bound = bound_seen sheet c.args.bound.now in
    printed_as _ _ c.push_of.result _ _ c.push_of.ensures
    (ap (λ x. card_form naming bound (card_seen x)) c.in-Top.is
    ∙ ap (λ x. row (keyword "top" ∷ coll_form naming bound (coll_seen x) ∷ [])) (sym c.deref.ensures))

pub push_card-returns-in-Bottom : goal.push_card-returns-in-Bottom
push_card-returns-in-Bottom t c =
    let sheet = c.args.sheet.now in
    let naming = naming_seen sheet in
    let bound = bound_seen sheet c.args.bound.now in
    printed_as _ _ c.push_of-in-Bottom.result _ _ c.push_of-in-Bottom.ensures
    (ap (λ x. card_form naming bound (card_seen x)) c.in-Bottom.is
    ∙ ap (λ x. row (keyword "bottom" ∷ coll_form naming bound (coll_seen x) ∷ [])) (sym c.deref-in-Bottom.ensures))

pub push_card-returns-in-Max : goal.push_card-returns-in-Max
push_card-returns-in-Max t c =
    let sheet = c.args.sheet.now in
    let naming = naming_seen sheet in
    let bound = bound_seen sheet c.args.bound.now in
    printed_as _ _ c.push_by_map.result _ _ c.push_by_map.ensures
    (ap (λ x. card_form naming bound (card_seen x)) c.in-Max.is
    ∙ ap (λ x. row (keyword "max" ∷ coll_form naming bound (coll_seen x)
    ∷ keyword "using" ∷ named sheet.names.maps.items c.in-Max.map ∷ [])) (sym c.deref-in-Max.ensures))

pub push_card-returns-in-Min : goal.push_card-returns-in-Min
push_card-returns-in-Min t c =
    let sheet = c.args.sheet.now in
    let naming = naming_seen sheet in
    let bound = bound_seen sheet c.args.bound.now in
    printed_as _ _ c.push_by_map-in-Min.result _ _ c.push_by_map-in-Min.ensures
    (ap (λ x. card_form naming bound (card_seen x)) c.in-Min.is
    ∙ ap (λ x. row (keyword "min" ∷ coll_form naming bound (coll_seen x)
    ∷ keyword "using" ∷ named sheet.names.maps.items c.in-Min.map ∷ [])) (sym c.deref-in-Min.ensures))

pub push_of-returns : goal.push_of-returns
push_of-returns t c =
    let sheet = c.args.sheet.now in
    let naming = naming_seen sheet in
    let bound = bound_seen sheet c.args.bound.now in
    let cards : Tree = coll_form naming bound (coll_seen c.args.cards.now) in
    let begun-0 = opened c.in_ok-open_part.ensures in
    let begun-1 = with_part cards begun-0 c.in_ok-push_coll.ensures in
    closed _ c.close.result (row (atom c.args.head.now ∷ cards ∷ [])) begun-1 c.close.ensures refl

pub push_by_map-returns : goal.push_by_map-returns
push_by_map-returns t c =
    let sheet = c.args.sheet.now in
    let naming = naming_seen sheet in
    let bound = bound_seen sheet c.args.bound.now in
    let cards : Tree = coll_form naming bound (coll_seen c.args.cards.now) in
    let points : List Tree = keyword "using" ∷ named sheet.names.maps.items c.args.map ∷ [] in
    let begun-0 = opened c.in_ok-open_part.ensures in
    let begun-1 = with_part cards begun-0 c.in_ok-push_coll.ensures in
    let begun-2 = with_parts points begun-1 c.in_ok-push_map.ensures in
    closed _ c.close.result (row (atom c.args.head.now ∷ cards ∷ points)) begun-2 c.close.ensures refl

pub push_int-returns-in-Size : goal.push_int-returns-in-Size
push_int-returns-in-Size t c =
    let sheet = c.args.sheet.now in
    let naming = naming_seen sheet in
    let bound = bound_seen sheet c.args.bound.now in
    printed_as _ _ c.push_of.result _ _ c.push_of.ensures
    (ap (λ x. int_form naming bound (int_seen x)) c.in-Size.is
    ∙ ap (λ x. row (keyword "size" ∷ coll_form naming bound (coll_seen x) ∷ [])) (sym c.deref.ensures))

pub push_int-returns-in-Sum : goal.push_int-returns-in-Sum
push_int-returns-in-Sum t c =
    let sheet = c.args.sheet.now in
    let naming = naming_seen sheet in
    let bound = bound_seen sheet c.args.bound.now in
    printed_as _ _ c.push_by_map.result _ _ c.push_by_map.ensures
    (ap (λ x. int_form naming bound (int_seen x)) c.in-Sum.is
    ∙ ap (λ x. row (keyword "sum" ∷ coll_form naming bound (coll_seen x)
    ∷ keyword "using" ∷ named sheet.names.maps.items c.in-Sum.map ∷ [])) (sym c.deref-in-Sum.ensures))

pub push_int-returns-in-Points : goal.push_int-returns-in-Points
push_int-returns-in-Points t c =
    let sheet = c.args.sheet.now in
    let naming = naming_seen sheet in
    let bound = bound_seen sheet c.args.bound.now in
    printed_as _ _ c.push_points.result _ _ c.push_points.ensures
    (ap (λ x. int_form naming bound (int_seen x)) c.in-Points.is
    ∙ ap (λ x. row (keyword "points" ∷ card_form naming bound (card_seen x)
    ∷ keyword "using" ∷ named sheet.names.maps.items c.in-Points.map ∷ [])) (sym c.deref-in-Points.ensures))

pub push_points-returns : goal.push_points-returns
push_points-returns t c =
    let sheet = c.args.sheet.now in
    let naming = naming_seen sheet in
    let bound = bound_seen sheet c.args.bound.now in
    let card : Tree = card_form naming bound (card_seen c.args.card.now) in
    let points : List Tree = keyword "using" ∷ named sheet.names.maps.items c.args.map ∷ [] in
    let begun-0 = opened c.in_ok-open_part.ensures in
    let begun-1 = with_part card begun-0 c.in_ok-push_card.ensures in
    let begun-2 = with_parts points begun-1 c.in_ok-push_map.ensures in
    closed _ c.close.result (row (keyword "points" ∷ card ∷ points)) begun-2 c.close.ensures refl

pub push_test-returns-in-Is : goal.push_test-returns-in-Is
push_test-returns-in-Is t c =
    let sheet = c.args.sheet.now in
    let naming = naming_seen sheet in
    let bound = bound_seen sheet c.args.bound.now in
    printed_as _ _ c.push_is.result _ _ c.push_is.ensures
    (ap (λ x. test_form naming bound (test_seen x)) c.in-Is.is
    ∙ ap (λ x. row (keyword "is" ∷ card_form naming bound (card_seen x)
    ∷ named sheet.names.attrs.items c.in-Is.attr ∷ named sheet.names.values.items c.in-Is.value ∷ []))
    (sym c.deref-in-Is.ensures))

pub push_test-returns-in-Not : goal.push_test-returns-in-Not
push_test-returns-in-Not t c =
    let sheet = c.args.sheet.now in
    let naming = naming_seen sheet in
    let bound = bound_seen sheet c.args.bound.now in
    printed_as _ _ c.push_not.result _ _ c.push_not.ensures
    (ap (λ x. test_form naming bound (test_seen x)) c.in-Not.is
    ∙ ap (λ x. row (keyword "not" ∷ test_form naming bound (test_seen x) ∷ [])) (sym c.deref-in-Not.ensures))

pub push_is-returns : goal.push_is-returns
push_is-returns t c =
    let sheet = c.args.sheet.now in
    let naming = naming_seen sheet in
    let bound = bound_seen sheet c.args.bound.now in
    let card : Tree = card_form naming bound (card_seen c.args.card.now) in
    let attr : Tree = named sheet.names.attrs.items c.args.attr in
    let value : Tree = named sheet.names.values.items c.args.value in
    let begun-0 = opened c.in_ok-open_part.ensures in
    let begun-1 = with_part card begun-0 c.in_ok-push_card.ensures in
    let begun-2 = with_part attr begun-1 c.in_ok-push_attr.ensures in
    let begun-3 = with_part value begun-2 c.in_ok-push_value.ensures in
    closed _ c.close.result (row (keyword "is" ∷ card ∷ attr ∷ value ∷ [])) begun-3 c.close.ensures refl

pub push_not-returns : goal.push_not-returns
push_not-returns t c =
    let sheet = c.args.sheet.now in
    let naming = naming_seen sheet in
    let bound = bound_seen sheet c.args.bound.now in
    let test : Tree = test_form naming bound (test_seen c.args.test.now) in
    let begun-0 = opened c.in_ok-open_part.ensures in
    let begun-1 = with_part test begun-0 c.in_ok-push_test.ensures in
    closed _ c.close.result (row (keyword "not" ∷ test ∷ [])) begun-1 c.close.ensures refl

pub push_sides-returns-in-EqWho : goal.push_sides-returns-in-EqWho
push_sides-returns-in-EqWho t c =
    let sheet = c.args.sheet.now in
    printed_as _ _ c.push_owners.result _ _ c.push_owners.ensures
    (ap (λ x. row (atom c.args.head.now ∷ sides (naming_seen sheet) (bound_seen sheet c.args.bound.now) (test_seen x))) c.in-EqWho.is)

pub push_attr_of-returns : goal.push_attr_of-returns
push_attr_of-returns t c =
    let sheet = c.args.sheet.now in
    let naming = naming_seen sheet in
    let bound = bound_seen sheet c.args.bound.now in
    let card : Tree = card_form naming bound (card_seen c.args.card.now) in
    let attr : Tree = named sheet.names.attrs.items c.args.attr in
    let begun-0 = opened c.in_ok-open_part.ensures in
    let begun-1 = with_part card begun-0 c.in_ok-push_card.ensures in
    let begun-2 = with_part attr begun-1 c.in_ok-push_attr.ensures in
    closed _ c.close.result (attr_form naming card c.args.attr) begun-2 c.close.ensures refl

pub push_domain-returns-in-Parts : goal.push_domain-returns-in-Parts
push_domain-returns-in-Parts t c =
    let sheet = c.args.sheet.now in
    printed_as _ _ c.push_parts.result _ _ c.push_parts.ensures
    (ap (λ x. domain_form (naming_seen sheet) (bound_seen sheet c.args.bound.now) (domain_seen x)) c.in-Parts.is)

pub push_parts-returns : goal.push_parts-returns
push_parts-returns t c =
    let sheet = c.args.sheet.now in
    let naming = naming_seen sheet in
    let bound = bound_seen sheet c.args.bound.now in
    let cards : Tree = coll_form naming bound (coll_seen c.args.cards.now) in
    let attr : Tree = named sheet.names.attrs.items c.args.attr in
    let begun-0 = opened c.in_ok-open_part.ensures in
    let begun-1 = with_part cards begun-0 c.in_ok-push_coll.ensures in
    let begun-2 = with_part attr begun-1 c.in_ok-push_attr.ensures in
    closed _ c.close.result (row (keyword "partition" ∷ cards ∷ attr ∷ [])) begun-2 c.close.ensures refl

pub push_int-returns-in_ok-open_with_int-in-Add : goal.push_int-returns-in_ok-open_with_int-in-Add
push_int-returns-in_ok-open_with_int-in-Add t c =
    let sheet = c.args.sheet.now in
    let naming = naming_seen sheet in
    let bound = bound_seen sheet c.args.bound.now in
    let first : IntExpr → Tree = λ x. int_form naming bound (int_seen x) in
    both c.args.out.now.bytes.items (codes "+")
    (first c.deref-in-Add.result.now) (first c.deref-in-Add-2.result.now) _ c.close_with_int.result _
    c.in_ok-open_with_int-in-Add.ensures
    c.close_with_int.ensures
    (ap (λ x. int_form naming bound (int_seen x)) c.in-Add.is
    ∙ ap₂ (λ x y. row (keyword "+" ∷ first x ∷ first y ∷ [])) (sym c.deref-in-Add.ensures) (sym c.deref-in-Add-2.ensures))

pub push_int-returns-in_ok-open_with_int-in-Sub : goal.push_int-returns-in_ok-open_with_int-in-Sub
push_int-returns-in_ok-open_with_int-in-Sub t c =
    let sheet = c.args.sheet.now in
    let naming = naming_seen sheet in
    let bound = bound_seen sheet c.args.bound.now in
    let first : IntExpr → Tree = λ x. int_form naming bound (int_seen x) in
    both c.args.out.now.bytes.items (codes "-")
    (first c.deref-in-Sub.result.now) (first c.deref-in-Sub-2.result.now) _ c.close_with_int-in-Sub.result _
    c.in_ok-open_with_int-in-Sub.ensures
    c.close_with_int-in-Sub.ensures
    (ap (λ x. int_form naming bound (int_seen x)) c.in-Sub.is
    ∙ ap₂ (λ x y. row (keyword "-" ∷ first x ∷ first y ∷ [])) (sym c.deref-in-Sub.ensures) (sym c.deref-in-Sub-2.ensures))

pub push_int-returns-in_ok-open_with_int-in-Mul : goal.push_int-returns-in_ok-open_with_int-in-Mul
push_int-returns-in_ok-open_with_int-in-Mul t c =
    let sheet = c.args.sheet.now in
    let naming = naming_seen sheet in
    let bound = bound_seen sheet c.args.bound.now in
    let first : IntExpr → Tree = λ x. int_form naming bound (int_seen x) in
    both c.args.out.now.bytes.items (codes "*")
    (first c.deref-in-Mul.result.now) (first c.deref-in-Mul-2.result.now) _ c.close_with_int-in-Mul.result _
    c.in_ok-open_with_int-in-Mul.ensures
    c.close_with_int-in-Mul.ensures
    (ap (λ x. int_form naming bound (int_seen x)) c.in-Mul.is
    ∙ ap₂ (λ x y. row (keyword "*" ∷ first x ∷ first y ∷ [])) (sym c.deref-in-Mul.ensures) (sym c.deref-in-Mul-2.ensures))

pub push_test-returns-in_ok-open_with_int-in-Less : goal.push_test-returns-in_ok-open_with_int-in-Less
push_test-returns-in_ok-open_with_int-in-Less t c =
    let sheet = c.args.sheet.now in
    let naming = naming_seen sheet in
    let bound = bound_seen sheet c.args.bound.now in
    let first : IntExpr → Tree = λ x. int_form naming bound (int_seen x) in
    both c.args.out.now.bytes.items (codes "<")
    (first c.deref-in-Less.result.now) (first c.deref-in-Less-2.result.now) _ c.close_with_int.result _
    c.in_ok-open_with_int-in-Less.ensures
    c.close_with_int.ensures
    (ap (λ x. test_form naming bound (test_seen x)) c.in-Less.is
    ∙ ap₂ (λ x y. row (keyword "<" ∷ first x ∷ first y ∷ [])) (sym c.deref-in-Less.ensures) (sym c.deref-in-Less-2.ensures))

pub push_test-returns-in_ok-open_with_int-in-LessEq : goal.push_test-returns-in_ok-open_with_int-in-LessEq
push_test-returns-in_ok-open_with_int-in-LessEq t c =
    let sheet = c.args.sheet.now in
    let naming = naming_seen sheet in
    let bound = bound_seen sheet c.args.bound.now in
    let first : IntExpr → Tree = λ x. int_form naming bound (int_seen x) in
    both c.args.out.now.bytes.items (codes "<=")
    (first c.deref-in-LessEq.result.now) (first c.deref-in-LessEq-2.result.now) _ c.close_with_int-in-LessEq.result _
    c.in_ok-open_with_int-in-LessEq.ensures
    c.close_with_int-in-LessEq.ensures
    (ap (λ x. test_form naming bound (test_seen x)) c.in-LessEq.is
    ∙ ap₂ (λ x y. row (keyword "<=" ∷ first x ∷ first y ∷ []))
    (sym c.deref-in-LessEq.ensures) (sym c.deref-in-LessEq-2.ensures))

pub push_test-returns-in_ok-open_with_int-in-More : goal.push_test-returns-in_ok-open_with_int-in-More
push_test-returns-in_ok-open_with_int-in-More t c =
    let sheet = c.args.sheet.now in
    let naming = naming_seen sheet in
    let bound = bound_seen sheet c.args.bound.now in
    let first : IntExpr → Tree = λ x. int_form naming bound (int_seen x) in
    both c.args.out.now.bytes.items (codes ">")
    (first c.deref-in-More.result.now) (first c.deref-in-More-2.result.now) _ c.close_with_int-in-More.result _
    c.in_ok-open_with_int-in-More.ensures
    c.close_with_int-in-More.ensures
    (ap (λ x. test_form naming bound (test_seen x)) c.in-More.is
    ∙ ap₂ (λ x y. row (keyword ">" ∷ first x ∷ first y ∷ [])) (sym c.deref-in-More.ensures) (sym c.deref-in-More-2.ensures))

pub push_test-returns-in_ok-open_with_int-in-MoreEq : goal.push_test-returns-in_ok-open_with_int-in-MoreEq
push_test-returns-in_ok-open_with_int-in-MoreEq t c =
    let sheet = c.args.sheet.now in
    let naming = naming_seen sheet in
    let bound = bound_seen sheet c.args.bound.now in
    let first : IntExpr → Tree = λ x. int_form naming bound (int_seen x) in
    both c.args.out.now.bytes.items (codes ">=")
    (first c.deref-in-MoreEq.result.now) (first c.deref-in-MoreEq-2.result.now) _ c.close_with_int-in-MoreEq.result _
    c.in_ok-open_with_int-in-MoreEq.ensures
    c.close_with_int-in-MoreEq.ensures
    (ap (λ x. test_form naming bound (test_seen x)) c.in-MoreEq.is
    ∙ ap₂ (λ x y. row (keyword ">=" ∷ first x ∷ first y ∷ []))
    (sym c.deref-in-MoreEq.ensures) (sym c.deref-in-MoreEq-2.ensures))

pub push_sides-returns-in_ok-open_with_int-in-EqInt : goal.push_sides-returns-in_ok-open_with_int-in-EqInt
push_sides-returns-in_ok-open_with_int-in-EqInt t c =
    let sheet = c.args.sheet.now in
    let naming = naming_seen sheet in
    let bound = bound_seen sheet c.args.bound.now in
    let first : IntExpr → Tree = λ x. int_form naming bound (int_seen x) in
    both c.args.out.now.bytes.items c.args.head.now
    (first c.deref.result.now) (first c.deref-in-EqInt.result.now) _ c.close_with_int.result _
    c.in_ok-open_with_int-in-EqInt.ensures
    c.close_with_int.ensures
    (ap (λ x. row (atom c.args.head.now ∷ sides naming bound (test_seen x))) c.in-EqInt.is
    ∙ ap₂ (λ x y. row (atom c.args.head.now ∷ first x ∷ first y ∷ [])) (sym c.deref.ensures) (sym c.deref-in-EqInt.ensures))

pub push_coll-returns-in_ok-open_filter-in-Filter : goal.push_coll-returns-in_ok-open_filter-in-Filter
push_coll-returns-in_ok-open_filter-in-Filter t c =
    let sheet = c.args.sheet.now in
    let naming = naming_seen sheet in
    let bound = bound_seen sheet c.args.bound.now in
    let first : Tree = coll_form naming bound (coll_seen c.deref.result.now) in
    let var : Tree = named sheet.names.vars.items c.in-Filter.var in
    let test : Tree = test_form naming (binding naming bound c.in-Filter.var) (test_seen c.deref-in-Filter.result.now) in
    three c.args.out.now.bytes.items (codes "filter") first var test _ c.close_within.result _
    c.in_ok-open_filter-in-Filter.ensures c.close_within.ensures
    (ap (λ x. coll_form naming bound (coll_seen x)) c.in-Filter.is
    ∙ ap₂ (λ x y. row (keyword "filter" ∷ coll_form naming bound (coll_seen x) ∷ var
    ∷ test_form naming (binding naming bound c.in-Filter.var) (test_seen y) ∷ []))
    (sym c.deref.ensures) (sym c.deref-in-Filter.ensures))

pub push_test-returns-in_ok-open_over-in-All : goal.push_test-returns-in_ok-open_over-in-All
push_test-returns-in_ok-open_over-in-All t c =
    let sheet = c.args.sheet.now in
    let naming = naming_seen sheet in
    let bound = bound_seen sheet c.args.bound.now in
    let first : Tree = domain_form naming bound (domain_seen c.in-All.domain) in
    let var : Tree = named sheet.names.vars.items c.in-All.var in
    let test : Tree = test_form naming (binding naming bound c.in-All.var) (test_seen c.deref-in-All.result.now) in
    three c.args.out.now.bytes.items (codes "all") first var test _ c.close_within.result _
    c.in_ok-open_over-in-All.ensures c.close_within.ensures
    (ap (λ x. test_form naming bound (test_seen x)) c.in-All.is
    ∙ ap (λ y. row (keyword "all" ∷ first ∷ var ∷ test_form naming (binding naming bound c.in-All.var) (test_seen y) ∷ []))
    (sym c.deref-in-All.ensures))

pub push_test-returns-in_ok-open_over-in-Any : goal.push_test-returns-in_ok-open_over-in-Any
push_test-returns-in_ok-open_over-in-Any t c =
    let sheet = c.args.sheet.now in
    let naming = naming_seen sheet in
    let bound = bound_seen sheet c.args.bound.now in
    let first : Tree = domain_form naming bound (domain_seen c.in-Any.domain) in
    let var : Tree = named sheet.names.vars.items c.in-Any.var in
    let test : Tree = test_form naming (binding naming bound c.in-Any.var) (test_seen c.deref-in-Any.result.now) in
    three c.args.out.now.bytes.items (codes "any") first var test _ c.close_within-in-Any.result _
    c.in_ok-open_over-in-Any.ensures c.close_within-in-Any.ensures
    (ap (λ x. test_form naming bound (test_seen x)) c.in-Any.is
    ∙ ap (λ y. row (keyword "any" ∷ first ∷ var ∷ test_form naming (binding naming bound c.in-Any.var) (test_seen y) ∷ []))
    (sym c.deref-in-Any.ensures))
