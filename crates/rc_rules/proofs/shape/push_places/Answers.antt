use Rattle.std.proofs.Common.{◌≡◌, ℕ, ◌++◌, ◌∷◌, [], map, ap, ap₂, sym, ◌∙◌, arith, append_assoc}
use Rattle.std.proofs.lemmas.List.{map-append}
use Rattle.rc_ast.specs.Sheet.{sheet_seen}
use Rattle.rc_play_spec.specs.Shape.{Place}
use Rattle.rc_base.specs.Numbers.{below}
use Rattle.rc_table.specs.declared.place.Place.{Place as TablePlace}
use Rattle.rc_table.specs.Places.{place_seen}
use Rattle.rc_rules.proofs.ShapeLemmas.{owners_few}
use Rattle.rc_rules.proofs.PointLemmas.{mapped_push}
use Rattle.rc_rules.proofs.shape.push_places.Goals as goal

pub overflow_cast-number : goal.overflow_cast-number
overflow_cast-number c =
    let few = owners_few (sheet_seen c.args.sheet.now) c.requires c.args.name.now.class in
    let is = c.owner_count-number-end.ensures in
    omega (arith, few, is)

pub loop-number-preserved : goal.loop-number-preserved
loop-number-preserved c =
    let kind = c.args.name.now.kind in
    let class = c.args.name.now.class in
    let place : TablePlace = record { owner = c.owner_of-owner.result; kind = kind } in
    let old = map place_seen c.args.list.now.items in
    let less = c.loop-number-test.true in
    let is = c.owner_count-number-end.ensures in
    let number = c.owner_of-owner.ensures.number (sheet_seen c.args.sheet.now) (omega (arith, less, is)) in
    let owned : ℕ → Place = λ n. record { kind = kind; class = class; owner = n } in
    let same : place_seen place ≡ owned c.loop-number.number =
    λ i. record { kind = kind; class = c.owner_of-owner.ensures.class i; owner = number i } in
    ap (map place_seen) c.in_ok-push.ensures.items ∙ map-append place_seen c.loop-number.list.items (place ∷ [])
    ∙ ap₂ (λ before last. before ++ last ∷ []) c.loop-number.invariant same
    ∙ append_assoc old (map owned (below c.loop-number.number)) (owned c.loop-number.number ∷ [])
    ∙ ap (λ more. old ++ more) (sym (mapped_push owned c.loop-number.number))
