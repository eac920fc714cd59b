use Rattle.std.proofs.Common.{◌≡◌, ◌∙◌, ap, sym, Option, Some, None, option_map, get_or, refl, w64, arith, rules}
use Rattle.std.proofs.Math.Facts.{to_z-of_z}
use Rattle.std.proofs.lemmas.Int.{ints}
use Rattle.std.proofs.lemmas.List.{get_or_default}
use mir.Val.{SFits}
use Rattle.rc_form.specs.Form.{tree_of, packed}
use Rattle.rc_form.proofs.FormLemmas.{tree_of_list}
use Rattle.rc_resolve.specs.Reading.{both, entry_with, read_entry, read_entry_parts, read_value_list, read_points}
use Rattle.rc_resolve.proofs.PointLemmas.{points_within}
use Rattle.rc_resolve.proofs.SliceLemmas.{read_entry_other}
use Rattle.rc_resolve.proofs.GroupLemmas.{read_entry_of}
use Rattle.rc_resolve.proofs.points_reading.read_entry.Goals as goal

both_none : {A B C : Type 0} (make : A → B → C) (first : Option A) → both make first None ≡ None
both_none make None = refl
both_none make (Some a) = refl

pub returns-then-items-ne3 : goal.returns-then-items-ne3
returns-then-items-ne3 g c =
    let names = g.N.Numbers.words c.args.names.now in
    sym (ap (read_entry names) (tree_of_list _ c.in-List.items c.in-List.span c.in-List.is)
    ∙ ap (λ trees. read_entry_parts names (packed trees)) (sym c.as_slice-items.ensures.trees)
    ∙ read_entry_other names c.as_slice-items.result.now (λ long. omega arith))

pub returns-in_default-attr_number : goal.returns-in_default-attr_number
returns-in_default-attr_number g c =
    let names = g.N.Numbers.words c.args.names.now in
    let items = c.as_slice-items.result.now in
    let head = c.index-items-0.result in
    let second = get_or items 1 head in
    let third = get_or items 2 head in
    let e = read_entry_of names c.args.form.now c.in-List.items c.in-List.span items head second third c.in-List.is
    c.as_slice-items.ensures.trees (omega arith) c.index-items-0.is
    (get_or_default items 1 head second (omega arith)) (get_or_default items 2 head third (omega arith)) in
    ap (λ o. both entry_with o (both (λ values points. (values, points)) (read_value_list names (tree_of second)) (read_points (tree_of third)))) c.in_default-attr_number.ensures
    ∙ sym e

pub returns-in_default-read_points : goal.returns-in_default-read_points
returns-in_default-read_points g c =
    let names = g.N.Numbers.words c.args.names.now in
    let items = c.as_slice-items.result.now in
    let head = c.index-items-0.result in
    let second = get_or items 1 head in
    let third = c.index-items-2.result in
    let e = read_entry_of names c.args.form.now c.in-List.items c.in-List.span items head second third c.in-List.is
    c.as_slice-items.ensures.trees (omega arith) c.index-items-0.is
    (get_or_default items 1 head second (omega arith)) c.index-items-2.is in
    let list = read_value_list names (tree_of second) in
    ap (both entry_with (Some c.in-Some.attr)) (sym (both_none (λ values points. (values, points)) list))
    ∙ ap (λ o. both entry_with (Some c.in-Some.attr) (both (λ values points. (values, points)) list o)) c.in_default-read_points.ensures
    ∙ ap (λ o. both entry_with o (both (λ values points. (values, points)) list (read_points (tree_of third)))) c.in-Some.ensures
    ∙ sym e

pub returns-in-Some-2 : goal.returns-in-Some-2
returns-in-Some-2 g c =
    let names = g.N.Numbers.words c.args.names.now in
    let second = c.index-items-1.result in
    let third = c.index-items-2.result in
    let attr = c.in-Some.attr in
    let points = c.in-Some-read_points.points in
    let values = c.in-Some-2.values.items in
    let e = read_entry_of names c.args.form.now c.in-List.items c.in-List.span c.as_slice-items.result.now
    c.index-items-0.result second third c.in-List.is
    c.as_slice-items.ensures.trees (omega arith) c.index-items-0.is c.index-items-1.is c.index-items-2.is in
    let listed : Some values ≡ read_value_list names (tree_of second) = sym (ap (λ o. option_map (λ values. values.items) o) c.in-Some-2.is) ∙ c.in_ok-values.ensures in
    let within = points_within points (tree_of third) (sym c.in-Some-read_points.ensures) in
    let least = within.0 in
    let most = within.1 in
    let fits : SFits w64 points = first_of (search rules, omega (arith, ints, least, most)) in
    ap (λ entry. Some entry) c.entry_with.ensures
    ∙ ap (λ z. Some (entry_with attr (values, z))) (to_z-of_z fits)
    ∙ ap (λ o. both entry_with (Some attr) (both (λ values points. (values, points)) o (Some points))) listed
    ∙ ap (λ o. both entry_with (Some attr) (both (λ values points. (values, points)) (read_value_list names (tree_of second)) o)) c.in-Some-read_points.ensures
    ∙ ap (λ o. both entry_with o (both (λ values points. (values, points)) (read_value_list names (tree_of second)) (read_points (tree_of third)))) c.in-Some.ensures
    ∙ sym e

pub returns-in-None : goal.returns-in-None
returns-in-None g c =
    let names = g.N.Numbers.words c.args.names.now in
    let second = c.index-items-1.result in
    let third = c.index-items-2.result in
    let attr = c.in-Some.attr in
    let e = read_entry_of names c.args.form.now c.in-List.items c.in-List.span c.as_slice-items.result.now
    c.index-items-0.result second third c.in-List.is
    c.as_slice-items.ensures.trees (omega arith) c.index-items-0.is c.index-items-1.is c.index-items-2.is in
    let listed : None ≡ read_value_list names (tree_of second) = sym (ap (λ o. option_map (λ values. values.items) o) c.in-None.is) ∙ c.in_ok-values.ensures in
    ap (λ o. both entry_with (Some attr) (both (λ values points. (values, points)) o (read_points (tree_of third)))) listed
    ∙ ap (λ o. both entry_with o (both (λ values points. (values, points)) (read_value_list names (tree_of second)) (read_points (tree_of third)))) c.in-Some.ensures
    ∙ sym e
