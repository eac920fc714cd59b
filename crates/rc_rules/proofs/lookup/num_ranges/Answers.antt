use Rattle.std.proofs.Common.{◌<◌, ◌++◌, ◌∷◌, [], length, map, ap, ◌∙◌, arith}
use Rattle.std.proofs.lemmas.List.{length-map, map-append}
use Rattle.rc_sheet_spec.specs.Sheet.{NumName}
use Rattle.rc_sheet_spec.specs.WellFormed.{owner_count}
use Rattle.rc_ast.specs.Names.{num_name_seen}
use Rattle.rc_ast.specs.Sheet.{sheet_seen}
use Rattle.rc_rules.specs.Lookup.{range_seen, ranges_seen, ranges_from}
use Rattle.rc_rules.proofs.Elements.{map_here}
use Rattle.rc_rules.proofs.Elements.{counted_more, counted_within}
use Rattle.rc_rules.proofs.Ranges.{ranges_more}
use Rattle.rc_rules.proofs.lookup.num_ranges.Goals as goal

pub overflow_cast-count : goal.overflow_cast-count
overflow_cast-count c =
    let names = c.args.sheet.now.nums.items in
    let h =
    counted_within num_name_seen (λ (name : NumName). owner_count (sheet_seen c.args.sheet.now) name.class) names c.loop-place.place (length names) c.index.result.now
    (omega (arith, c.loop-place-test.true, c.len-place-end.ensures)) c.index.ensures in
    omega (arith, h, c.owner_count-count.ensures, c.requires.limit)

pub overflow_add-first : goal.overflow_add-first
overflow_add-first c =
    let names = c.args.sheet.now.nums.items in
    let h =
    counted_within num_name_seen (λ (name : NumName). owner_count (sheet_seen c.args.sheet.now) name.class) names c.loop-place.place (length names) c.index.result.now
    (omega (arith, c.loop-place-test.true, c.len-place-end.ensures)) c.index.ensures in
    omega (arith, h, c.loop-place.invariant.before, c.owner_count-count.ensures, c.requires.limit)

pub loop-place-preserved : goal.loop-place-preserved
loop-place-preserved c =
    let sheet = sheet_seen c.args.sheet.now in
    let names = c.args.sheet.now.nums.items in
    let x = c.index.result.now in
    let place = c.loop-place.place in
    let first = c.loop-place.first in
    let classes = map (λ (name : NumName). name.class) sheet.nums in
    let lt : place < length names = omega (arith, c.loop-place-test.true, c.len-place-end.ensures) in
    let more =
    counted_more num_name_seen (λ (name : NumName). owner_count sheet name.class) names place (length names) x (omega (arith, lt)) c.index.ensures in
    let here = map_here (λ (name : NumName). name.class) sheet.nums place (num_name_seen x) (omega (arith, lt, length-map names num_name_seen)) (map_here num_name_seen names place x lt c.index.ensures) in
    record {
      before = omega (arith, more, c.loop-place.invariant.before, c.owner_count-count.ensures);
      told =
          ranges_more sheet (ranges_seen c.loop-place.list.items) _ (ranges_from sheet 0 classes) classes place first c.owner_count-count.result x.class
          (omega (arith, lt, length-map names num_name_seen, length-map sheet.nums (λ (name : NumName). name.class))) here c.owner_count-count.ensures
          (ap ranges_seen c.in_ok-push.ensures.items ∙ map-append range_seen c.loop-place.list.items (c.range_of.result ∷ [])
          ∙ ap (λ range. ranges_seen c.loop-place.list.items ++ range ∷ []) c.range_of.ensures)
          c.loop-place.invariant.told;
    }
