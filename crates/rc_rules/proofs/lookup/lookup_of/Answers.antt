use Rattle.std.proofs.Common.{◌≡◌, length, map, ap, sym, ◌∙◌, arith}
use Rattle.std.proofs.lemmas.List.{length-map}
use Rattle.rc_base.specs.Numbers.{below}
use Rattle.rc_deck.proofs.RangeLemmas.{below_length}
use Rattle.rc_rules.specs.Lookup.{value_row}
use Rattle.rc_ast.specs.Sheet.{sheet_seen}
use Rattle.rc_rules.proofs.ClassLemmas.{class_count}
use Rattle.rc_rules.proofs.lookup.lookup_of.Goals as goal

pub loc_ranges-requires : goal.loc_ranges-requires
loc_ranges-requires c = record { limit = c.requires.well.limits.locations }

pub num_ranges-requires : goal.num_ranges-requires
num_ranges-requires c = record { limit = c.requires.well.limits.numbers }

pub worth_rows-requires : goal.worth_rows-requires
worth_rows-requires c = record { clamped = λ k entries within i entry there. (c.requires.well.entries k entries within i entry there).1 }

pub stage_classes-requires : goal.stage_classes-requires
stage_classes-requires c = record {
  few =
      let count = class_count (sheet_seen c.args.sheet.now).items in
      omega (arith, count, c.requires.well.limits.stages);
}

pub returns : goal.returns
returns c =
    let rows = c.in_ok-values.values.items in
    let row = value_row c.args.shape.now.faces in
    let count : length rows ≡ c.len.result =
    sym (length-map rows (λ r. r.items)) ∙ ap length c.in_ok-values.ensures ∙ length-map (below c.len.result) row ∙ below_length c.len.result in
    record {
      locs = c.in_ok-locs.ensures;
      nums = c.in_ok-nums.ensures;
      stages = c.in_ok-stages.ensures;
      attrs = omega (arith, count, c.len.ensures);
      values = c.in_ok-values.ensures ∙ ap (λ n. map row (below n)) (sym count);
      worths = c.in_ok-worths.ensures;
    }
