use Rattle.std.proofs.Common.{◌≡◌, ◌<◌, rules, length, slice_index_or}
use Rattle.rc_value.proofs.EffectRows.{alt_under}
use Rattle.rc_plain.proofs.items.do_item.Goals as goal

pub do_alt-requires-clause-well : goal.do_alt-requires-clause-well
do_alt-requires-clause-well g c =
    let a = c.in-Some.ensures.lookup in
    let alts = c.args.alts.now in
    let lt : c.args.item.now.alt < length alts = search rules in
    let is : c.in-Some.alt.now ≡ slice_index_or alts c.args.item.now.alt c.in-Some.alt.now = search rules in
    alt_under c.args.about.now.sheet alts c.requires.well c.empty-scope.result c.empty-scope.ensures c.args.item.now.alt c.in-Some.alt.now lt is
