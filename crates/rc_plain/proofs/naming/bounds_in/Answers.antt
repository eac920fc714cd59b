use Rattle.std.proofs.Common.{◌≡◌, ◌<◌, rules, length, slice_index_or}
use Rattle.rc_value.proofs.EffectRows.{each_alt}
use Rattle.rc_plain.proofs.naming.bounds_in.Goals as goal

pub item_bounds-requires-clause-well : goal.item_bounds-requires-clause-well
item_bounds-requires-clause-well c =
    let a = c.in-Some.ensures.lookup in
    let alts = c.args.alts.now in
    let lt : c.args.item.now.alt < length alts = search rules in
    let is : c.in-Some.alt.now ≡ slice_index_or alts c.args.item.now.alt c.in-Some.alt.now = search rules in
    let well = c.requires.well in
    (well.0, well.1, each_alt c.args.about.now.sheet well.0 alts well.2 c.args.item.now.alt c.in-Some.alt.now lt is)
