use Rattle.std.proofs.Common.{◌≡◌, ◌<◌, rules, length, slice_index_or, sym, subst}
use Rattle.rc_sheet_spec.specs.WellFormed.{IsAlt}
use Rattle.rc_play_spec.proofs.SiteLemmas.{alt_among}
use Rattle.rc_flat.proofs.naming.bounds_in.Goals as goal

pub item_bounds-requires-clause-well : goal.item_bounds-requires-clause-well
item_bounds-requires-clause-well c =
    let a = c.in-Some.ensures.lookup in
    let sheet = c.args.about.now.sheet in
    let alts = c.args.alts.now in
    let offer = c.in-Some.offer.now in
    let lt : c.args.item.now.alt < length alts = search rules in
    let is : offer ≡ slice_index_or alts c.args.item.now.alt offer = search rules in
    let around = c.requires.well.0 in (
      around,
      c.requires.well.1,
      subst (IsAlt sheet around) (sym c.alt.ensures) (alt_among sheet around alts c.requires.well.2 c.args.item.now.alt offer lt is),
    )
