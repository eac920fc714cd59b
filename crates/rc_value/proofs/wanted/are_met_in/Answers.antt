use Rattle.std.proofs.Common.{get_or, slice_index_or, None, refl, sym, ◌∙◌}
use Rattle.rc_value.specs.Wanted.{meets}
use Rattle.rc_value.proofs.Lists.{here_is}
use Rattle.rc_value.proofs.OverLemmas.{over_on, over_stop, over_end}
use Rattle.rc_value.proofs.wanted.are_met_in.Goals as goal

pub loop-place-preserved : goal.loop-place-preserved
loop-place-preserved c =
    over_on c.args.any (λ id. meets c.args.wanted (slice_index_or c.args.row.now id None)) c.args.ids.now c.loop-place.place
    (get_or c.args.ids.now c.loop-place.place 0) _ _ c.loop-place-test.true (here_is c.args.ids.now c.loop-place.place 0 c.loop-place-test.true)
    refl (sym c.settles.ensures ∙ c.if-settles.false) c.loop-place.invariant

pub returns-then-settles : goal.returns-then-settles
returns-then-settles c =
    over_stop c.args.any (λ id. meets c.args.wanted (slice_index_or c.args.row.now id None)) c.args.ids.now c.loop-place.place
    (get_or c.args.ids.now c.loop-place.place 0) _ _ c.loop-place-test.true (here_is c.args.ids.now c.loop-place.place 0 c.loop-place-test.true)
    refl (sym c.settles.ensures ∙ c.if-settles.true) c.loop-place.invariant

pub returns : goal.returns
returns c =
    over_end c.args.any (λ id. meets c.args.wanted (slice_index_or c.args.row.now id None)) c.args.ids.now c.loop-place.place _
    c.loop-place-test.false c.loop-place.invariant
