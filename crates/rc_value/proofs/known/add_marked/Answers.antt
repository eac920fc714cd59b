use Rattle.std.proofs.Common.{arith, ◌+◌, get_or, drop, map, ap, sym, ◌∙◌}
use Rattle.std.specs.List.{filter}
use Rattle.std.proofs.lemmas.List.{drop_all, length-map}
use Rattle.rc_play_spec.specs.Scene.{held}
use Rattle.rc_play_spec.specs.Table.{is_marked}
use Rattle.rc_value.specs.Cards.{value_seen, values_seen}
use Rattle.rc_value.proofs.Lists.{here_is}
use Rattle.rc_value.proofs.Steps.{passing_on, passing_here, more_end}
use Rattle.rc_value.proofs.KnownLemmas.{helds_kept}
use Rattle.rc_value.proofs.known.add_marked.Goals as goal

pub loop-place-preserved : goal.loop-place-preserved
loop-place-preserved c =
    let P = is_marked c.args.table.now.table.marks c.args.seat in
    let ids = c.args.ids.now in
    let at = c.loop-place.place in
    record {
      few = c.push_if.ensures.few;
      told =
          passing_on (values_seen c.loop-place.out.items) (values_seen c.push_if.new.cards.items) _ _ _
          (held (get_or ids at 0)) c.has_mark-known.result
          (ap (map held) (passing_here P ids at (get_or ids at 0) c.has_mark-known.result c.loop-place-test.true
          (here_is ids at 0 c.loop-place-test.true) (sym c.has_mark-known.ensures))
          ∙ helds_kept c.has_mark-known.result (get_or ids at 0) (filter P (drop (at + 1) ids)))
          c.push_if.ensures.cards c.loop-place.invariant.told;
    }

pub returns-clause-cards : goal.returns-clause-cards
returns-clause-cards c =
    let n = length-map c.loop-place.out.items value_seen in
    let few = c.loop-place.invariant.few in
    more_end (values_seen c.loop-place.out.items) _ _ (omega arith)
    (ap (λ ids. map held (filter (is_marked c.args.table.now.table.marks c.args.seat) ids))
    (drop_all c.loop-place.place c.args.ids.now c.loop-place-test.false))
    c.loop-place.invariant.told
