use Rattle.std.proofs.Common.{◌<◌, [], map, ap, sym, ◌∙◌, subst, slice_get}
use Rattle.rc_play_spec.specs.About.{scene_at}
use Rattle.rc_play_spec.specs.ItemBounds.{bound_of}
use Rattle.rc_play_spec.specs.Menu.{alt_in, alts_at, bindings_of}
use Rattle.rc_table.specs.Laid.{Laid}
use Rattle.rc_rules.specs.Control.{frames_seen}
use Rattle.rc_code.specs.Seen.{block_seen, list_seen}
use Rattle.rc_flat.proofs.KeptLemmas.{so_many}
use Rattle.rc_flat.proofs.NamingLemmas.{bounds_kept}
use Rattle.rc_flat.proofs.naming.bounds_of.Goals as goal

pub choice_there-choice-requires : goal.choice_there-choice-requires
choice_there-choice-requires c =
    let decision = c.requires.decision in
    let offered = (c.requires.ready.kept decision.1 decision.2.decision.stands).offered in (
      decision.1,
      alts_at c.args.about.now.sheet decision.1,
      offered.blocks,
      offered.inside,
      ap (slice_get (list_seen c.args.code.now)) c.next.ensures ∙ offered.there,
    )

pub item_at-requires : goal.item_at-requires
item_at-requires c =
    subst (λ n. c.args.item < n) (sym (so_many c.args.about.now (list_seen c.args.code.now) c.args.state.now c.requires.ready c.requires.decision)) c.requires.offered

pub bounds_in-requires-clause-well : goal.bounds_in-requires-clause-well
bounds_in-requires-clause-well c =
    let there = c.choice_there-choice.ensures in
    (c.requires.implements.choices c.next.result there.0 _ _ _ there.1).well

pub returns : goal.returns
returns c =
    let code = list_seen c.args.code.now in
    let there = c.choice_there-choice.ensures in
    let here = ap (slice_get code) (sym c.next.ensures) ∙ there.1 in
    let about = c.args.about.now in
    let item = c.item_at.result.now in
    let frames = frames_seen c.args.state.now.control.frames.items in
    c.bounds_in.ensures
    ∙ ap (λ (laid : Laid). map (bound_of about.shape)
    (bindings_of (scene_at about laid.table frames) [] (alt_in c.choice_there-choice.result.alts.now item.alt) item.spots.items)) c.table.ensures
    ∙ bounds_kept c.args.about.now code c.args.state.now c.requires.ready c.requires.decision there.0 c.choice_there-choice.result.alts.now
    (map block_seen c.choice_there-choice.result.blocks.now) c.choice_there-choice.result.inside here
    c.args.item c.requires.offered c.item_at.result.now c.item_at.ensures
