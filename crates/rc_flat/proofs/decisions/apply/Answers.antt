use Rattle.std.proofs.Common.{ap, ◌∙◌, slice_get}
use Rattle.rc_play_spec.specs.Menu.{alts_at}
use Rattle.rc_code.specs.Seen.{list_seen}
use Rattle.rc_flat.proofs.decisions.apply.Goals as goal

pub choice_there-choice-requires : goal.choice_there-choice-requires
choice_there-choice-requires g c =
    let decision = c.requires.decision in
    let offered = (c.requires.ready.kept decision.1 decision.2.decision.stands).offered in (
      decision.1,
      alts_at c.args.about.now.sheet decision.1,
      offered.blocks,
      offered.inside,
      ap (slice_get (list_seen c.args.code.now)) c.next.ensures ∙ offered.there,
    )
