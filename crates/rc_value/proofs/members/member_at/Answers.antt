use Rattle.std.proofs.Common.{sym, subst}
use Rattle.rc_sheet_spec.specs.Sheet.{each_player, each_card, each_group}
use Rattle.rc_play_spec.specs.Bound.{IsBindOf}
use Rattle.rc_ast.specs.Expressions.{coll_seen}
use Rattle.rc_rules.specs.Control.{frames_seen}
use Rattle.rc_value.proofs.MemberLemmas.{member_there}
use Rattle.rc_value.proofs.members.member_at.Goals as goal

pub returns-in-Players-clause-there : goal.returns-in-Players-clause-there
returns-in-Players-clause-there c =
    let context = c.args.context.now in
    let stands = c.requires.stands in
    subst (IsBindOf context.about.now.shape) (sym c.player_at.ensures)
    (member_there context.about.now c.sheet-fits.ensures.shape c.sheet-fits.ensures.well c.args.table.now stands.0 c.shape-sound.ensures.sound
    (frames_seen c.args.frames.now.items) context.scope.now stands.2 each_player c.args.spot)

pub returns-in-Coll-clause-there : goal.returns-in-Coll-clause-there
returns-in-Coll-clause-there c =
    let context = c.args.context.now in
    let stands = c.requires.stands in
    subst (IsBindOf context.about.now.shape) (sym c.card_at.ensures)
    (member_there context.about.now c.sheet-fits.ensures.shape c.sheet-fits.ensures.well c.args.table.now stands.0 c.shape-sound.ensures.sound
    (frames_seen c.args.frames.now.items) context.scope.now stands.2 (each_card (coll_seen c.in-Coll.cards)) c.args.spot)

pub returns-in-Parts-clause-there : goal.returns-in-Parts-clause-there
returns-in-Parts-clause-there c =
    let context = c.args.context.now in
    let stands = c.requires.stands in
    subst (IsBindOf context.about.now.shape) (sym c.group_at.ensures)
    (member_there context.about.now c.sheet-fits.ensures.shape c.sheet-fits.ensures.well c.args.table.now stands.0 c.shape-sound.ensures.sound
    (frames_seen c.args.frames.now.items) context.scope.now stands.2 (each_group (coll_seen c.in-Parts.cards) c.in-Parts.attr) c.args.spot)
