use Rattle.std.proofs.Common.{ap, ◌∙◌}
use Rattle.rc_deck.proofs.EachLemmas.{on_ok}
use Rattle.rc_play_spec.specs.Value.{who_value, coll_value}
use Rattle.rc_ast.specs.Names.{who_seen}
use Rattle.rc_ast.specs.Expressions.{coll_seen}
use Rattle.rc_table.specs.Laid.{Laid}
use Rattle.rc_value.specs.Cards.{values_seen}
use Rattle.rc_value.specs.Context.{scene_in}
use Rattle.rc_value.proofs.PeekLemmas.{shown_leads}
use Rattle.rc_exec.proofs.peeking.peek.Goals as goal

pub returns-clause-leads : goal.returns-clause-leads
returns-clause-leads c =
    let context = c.args.context.now in
    let frames = c.args.frames.now.items in
    let owner = ap (λ (laid : Laid). who_value (scene_in context laid frames).known context.scope.now (who_seen c.args.who)) c.table.ensures in
    let cards = ap (λ (laid : Laid). coll_value (scene_in context laid frames) context.scope.now (coll_seen c.args.cards.now)) c.table-2.ensures in
    on_ok c.show_all.result c.show_all.ensures.leads (λ shown.
    shown_leads context c.args.board.now.laid c.show_all.new.board.laid frames (coll_seen c.args.cards.now) (who_seen c.args.who)
    c.class_of.result c.who_now-owner.result (values_seen c.as_slice.result.now) c.requires.stands.0 c.class_of.ensures (c.who_now-owner.ensures ∙ owner)
    (ap values_seen c.as_slice.ensures.value ∙ c.cards_now.ensures.cards ∙ cards) shown)
