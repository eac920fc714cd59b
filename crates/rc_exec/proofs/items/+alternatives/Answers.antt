use Rattle.std.proofs.Common.{ap, ◌∙◌}
use Rattle.rc_deck.proofs.EachLemmas.{on_ok}
use Rattle.rc_play_spec.specs.Menu.{effects_of}
use Rattle.rc_play_spec.specs.Effects.{does}
use Rattle.rc_ast.specs.Expressions.{domain_seen}
use Rattle.rc_ast.specs.Items.{alt_seen}
use Rattle.rc_value.specs.Point.{point_of}
use Rattle.rc_value.specs.Context.{scene_in}
use Rattle.rc_value.proofs.MemberLemmas.{bare_any}
use Rattle.rc_exec.proofs.items.+alternatives.Goals as goal

pub do_here-returns-in-Do-clause-current : goal.do_here-returns-in-Do-clause-current
do_here-returns-in-Do-clause-current g t c = on_ok c.do_few.result c.do_few.ensures.stands (λ stands. stands.1)

pub do_here-returns-in-If-clause-current : goal.do_here-returns-in-If-clause-current
do_here-returns-in-If-clause-current g t c = on_ok c.do_few-in-If.result c.do_few-in-If.ensures.stands (λ stands. stands.1)

pub do_any-returns-in-None-clause-does : goal.do_any-returns-in-None-clause-does
do_any-returns-in-None-clause-does g t c =
    let context = c.args.context.now in
    let now = point_of c.args.board.now.laid c.args.frames.now.items (g.D.Dealer.state c.args.dealer.now) in
    on_ok c.do_alt.result c.do_alt.ensures.does (λ is. ap (λ vars. does context.about.now (g.D.Dealer.dealing c.args.dealer.now) vars (effects_of (alt_seen c.args.inner.now)) now)
    (bare_any (scene_in context c.args.board.now.laid c.args.frames.now.items) context.scope.now (domain_seen c.args.domain.now) 0 (alt_seen c.args.inner.now)
    c.args.spots.now c.in-None.ensures.cases)
    ∙ is)
