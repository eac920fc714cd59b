use Rattle.std.proofs.Common.{ap, ◌∙◌}
use Rattle.rc_play_spec.specs.Menu.{effects_of}
use Rattle.rc_play_spec.specs.Effects.{does}
use Rattle.rc_ast.specs.Expressions.{domain_seen}
use Rattle.rc_ast.specs.Items.{alt_seen}
use Rattle.rc_value.specs.Point.{point_of}
use Rattle.rc_value.specs.Context.{scene_in}
use Rattle.rc_value.proofs.MemberLemmas.{bare_any}
use Rattle.rc_plain.proofs.items.+alternatives.Goals as goal

pub do_any-returns-in-None-clause-does : goal.do_any-returns-in-None-clause-does
do_any-returns-in-None-clause-does g t c =
    let context = c.args.context.now in
    let now = point_of c.args.board.now.laid c.args.frames.now.items (g.D.Dealer.state c.args.dealer.now) in
    ap (λ vars. does context.about.now (g.D.Dealer.dealing c.args.dealer.now) vars
    (effects_of (alt_seen c.args.inner.now)) now)
    (bare_any (scene_in context c.args.board.now.laid c.args.frames.now.items) context.scope.now
    (domain_seen c.args.domain.now) 0 (alt_seen c.args.inner.now)
    c.args.spots.now c.in-None.ensures.cases)
    ∙ c.do_alt.ensures.does
