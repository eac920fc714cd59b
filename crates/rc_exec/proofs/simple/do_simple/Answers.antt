use Rattle.std.proofs.Common.{◌≡◌, subst}
use Rattle.rc_deck.proofs.EachLemmas.{on_ok}
use Rattle.rc_table.specs.Laid.{Laid}
use Rattle.rc_play_spec.specs.Effects.{does_one}
use Rattle.rc_ast.specs.Effects.{effect_seen}
use Rattle.rc_value.specs.Point.{point_of}
use Rattle.rc_value.proofs.EffectSteps.{led}
use Rattle.rc_exec.proofs.simple.do_simple.Goals as goal

pub returns-in-Move-clause-does : goal.returns-in-Move-clause-does
returns-in-Move-clause-does g c =
    on_ok c.move_one.result c.move_one.ensures.leads (λ leads.
    led c.args.context.now (g.D.Dealer.dealing c.args.dealer.now) (g.D.Dealer.state c.args.dealer.now) c.args.effect.now _ c.args.board.now.laid
    c.move_one.new.board.laid c.args.frames.now.items c.args.frames.now.items c.in-Move.is leads)

pub returns-in-Set-clause-does : goal.returns-in-Set-clause-does
returns-in-Set-clause-does g c =
    on_ok c.set_number.result c.set_number.ensures.leads (λ leads.
    led c.args.context.now (g.D.Dealer.dealing c.args.dealer.now) (g.D.Dealer.state c.args.dealer.now) c.args.effect.now _ c.args.board.now.laid
    c.set_number.new.board.laid c.args.frames.now.items c.args.frames.now.items c.in-Set.is leads)

pub returns-in-Inc-clause-does : goal.returns-in-Inc-clause-does
returns-in-Inc-clause-does g c =
    on_ok c.change_number.result c.change_number.ensures.leads (λ leads.
    led c.args.context.now (g.D.Dealer.dealing c.args.dealer.now) (g.D.Dealer.state c.args.dealer.now) c.args.effect.now _ c.args.board.now.laid
    c.change_number.new.board.laid c.args.frames.now.items c.args.frames.now.items c.in-Inc.is leads)

pub returns-in-Dec-clause-does : goal.returns-in-Dec-clause-does
returns-in-Dec-clause-does g c =
    on_ok c.change_number-in-Dec.result c.change_number-in-Dec.ensures.leads (λ leads.
    led c.args.context.now (g.D.Dealer.dealing c.args.dealer.now) (g.D.Dealer.state c.args.dealer.now) c.args.effect.now _ c.args.board.now.laid
    c.change_number-in-Dec.new.board.laid c.args.frames.now.items c.args.frames.now.items c.in-Dec.is leads)

pub returns-in-Next-clause-does : goal.returns-in-Next-clause-does
returns-in-Next-clause-does g c =
    let context = c.args.context.now in
    let dealing = g.D.Dealer.dealing c.args.dealer.now in
    let state = g.D.Dealer.state c.args.dealer.now in
    subst (λ (laid : Laid). does_one context.about.now dealing context.scope.now (effect_seen c.args.effect.now) (point_of laid c.args.frames.now.items state)
    ≡ point_of laid c.name_next.new.frames.items state) c.table.ensures
    (led context dealing state c.args.effect.now _ c.table.result.now c.table.result.now c.args.frames.now.items c.name_next.new.frames.items c.in-Next.is c.name_next.ensures.leads)

pub returns-in-Reverse-clause-does : goal.returns-in-Reverse-clause-does
returns-in-Reverse-clause-does g c =
    let context = c.args.context.now in
    let dealing = g.D.Dealer.dealing c.args.dealer.now in
    let state = g.D.Dealer.state c.args.dealer.now in
    subst (λ (laid : Laid). does_one context.about.now dealing context.scope.now (effect_seen c.args.effect.now) (point_of laid c.args.frames.now.items state)
    ≡ point_of laid c.turn_round.new.frames.items state) c.table-in-Reverse.ensures
    (led context dealing state c.args.effect.now _ c.table-in-Reverse.result.now c.table-in-Reverse.result.now c.args.frames.now.items c.turn_round.new.frames.items c.in-Reverse.is c.turn_round.ensures.leads)

pub returns-in-MoveAll-clause-does : goal.returns-in-MoveAll-clause-does
returns-in-MoveAll-clause-does g c =
    on_ok c.move_all.result c.move_all.ensures.leads (λ leads.
    led c.args.context.now (g.D.Dealer.dealing c.args.dealer.now) (g.D.Dealer.state c.args.dealer.now) c.args.effect.now _ c.args.board.now.laid
    c.move_all.new.board.laid c.args.frames.now.items c.args.frames.now.items c.in-MoveAll.is leads)

pub returns-in-Peek-clause-does : goal.returns-in-Peek-clause-does
returns-in-Peek-clause-does g c =
    on_ok c.peek.result c.peek.ensures.leads (λ leads.
    led c.args.context.now (g.D.Dealer.dealing c.args.dealer.now) (g.D.Dealer.state c.args.dealer.now) c.args.effect.now _ c.args.board.now.laid
    c.peek.new.board.laid c.args.frames.now.items c.args.frames.now.items c.in-Peek.is leads)

pub returns-in-Remember-clause-does : goal.returns-in-Remember-clause-does
returns-in-Remember-clause-does g c =
    on_ok c.remember.result c.remember.ensures.leads (λ leads.
    led c.args.context.now (g.D.Dealer.dealing c.args.dealer.now) (g.D.Dealer.state c.args.dealer.now) c.args.effect.now _ c.args.board.now.laid
    c.remember.new.board.laid c.args.frames.now.items c.args.frames.now.items c.in-Remember.is leads)

pub returns-in-Forget-clause-does : goal.returns-in-Forget-clause-does
returns-in-Forget-clause-does g c =
    on_ok c.forget.result c.forget.ensures.leads (λ leads.
    led c.args.context.now (g.D.Dealer.dealing c.args.dealer.now) (g.D.Dealer.state c.args.dealer.now) c.args.effect.now _ c.args.board.now.laid
    c.forget.new.board.laid c.args.frames.now.items c.args.frames.now.items c.in-Forget.is leads)
