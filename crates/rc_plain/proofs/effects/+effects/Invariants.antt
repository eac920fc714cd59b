use Rattle.std.proofs.Common.{◌≡◌, ◌-◌, ◌++◌, ◌∷◌, [], drop, map, false}
use Rattle.std.specs.Prelude.{fold}
use Rattle.rc_base.specs.Numbers.{below}
use Rattle.rc_play_spec.specs.Value.{Bind as PureBind, player_bound, card_bound}
use Rattle.rc_play_spec.specs.Scene.{CardValue}
use Rattle.rc_play_spec.specs.Effects.{does, again}
use Rattle.rc_ast.specs.Effects.{effects_seen}
use Rattle.rc_value.specs.Cards.{values_seen}
use Rattle.rc_value.specs.Point.{point_of}
use Rattle.rc_value.specs.Context.{IsContextOf}
use Rattle.rc_plain.proofs.effects.+effects.Given as goal

-- what is left to do, from here, leads to what all leads to
abbrev pub invariant-do_all-loop-effect : goal.invariant-do_all-loop-effect
invariant-do_all-loop-effect g l =
    IsContextOf l.context l.board.laid l.frames.items × (g.D.Dealer.dealing l.dealer ≡ g.D.Dealer.dealing l.fn.dealer)
    × (does l.context.about.now (g.D.Dealer.dealing l.fn.dealer) l.context.scope.now
    (effects_seen (drop l.effect-index l.effect-items))
    (point_of l.board.laid l.frames.items (g.D.Dealer.state l.dealer))
    ≡ does l.context.about.now (g.D.Dealer.dealing l.fn.dealer) l.context.scope.now (effects_seen l.effect-items)
    (point_of l.fn.board.laid l.fn.frames.items (g.D.Dealer.state l.fn.dealer)))
    × (l.board.notes ≡ false)

abbrev pub invariant-repeat-loop : goal.invariant-repeat-loop
invariant-repeat-loop g l =
    IsContextOf l.context l.board.laid l.frames.items × (g.D.Dealer.dealing l.dealer ≡ g.D.Dealer.dealing l.fn.dealer)
    × (again (l.times - l.counter)
    (does l.context.about.now (g.D.Dealer.dealing l.fn.dealer) l.context.scope.now (effects_seen l.effects.items))
    (point_of l.board.laid l.frames.items (g.D.Dealer.state l.dealer))
    ≡ again l.times
    (does l.context.about.now (g.D.Dealer.dealing l.fn.dealer) l.context.scope.now (effects_seen l.effects.items))
    (point_of l.fn.board.laid l.fn.frames.items (g.D.Dealer.state l.fn.dealer)))
    × (l.board.notes ≡ false)

abbrev pub invariant-for_players-loop-player : goal.invariant-for_players-loop-player
invariant-for_players-loop-player g l =
    IsContextOf l.context l.board.laid l.frames.items × (g.D.Dealer.dealing l.dealer ≡ g.D.Dealer.dealing l.fn.dealer)
    × (fold
    (λ mid member. does l.context.about.now (g.D.Dealer.dealing l.fn.dealer) (l.context.scope.now ++ member ∷ [])
    (effects_seen l.effects.items) mid)
    (point_of l.board.laid l.frames.items (g.D.Dealer.state l.dealer))
    (map (λ n. player_bound n) (drop l.player (below l.context.about.now.sheet.players)))
    ≡ fold
    (λ mid member. does l.context.about.now (g.D.Dealer.dealing l.fn.dealer) (l.context.scope.now ++ member ∷ [])
    (effects_seen l.effects.items) mid)
    (point_of l.fn.board.laid l.fn.frames.items (g.D.Dealer.state l.fn.dealer))
    (map (λ n. player_bound n) (below l.context.about.now.sheet.players)))
    × ((other : PureBind CardValue) × (l.scope ≡ l.context.scope.now ++ other ∷ []))
    × (l.board.notes ≡ false)

abbrev pub invariant-for_these-loop-card : goal.invariant-for_these-loop-card
invariant-for_these-loop-card g l =
    IsContextOf l.context l.board.laid l.frames.items × (g.D.Dealer.dealing l.dealer ≡ g.D.Dealer.dealing l.fn.dealer)
    × (fold
    (λ mid member. does l.context.about.now (g.D.Dealer.dealing l.fn.dealer) (l.context.scope.now ++ member ∷ [])
    (effects_seen l.effects.items) mid)
    (point_of l.board.laid l.frames.items (g.D.Dealer.state l.dealer))
    (map (λ c. card_bound c) (values_seen (drop l.card-index l.cards)))
    ≡ fold
    (λ mid member. does l.context.about.now (g.D.Dealer.dealing l.fn.dealer) (l.context.scope.now ++ member ∷ [])
    (effects_seen l.effects.items) mid)
    (point_of l.fn.board.laid l.fn.frames.items (g.D.Dealer.state l.fn.dealer))
    (map (λ c. card_bound c) (values_seen l.cards)))
    × ((other : PureBind CardValue) × (l.scope ≡ l.context.scope.now ++ other ∷ []))
    × (l.board.notes ≡ false)
