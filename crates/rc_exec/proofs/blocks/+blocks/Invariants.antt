use Rattle.std.proofs.Common.{◌≡◌, ◌+◌, ◌-◌, ◌*◌, ◌≤◌, ◌++◌, ◌∷◌, [], length, drop, map}
use Rattle.std.specs.Prelude.{fold}
use Rattle.rc_base.specs.Numbers.{below}
use Rattle.rc_play_spec.specs.Value.{Bind as PureBind, player_bound, card_bound}
use Rattle.rc_play_spec.specs.Scene.{CardValue}
use Rattle.rc_play_spec.specs.Effects.{does, again}
use Rattle.rc_value.specs.Cards.{values_seen}
use Rattle.rc_rules.specs.Dealer.{HasShuffled}
use Rattle.rc_code.specs.Meaning.{effects_in}
use Rattle.rc_code.specs.Seen.{list_seen}
use Rattle.rc_code.specs.Implements.{AreSimple}
use Rattle.rc_value.specs.Point.{point_of}
use Rattle.rc_value.specs.Under.{AreEffectsUnder}
use Rattle.rc_value.specs.Context.{IsContextOf}
use Rattle.rc_undo.specs.Undo.{Keeps}
use Rattle.rc_exec.proofs.blocks.+blocks.Given as goal

-- what a block holds is shorter than the block
abbrev pub decreases-do_block : goal.decreases-do_block
decreases-do_block g l = 9 * length l.code.now

abbrev pub decreases-do_first : goal.decreases-do_first
decreases-do_first g l = 9 * length l.behind.now + 8

abbrev pub decreases-do_if : goal.decreases-do_if
decreases-do_if g l = 9 * length l.inside.now + 5

abbrev pub decreases-repeat : goal.decreases-repeat
decreases-repeat g l = 9 * length l.inside.now + 5

abbrev pub decreases-for_each : goal.decreases-for_each
decreases-for_each g l = 9 * length l.inside.now + 7

abbrev pub decreases-change_for_players : goal.decreases-change_for_players
decreases-change_for_players g l = 9 * length l.inside.now + 6

abbrev pub decreases-do_for_players : goal.decreases-do_for_players
decreases-do_for_players g l = 9 * length l.inside.now + 5

abbrev pub decreases-for_cards : goal.decreases-for_cards
decreases-for_cards g l = 9 * length l.inside.now + 5

abbrev pub decreases-for_these : goal.decreases-for_these
decreases-for_these g l = 9 * length l.inside.now + 4

abbrev pub decreases-do_for : goal.decreases-do_for
decreases-do_for g l = 9 * length l.inside.now + 3

abbrev pub decreases-do_inside : goal.decreases-do_inside
decreases-do_inside g l = 9 * length l.code.now + 2

abbrev pub decreases-do_few : goal.decreases-do_few
decreases-do_few g l = 9 * length l.code.now + 1

-- what is left to do, from here, leads to what all leads to
abbrev pub invariant-do_block-loop-first : goal.invariant-do_block-loop-first
invariant-do_block-loop-first g l =
    record {
      shorter : length l.rest ≤ length l.fn.code;
      stands : IsContextOf l.context l.board.laid l.frames.items;
      keeps : Keeps l.fn.board l.board;
      dealing : g.D.Dealer.dealing l.dealer ≡ g.D.Dealer.dealing l.fn.dealer;
      shuffled : HasShuffled (g.D.Dealer.dealing l.fn.dealer) (g.D.Dealer.state l.fn.dealer) (g.D.Dealer.state l.dealer);
      well : AreEffectsUnder l.context.about.now.sheet l.context.scope.now (effects_in (list_seen l.rest));
      simple : AreSimple (list_seen l.rest);
      does : does l.context.about.now (g.D.Dealer.dealing l.fn.dealer) l.context.scope.now (effects_in (list_seen l.rest))
          (point_of l.board.laid l.frames.items (g.D.Dealer.state l.dealer))
          ≡ does l.context.about.now (g.D.Dealer.dealing l.fn.dealer) l.context.scope.now (effects_in (list_seen l.fn.code))
          (point_of l.fn.board.laid l.fn.frames.items (g.D.Dealer.state l.fn.dealer));
    }

abbrev pub decreases-do_block-loop-first : goal.decreases-do_block-loop-first
decreases-do_block-loop-first g l = length l.rest

abbrev pub invariant-repeat-loop : goal.invariant-repeat-loop
invariant-repeat-loop g l =
    IsContextOf l.context l.board.laid l.frames.items × (g.D.Dealer.dealing l.dealer ≡ g.D.Dealer.dealing l.fn.dealer) × Keeps l.fn.board l.board
    × (again (l.times - l.counter) (does l.context.about.now (g.D.Dealer.dealing l.fn.dealer) l.context.scope.now (effects_in (list_seen l.inside)))
    (point_of l.board.laid l.frames.items (g.D.Dealer.state l.dealer))
    ≡ again l.times (does l.context.about.now (g.D.Dealer.dealing l.fn.dealer) l.context.scope.now (effects_in (list_seen l.inside)))
    (point_of l.fn.board.laid l.fn.frames.items (g.D.Dealer.state l.fn.dealer)))
    × HasShuffled (g.D.Dealer.dealing l.fn.dealer) (g.D.Dealer.state l.fn.dealer) (g.D.Dealer.state l.dealer)

abbrev pub invariant-do_for_players-loop-player : goal.invariant-do_for_players-loop-player
invariant-do_for_players-loop-player g l =
    IsContextOf l.context l.board.laid l.frames.items × (g.D.Dealer.dealing l.dealer ≡ g.D.Dealer.dealing l.fn.dealer) × Keeps l.fn.board l.board
    × (fold
    (λ mid member. does l.context.about.now (g.D.Dealer.dealing l.fn.dealer) (l.context.scope.now ++ member ∷ []) (effects_in (list_seen l.inside)) mid)
    (point_of l.board.laid l.frames.items (g.D.Dealer.state l.dealer))
    (map (λ n. player_bound n) (drop l.player (below l.context.about.now.sheet.players)))
    ≡ fold
    (λ mid member. does l.context.about.now (g.D.Dealer.dealing l.fn.dealer) (l.context.scope.now ++ member ∷ []) (effects_in (list_seen l.inside)) mid)
    (point_of l.fn.board.laid l.fn.frames.items (g.D.Dealer.state l.fn.dealer)) (map (λ n. player_bound n) (below l.context.about.now.sheet.players)))
    × HasShuffled (g.D.Dealer.dealing l.fn.dealer) (g.D.Dealer.state l.fn.dealer) (g.D.Dealer.state l.dealer)
    × ((other : PureBind CardValue) × (l.scope ≡ l.context.scope.now ++ other ∷ []))

abbrev pub invariant-for_these-loop-card : goal.invariant-for_these-loop-card
invariant-for_these-loop-card g l =
    IsContextOf l.context l.board.laid l.frames.items × (g.D.Dealer.dealing l.dealer ≡ g.D.Dealer.dealing l.fn.dealer) × Keeps l.fn.board l.board
    × (fold
    (λ mid member. does l.context.about.now (g.D.Dealer.dealing l.fn.dealer) (l.context.scope.now ++ member ∷ []) (effects_in (list_seen l.inside)) mid)
    (point_of l.board.laid l.frames.items (g.D.Dealer.state l.dealer)) (map (λ c. card_bound c) (values_seen (drop l.card-index l.cards)))
    ≡ fold
    (λ mid member. does l.context.about.now (g.D.Dealer.dealing l.fn.dealer) (l.context.scope.now ++ member ∷ []) (effects_in (list_seen l.inside)) mid)
    (point_of l.fn.board.laid l.fn.frames.items (g.D.Dealer.state l.fn.dealer)) (map (λ c. card_bound c) (values_seen l.cards)))
    × HasShuffled (g.D.Dealer.dealing l.fn.dealer) (g.D.Dealer.state l.fn.dealer) (g.D.Dealer.state l.dealer)
    × ((other : PureBind CardValue) × (l.scope ≡ l.context.scope.now ++ other ∷ []))
