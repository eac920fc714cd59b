-- Effects as the pure trees have them. A row is a vector's items.
use Rattle.std.specs.Prelude.{List, map}
use Rattle.rc_sheet_spec.specs.Sheet.{top, bottom, move, move_all, remember, forget, shuffle, set_to, increase, decrease, when, repeat, for_each, next_is, turn_round, peek, Effects, no_effect, effect}
use Rattle.rc_sheet_spec.specs.Sheet.{End as PureEnd, Effect as PureEffect}
use Rattle.rc_sheet_spec.specs.Lists.{effects_from}
use Rattle.rc_ast.specs.declared.effects.End.{End}
use Rattle.rc_ast.specs.declared.effects.End.TheVariants.{Top, Bottom}
use Rattle.rc_ast.specs.declared.effects.Effect.{Effect, Move, MoveAll, Remember, Forget, Shuffle, Set, Inc, Dec, If', Repeat', Each', Next, Reverse, Peek, Row_of-Effect, end_of-Effect, more_of-Effect}
use Rattle.rc_ast.specs.Names.{who_seen, loc_seen, num_seen}
use Rattle.rc_ast.specs.Expressions.{card_seen, coll_seen, int_seen, test_seen, domain_seen}

abbrev pub end_seen : End → PureEnd
end_seen Top = top
end_seen Bottom = bottom

abbrev mutual
  pub effect_seen : Effect → PureEffect
  effect_seen (Move card end loc) = move (card_seen card) (end_seen end) (loc_seen loc)
  effect_seen (MoveAll cards end loc) = move_all (coll_seen cards) (end_seen end) (loc_seen loc)
  effect_seen (Remember card end loc) = remember (card_seen card) (end_seen end) (loc_seen loc)
  effect_seen (Forget card) = forget (card_seen card)
  effect_seen (Shuffle loc) = shuffle (loc_seen loc)
  effect_seen (Set num value) = set_to (num_seen num) (int_seen value)
  effect_seen (Inc num value) = increase (num_seen num) (int_seen value)
  effect_seen (Dec num value) = decrease (num_seen num) (int_seen value)
  effect_seen (If' test shape row) = when (test_seen test) (effects_of_row row)
  effect_seen (Repeat' count shape row) = repeat (int_seen count) (effects_of_row row)
  effect_seen (Each' domain bound shape row) = for_each (domain_seen domain) bound (effects_of_row row)
  effect_seen (Next who) = next_is (who_seen who)
  effect_seen Reverse = turn_round
  effect_seen (Peek cards who) = peek (coll_seen cards) (who_seen who)

  pub effects_of_row : {m : _} → Row_of-Effect m → Effects
  effects_of_row end_of-Effect = no_effect
  effects_of_row (more_of-Effect e rest) = effect (effect_seen e) (effects_of_row rest)

-- the trees of a vector's items
abbrev pub effects_seen : List Effect → Effects
effects_seen es = effects_from (map effect_seen es)
