-- Which forms stand for effects, in a scope.
use Rattle.rc_base.specs.Tree.{Tree, Trees}
use Rattle.rc_sheet_spec.specs.Sheet.{End as Place, top, bottom, Loc, Effect, move, move_all, remember, forget, shuffle, set_to, increase, decrease, when, repeat, for_each, next_is, turn_round, peek, Effects, no_effect, effect}
use Rattle.rc_sheet_spec.specs.Rows.{◌▸◌, End, Some, Row, Atom}
use Rattle.rc_sheet_spec.specs.Naming.{Naming, Scope, bind, sort_of, Binder}
use Rattle.rc_sheet_spec.specs.StandsExpressions.{StandsOwner, StandsLoc, StandsNum, Two, StandsCard, StandsColl, StandsInt, StandsTest, StandsRange}

-- SPOT is `(top LOC)` or `(bottom LOC)`
abbrev pub StandsSpot : Naming → Scope → Place → Loc → Tree → Type 0
StandsSpot naming scope top loc = Row (Atom "top" ▸ StandsLoc naming scope loc ▸ End)
StandsSpot naming scope bottom loc = Row (Atom "bottom" ▸ StandsLoc naming scope loc ▸ End)

abbrev mutual
  -- EFFECT
  pub StandsEffect : Naming → Scope → Effect → Tree → Type 0
  StandsEffect naming scope (move card end loc) = Two "move" (StandsCard naming scope card) (StandsSpot naming scope end loc)
  StandsEffect naming scope (move_all cards end loc) =
      Row (Atom "move" ▸ Atom "all" ▸ StandsColl naming scope cards ▸ StandsSpot naming scope end loc ▸ End)
  StandsEffect naming scope (remember card end loc) =
      Two "remember" (StandsCard naming scope card) (StandsSpot naming scope end loc)
  StandsEffect naming scope (forget card) = Row (Atom "forget" ▸ StandsCard naming scope card ▸ End)
  StandsEffect naming scope (shuffle loc) = Row (Atom "shuffle" ▸ StandsLoc naming scope loc ▸ End)
  StandsEffect naming scope (set_to num value) = Two "set" (StandsNum naming scope num) (StandsInt naming scope value)
  StandsEffect naming scope (increase num value) = Two "inc" (StandsNum naming scope num) (StandsInt naming scope value)
  StandsEffect naming scope (decrease num value) = Two "dec" (StandsNum naming scope num) (StandsInt naming scope value)
  StandsEffect naming scope (when t effects) =
      Row (Atom "if" ▸ StandsTest naming scope t ▸ Some (StandEffects naming scope effects))
  StandsEffect naming scope (repeat times effects) =
      Row (Atom "repeat" ▸ StandsInt naming scope times ▸ Some (StandEffects naming scope effects))
  StandsEffect naming scope (for_each domain bound effects) =
      Row (Atom "all" ▸ StandsRange naming scope domain ▸ Binder naming bound
      ▸ Some (StandEffects naming (bind naming scope bound (sort_of domain)) effects))
  StandsEffect naming scope (next_is who) = Row (Atom "cycle" ▸ Atom "next" ▸ StandsOwner scope who ▸ End)
  StandsEffect naming scope turn_round = Row (Atom "cycle" ▸ Atom "reverse" ▸ End)
  StandsEffect naming scope (peek cards who) = Two "peek" (StandsColl naming scope cards) (StandsOwner scope who)

  pub StandEffects : Naming → Scope → Effects → Trees → Type 0
  StandEffects naming scope no_effect = End
  StandEffects naming scope (effect e effects) = StandsEffect naming scope e ▸ StandEffects naming scope effects
