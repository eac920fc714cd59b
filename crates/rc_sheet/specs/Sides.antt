-- Sides of equations as the reading has them.
use Rattle.rc_ast.specs.Names.{who_seen}
use Rattle.rc_ast.specs.Expressions.{card_seen, int_seen}
use Rattle.rc_sheet.specs.ReadExpressions.{number_side, card_side, value_side, owner_side}
use Rattle.rc_sheet.specs.ReadExpressions.{Side as PureSide}
use Rattle.rc_sheet.specs.declared.sides.Side.{Side}
use Rattle.rc_sheet.specs.declared.sides.Side.TheVariants.{Number, Card, Value, Owner}

abbrev pub side_seen : Side → PureSide
side_seen (Number value) = number_side (int_seen value)
side_seen (Card card) = card_side (card_seen card)
side_seen (Value card attr) = value_side (card_seen card) attr
side_seen (Owner who) = owner_side (who_seen who)
