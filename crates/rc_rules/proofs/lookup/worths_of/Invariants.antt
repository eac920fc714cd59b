use Rattle.std.proofs.Common.{◌≡◌, map, take}
use Rattle.rc_base.specs.Deck.{points_of}
use Rattle.rc_deck.specs.Points.{entries_of}
use Rattle.rc_rules.proofs.lookup.worths_of.Given as goal

abbrev pub invariant-loop-id : goal.invariant-loop-id
invariant-loop-id l = l.row.items ≡ map (points_of (entries_of l.map)) (take l.id l.shape.faces)
