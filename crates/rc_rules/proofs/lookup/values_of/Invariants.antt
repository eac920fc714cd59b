use Rattle.std.proofs.Common.{◌≡◌, map, take}
use Rattle.rc_base.specs.Deck.{value_at}
use Rattle.rc_rules.proofs.lookup.values_of.Given as goal

abbrev pub invariant-loop-id : goal.invariant-loop-id
invariant-loop-id l = l.row.items ≡ map (λ face. value_at face l.name) (take l.id l.shape.faces)
