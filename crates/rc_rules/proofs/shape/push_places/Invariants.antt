use Rattle.std.proofs.Common.{◌≡◌, ◌++◌, map}
use Rattle.rc_base.specs.Numbers.{below}
use Rattle.rc_table.specs.Places.{place_seen}
use Rattle.rc_rules.proofs.shape.push_places.Given as goal

abbrev pub invariant-loop-number : goal.invariant-loop-number
invariant-loop-number l =
    map place_seen l.list.items
    ≡ map place_seen l.fn.list.items ++ map (λ n. record { kind = l.name.kind; class = l.name.class; owner = n }) (below l.number)
