use Rattle.std.proofs.Common.{◌≡◌, drop}
use Rattle.rc_form.specs.Form.{trees_of, packed}
use Rattle.rc_resolve.specs.Known.{with_all, all_points_in}
use Rattle.rc_resolve.proofs.known.Known.add_all_points.Given as goal

-- what is known so far and what is left to mention are the whole
abbrev pub invariant-loop-line : goal.invariant-loop-line
invariant-loop-line l =
    with_all l.self (all_points_in (packed (trees_of (drop l.line-index l.lines))))
    ≡ with_all l.initial.self (all_points_in (packed (trees_of l.lines)))
