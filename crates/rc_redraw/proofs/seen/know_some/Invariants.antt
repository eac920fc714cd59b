use Rattle.std.proofs.Common.{◌≡◌, drop}
use Rattle.std.specs.List.{list_any}
use Rattle.rc_view.specs.Seen.{sight_seen}
use Rattle.rc_redraw.specs.Hiding.{knows}
use Rattle.rc_redraw.proofs.seen.know_some.Given as goal

abbrev pub invariant-loop-at : goal.invariant-loop-at
invariant-loop-at l =
    list_any (λ sight. knows (sight_seen sight)) (drop l.at l.sights)
    ≡ list_any (λ sight. knows (sight_seen sight)) l.sights
