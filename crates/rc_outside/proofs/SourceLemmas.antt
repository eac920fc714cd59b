-- How what a source gave adds up over calls.
use Rattle.std.proofs.Common.{ℕ, List, ◌++◌, Option, Some, None, sym, ap, ◌∙◌, append_assoc}
use Rattle.rc_outside.specs.Source.{Gave}

-- what a source gave first and what it gave then
pub Gave-append : (before between after : Option (List ℕ)) (first then : List ℕ) → Gave before between first → Gave between after then → Gave before after (first ++ then)
Gave-append None between after first then given more = tt
Gave-append (Some whole) between after first then given more =
    let moved = rw given.1 at more in
    (moved.0, moved.1, given.2 ∙ ap (λ rest. first ++ rest) moved.2 ∙ sym (append_assoc first then moved.0))
