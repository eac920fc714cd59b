-- How what a sink got adds up over calls.
use Rattle.std.proofs.Common.{ℕ, ◌+◌, ◌-◌, List, ◌++◌, length, take, drop, Option, Some, None, ap, ◌∙◌, append_assoc}
use Rattle.std.proofs.lemmas.List.{take_rest}
use Rattle.std.proofs.Math.Seq.{take-add}
use Rattle.rc_outside.specs.Sink.{Got}

-- what a sink got first and what it got then
pub Got-append : (before between after : Option (List ℕ)) (first then : List ℕ) → Got before between first → Got between after then → Got before after (first ++ then)
Got-append None between after first then got more = tt
Got-append (Some bytes) between after first then got more =
    let moved = rw got at more in moved ∙ ap Some (append_assoc bytes first then)

-- a front of a piece, and then a front of the rest of it
pub Got-take_more : (before between after : Option (List ℕ)) (piece : List ℕ) (done count : ℕ) → Got before between (take done piece) → Got between after (take count (take (length piece - done) (drop done piece))) → Got before after (take (done + count) piece)
Got-take_more before between after piece done count got more =
    let rest = rw (take_rest piece done) at more in
    rw (take-add) (Got-append before between after (take done piece) (take count (drop done piece)) got rest)
