use Rattle.std.proofs.Common.{◌≡◌, ◌+◌, ◌-◌, [], ◌∷◌, ◌++◌, List, ℤ, to_z, of_z, w64, sym, ap, ◌∙◌, arith}
use Rattle.std.proofs.lemmas.Int.{to_z-of_z}
use Rattle.rc_seatlog.proofs.RowLemmas.{behind_found, integers_more, integers_stop}
use Rattle.rc_log_spec.specs.Fields.{integers_in}
use Rattle.rc_seatlog.proofs.lines.integers_in.Goals as goal

pub returns-in-None : goal.returns-in-None
returns-in-None c =
    sym c.loop-i.invariant ∙ integers_stop c.args.count c.loop-i.i c.loop-i.rest.now c.loop-i.found.items c.loop-i-test.true c.in-None.ensures

pub loop-i-preserved : goal.loop-i-preserved
loop-i-preserved c =
    let left = λ (found : List ℤ). behind_found found (integers_in (c.args.count - (c.loop-i.i + 1)) c.in-Some.later.now) in
    let fits : to_z w64 (of_z w64 c.in-Some.n) ≡ c.in-Some.n = grind (arith, to_z-of_z) in
    ap left (c.in_ok-push-in-Some.ensures.items ∙ ap (λ z. c.loop-i.found.items ++ z ∷ []) fits)
    ∙ integers_more c.args.count c.loop-i.i c.loop-i.rest.now c.in-Some.n c.in-Some.later.now c.loop-i.found.items c.loop-i-test.true c.in-Some.ensures
    ∙ c.loop-i.invariant
