use Rattle.std.proofs.Common.{◌≡◌, ◌==◌, length, get_or, sym, ◌∙◌, arith}
use Rattle.std.proofs.Common.{below_more}
use Rattle.std.proofs.lemmas.Bool.{eq-eqb, ne_eqb}
use Rattle.std.proofs.lemmas.List.Sums.{position_or_len_is}
use Rattle.rc_play_spec.specs.House.{ahead}
use Rattle.rc_measure.proofs.leads.leader.Goals as goal

pub returns-then-ahead-eq0 : goal.returns-then-ahead-eq0
returns-then-ahead-eq0 c =
    let points = c.args.points.now in
    let none : ahead points (get_or points c.loop-k.k 0) ≡ 0 = sym c.ahead.ensures.count ∙ c.if-ahead-eq0.true in
    sym (position_or_len_is (λ most. ahead points most == 0) points c.loop-k.k 0 (omega (arith, c.loop-k-test.true)) c.loop-k.invariant
    (λ less. eq-eqb (ahead points (get_or points c.loop-k.k 0)) 0 none))

pub loop-k-preserved : goal.loop-k-preserved
loop-k-preserved c =
    let points = c.args.points.now in
    below_more _ _ c.loop-k.invariant (ne_eqb (ahead points (get_or points c.loop-k.k 0)) 0 (λ e. c.if-ahead-eq0.false (c.ahead.ensures.count ∙ e)))

pub returns : goal.returns
returns c =
    let points = c.args.points.now in
    let all : c.loop-k.k ≡ length points = omega (arith, c.loop-k-test.false, c.loop-k.auto.k-end) in
    sym (position_or_len_is (λ most. ahead points most == 0) points (length points) 0 (omega arith)
    (λ j less. c.loop-k.invariant j (omega (arith, less, all))) (λ less. absurd (omega (arith, less))))
