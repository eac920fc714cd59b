use Rattle.std.proofs.Common.{◌≡◌, refl, ap, ◌∙◌, arith, add-one}
use Rattle.rand_chacha.specs.Block.{column_round, diagonal_round, double_rounds}
use Rattle.rc_draw.specs.Rows.{state_of}
use Rattle.rc_draw.proofs.block.last_rows.Goals as goal

pub rounds-init : goal.rounds-init
unfolding double_rounds
rounds-init c = refl

pub rounds-preserved : goal.rounds-preserved
unfolding double_rounds
rounds-preserved c =
    rw add-one (c.diagonal_round-rows.ensures
    ∙ ap diagonal_round (c.column_round.ensures ∙ ap column_round c.rounds.invariant))

pub returns : goal.returns
returns c =
    let done : c.rounds._round ≡ 4 = omega arith in
    c.rounds.invariant ∙ ap (λ n. double_rounds n (state_of c.args.first)) done
