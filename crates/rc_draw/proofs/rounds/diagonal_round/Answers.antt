use Rattle.std.proofs.Common.{arith, refl, ap}
use Rattle.rand_chacha.specs.Block.{diagonal_round}
use Rattle.rc_draw.proofs.rounds.diagonal_round.Goals as goal

pub returns : goal.returns
unfolding diagonal_round
returns c =
    let b = c.left_by_one.ensures in
    let d = c.left_by_three.ensures in
    let e = c.left_by_two.ensures in
    rw (
      ← ap (λ w. w.0) b,
      ← ap (λ w. w.1) b,
      ← ap (λ w. w.2) b,
      ← ap (λ w. w.3) b,
      ← ap (λ w. w.0) e,
      ← ap (λ w. w.1) e,
      ← ap (λ w. w.2) e,
      ← ap (λ w. w.3) e,
      ← ap (λ w. w.0) d,
      ← ap (λ w. w.1) d,
      ← ap (λ w. w.2) d,
      ← ap (λ w. w.3) d,
      ← c.quarter_rounds.ensures 0 (omega arith),
      ← c.quarter_rounds.ensures 1 (omega arith),
      ← c.quarter_rounds.ensures 2 (omega arith),
      ← c.quarter_rounds.ensures 3 (omega arith),
      ap (λ w. w.0) c.left_by_three-2.ensures,
      ap (λ w. w.1) c.left_by_three-2.ensures,
      ap (λ w. w.2) c.left_by_three-2.ensures,
      ap (λ w. w.3) c.left_by_three-2.ensures,
      ap (λ w. w.0) c.left_by_two-2.ensures,
      ap (λ w. w.1) c.left_by_two-2.ensures,
      ap (λ w. w.2) c.left_by_two-2.ensures,
      ap (λ w. w.3) c.left_by_two-2.ensures,
      ap (λ w. w.0) c.left_by_one-2.ensures,
      ap (λ w. w.1) c.left_by_one-2.ensures,
      ap (λ w. w.2) c.left_by_one-2.ensures,
      ap (λ w. w.3) c.left_by_one-2.ensures,
    ) refl
