use Rattle.std.proofs.Common.{◌-◌, arith, get_or}
use Rattle.rc_form.proofs.Digits.{digit_at, more_fits, all_fit}
use Rattle.rc_form.proofs.literal.value_of.Goals as goal

pub overflow_mul-value : goal.overflow_mul-value
overflow_mul-value c =
    let fits = more_fits c.loop-digit.value c.loop-digit.digit-index 0 c.loop-digit.invariant.small (omega (arith, c.requires.few)) (omega arith) in
    omega arith

pub overflow_add-value : goal.overflow_add-value
overflow_add-value c =
    let digit = digit_at c.args.digits.now c.loop-digit.digit-index c.requires.digits c.loop-digit-test.true in
    let fits = more_fits c.loop-digit.value c.loop-digit.digit-index (get_or c.args.digits.now c.loop-digit.digit-index 0 - 48) c.loop-digit.invariant.small (omega (arith, c.requires.few)) (omega arith) in
    omega arith

pub returns-clause-small : goal.returns-clause-small
returns-clause-small c = all_fit c.loop-digit.value c.loop-digit.digit-index c.loop-digit.invariant.small (omega (arith, c.requires.few))
