use Rattle.std.proofs.Common.{◌≡◌, ◌<◌, ◌^◌, take}
use Rattle.rc_base.specs.Literal as literal
use Rattle.rc_form.proofs.literal.value_of.Given as goal

abbrev pub invariant-loop-digit : goal.invariant-loop-digit
invariant-loop-digit l =
    record {
      value : l.value ≡ literal.value_of (take l.digit-index l.digits);
      small : l.value < 10 ^ l.digit-index;
    }
