-- The texts of the errors of reading.
use Rattle.std.specs.Prelude.{ℕ, List, codes}
use Rattle.rc_outside.specs.declared.errors.ReadFail.{ReadFail}
use Rattle.rc_outside.specs.declared.errors.ReadFail.TheVariants.{ReadFault, TooLong, Memory}

abbrev pub read_fail_text : ReadFail → List ℕ
read_fail_text ReadFault = codes "a read failed"
read_fail_text TooLong = codes "the input is too long"
read_fail_text Memory = codes "out of memory"
