-- What a check answers.
use Rattle.std.specs.Prelude.{◌≡◌, Result, Ok, Err}
use Rattle.rc_check.specs.declared.fault.SheetFault.{SheetFault}
use Rattle.rc_check.specs.Summary.{Summary}
use Rattle.rc_check.specs.declared.fail.SheetFail.{SheetFail}
use Rattle.rc_check.specs.declared.fail.SheetFail.TheVariants as fails

-- what holds of a fault; nothing is said where memory ran out
abbrev pub IfSheetFault : SheetFail → (SheetFault → Type 0) → Type 0
IfSheetFault fails.Memory P = Unit {0}
IfSheetFault (fails.Fault fault) P = P fault

-- The answer is what checking gives, unless memory ran out: what the parts leave behind, or the first fault.
abbrev pub Checks : {A : Type 0} → Result Summary SheetFault → Result A SheetFail → Summary → Type 0
Checks checked (Ok u) seen = checked ≡ Ok seen
Checks checked (Err fail) seen = IfSheetFault fail (λ fault. checked ≡ Err fault)
