-- How reading a house text ends.
use Rattle.std.specs.Prelude.{◌≡◌, ℕ, Result, Ok, Err}
use Rattle.rc_text.specs.declared.reading.TextFail.{TextFail}
use Rattle.rc_text.specs.declared.reading.TextFail.TheVariants.{Fault, Memory}

-- what holds of a fault's line; nothing is said where memory ran out
abbrev pub IfTextFault : TextFail → (ℕ → Type 0) → Type 0
IfTextFault (Fault line) P = P line
IfTextFault Memory P = Unit {0}

-- It ends with this text, as the view sees it, or with a fault at this line, unless memory ran out.
abbrev pub Gives : {X A : Type 0} → (X → A) → Result X TextFail → Result A ℕ → Type 0
Gives view (Ok text) told = told ≡ Ok (view text)
Gives view (Err fail) told = IfTextFault fail (λ line. told ≡ Err line)
