-- The stages of a sheet in the order of the text, as they are passed.
use Rattle.std.specs.Prelude.{ℕ, zero, suc, List, [], ◌∷◌}
use Rattle.std.specs.declared.ops.ControlFlow.{ControlFlow}
use Rattle.std.specs.declared.ops.ControlFlow.TheVariants.{Break, Continue}
use Rattle.rc_sheet_spec.specs.Sheet.{Class}

-- the class of the stage behind so many, or how many are left to be passed
abbrev pub passed : List Class → ℕ → ControlFlow Class ℕ
passed [] number = Continue number
passed (class ∷ classes) zero = Break class
passed (class ∷ classes) (suc number) = passed classes number
