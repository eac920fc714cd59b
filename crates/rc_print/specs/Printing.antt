-- What a printer knows of the numbers in a part of a sheet.
use Rattle.std.specs.Prelude.{ℕ, List, [], map, codes, slice_index_or}
use Rattle.rc_sheet_spec.specs.Naming.{Naming, sheet_naming}
use Rattle.rc_ast.specs.declared.sheet.Sheet.{Sheet}
use Rattle.rc_print.specs.declared.words.Variable.{Variable}
use Rattle.rc_print.specs.declared.words.Variable.TheVariants.{Own, Named}
use Rattle.rc_ast.specs.Sheet.{sheet_seen}

abbrev pub naming_seen : Sheet → Naming
naming_seen sheet = sheet_naming (sheet_seen sheet)

-- the word of a variable
abbrev pub variable_word : Sheet → Variable → List ℕ
variable_word sheet Own = codes "'SELF"
variable_word sheet (Named var) = slice_index_or sheet.names.vars.items var []

-- the words of the variables in scope
abbrev pub bound_seen : Sheet → List Variable → List (List ℕ)
bound_seen sheet bound = map (variable_word sheet) bound
