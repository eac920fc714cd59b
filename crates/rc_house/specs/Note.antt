-- What a command notes where all went well.
use Rattle.std.specs.Prelude.{ℕ, List, [], ◌++◌, codes, decimal}
use Rattle.rc_base.specs.Transcript.{line}
use Rattle.rc_house.specs.declared.note.Note.{Note}
use Rattle.rc_house.specs.declared.note.Note.TheVariants.{Nothing, Looks}

-- how many decisions looked for the totals of playouts, and how many of them found them remembered
abbrev pub looks_line : ℕ → ℕ → List ℕ
looks_line looks hits = line (codes "cache looks " ++ decimal looks ++ codes " hits " ++ decimal hits)

abbrev pub note_line : Note → List ℕ
note_line Nothing = []
note_line (Looks looks hits) = looks_line looks hits
