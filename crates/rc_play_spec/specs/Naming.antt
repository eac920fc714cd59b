-- What items bind, as marks; and the legend, which tells the faces by their numbers.
use Rattle.std.specs.Prelude.{ℕ, ◌==◌, List, [], ◌++◌, length, map, flat_map, filter, codes, decimal, slice_index_or, Option, Some, None}
use Rattle.rc_base.specs.Numbers.{below}
use Rattle.rc_base.specs.Transcript.{Pick}
use Rattle.rc_sheet_spec.specs.Sheet.{Sheet}
use Rattle.rc_play_spec.specs.Shape.{Shape, face_at, face_number}
use Rattle.rc_play_spec.specs.About.{About}
use Rattle.rc_play_spec.specs.Step.{Config, Stop, decide, is_done, is_limit}
use Rattle.rc_play_spec.specs.Stop.{Stopped}
use Rattle.rc_play_spec.specs.ItemBounds.{Bound, bounds_at}

-- ---- marks

-- those of a choice at a stop; there are none but at a decision
abbrev pub marks_by : About → ℕ → Stop → Config → List Bound
marks_by about x (decide seat site) c = bounds_at about site x c
marks_by about x is_done c = []
marks_by about x is_limit c = []

abbrev pub marks_there : About → Option (Stopped ℕ) → Pick → List Bound
marks_there about None p = []
marks_there about (Some at) p = marks_by about p.item at.stop at.config

-- ---- the legend

abbrev pub word_at : List (List ℕ) → ℕ → List ℕ
word_at words n = slice_index_or words n []

-- an attribute and its value
abbrev pub pair_text : Sheet → ℕ × ℕ → List ℕ
pair_text sheet pair = codes " " ++ (word_at sheet.names.attrs pair.0 ++ (codes " " ++ word_at sheet.names.values pair.1))

abbrev pub face_line : Sheet → Shape → ℕ → List ℕ
face_line sheet shape face = codes "face " ++ (decimal face ++ flat_map (pair_text sheet) (face_at shape face))

-- the numbers of faces: each is the smallest id with its face
abbrev pub face_numbers : Shape → List ℕ
face_numbers shape = filter (λ id. face_number shape id == id) (below (length shape.faces))

-- the lines of the legend, without their LFs
abbrev pub legend_of : Sheet → Shape → List (List ℕ)
legend_of sheet shape = map (face_line sheet shape) (face_numbers shape)
