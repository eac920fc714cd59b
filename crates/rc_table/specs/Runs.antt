-- Cards that go together from one location to an end of another, or of the same.
use Rattle.std.specs.Prelude.{◌≡◌, ℕ, ◌==◌, ◌++◌, Bool, true, false, not, List, [], ◌∷◌, reverse, filter, fold}
use Rattle.std.specs.Prelude.{slice_index_or, slice_set}
use Rattle.rc_sheet_spec.specs.Sheet.{End, top, bottom}
use Rattle.rc_play_spec.specs.Shape.{Shape}
use Rattle.rc_play_spec.specs.Table.{Table, cleared}
use Rattle.rc_play_spec.specs.Effects.{put}
use Rattle.rc_table.specs.declared.runs.Side.{Side}
use Rattle.rc_table.specs.declared.runs.Side.TheVariants.{Top, Bottom}

abbrev pub end_of : Side → End
end_of Top = top
end_of Bottom = bottom

-- cards put at an end of a location, the first one first
abbrev pub put_each : Shape → End → ℕ → List ℕ → Table → Table
put_each shape end loc ids table = fold (λ table id. put shape end id loc table) table ids

-- cards put at an end of a list, each after the one before
abbrev pub all_added : End → List ℕ → List ℕ → List ℕ
all_added top ids list = list ++ ids
all_added bottom ids list = reverse ids ++ list

-- a list without some ids
abbrev pub left_out : List ℕ → List ℕ → List ℕ
left_out [] list = list
left_out (id ∷ ids) list = left_out ids (filter (λ other. not (other == id)) list)

-- lists, where some ids are out of one of them and at an end of another or of the same
abbrev pub run_moved : End → ℕ → ℕ → List ℕ → List (List ℕ) → List (List ℕ)
run_moved end from loc ids lists =
    let out = slice_set lists from (left_out ids (slice_index_or lists from [])) in
    slice_set out loc (all_added end ids (slice_index_or out loc []))

-- the same of a table, in which none of these cards is marked then
abbrev pub run_put : End → ℕ → ℕ → List ℕ → Table → Table
run_put end from loc ids table =
    record { lists = run_moved end from loc ids table.lists; numbers = table.numbers; marks = cleared ids table.marks }

-- whether a card's flag isn't set
abbrev pub is_free : List Bool → ℕ → Bool
is_free flags id = not (slice_index_or flags id false)

-- the flags of these cards, set
abbrev pub flagged : List ℕ → List Bool → List Bool
flagged [] flags = flags
flagged (id ∷ ids) flags = flagged ids (slice_set flags id true)

-- no card comes whose flag is set, and none twice
abbrev pub AreFresh : List Bool → List ℕ → Type 0
AreFresh flags [] = Unit {0}
AreFresh flags (id ∷ ids) = (is_free flags id ≡ true) × AreFresh (slice_set flags id true) ids
