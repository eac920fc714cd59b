-- What `bench` plays and writes. It reads nothing.
use Rattle.std.specs.Prelude.{◌≡◌, ℕ, length}
use Rattle.rc_play_spec.specs.About.{About, about_of}
use Rattle.rc_play_spec.specs.House.{standings_of}
use Rattle.rc_play_spec.specs.Plan.{Plan}
use Rattle.rc_series.specs.Series.{matches_of, looks_of}
use Rattle.rc_sheet_spec.specs.Sheet.{Sheet}
use Rattle.rc_trick.specs.Bench.{bench_plan, bench_text}
use Rattle.rc_trick.specs.Trick.{IsTrickGame}
use Rattle.rc_house.specs.declared.options.Options.{Options}
use Rattle.rc_house.specs.Answer.{Answer, text}
use Rattle.rc_house.specs.Note.{looks_line}
use Rattle.rc_house.specs.Players.{AreHits, counted_playouts}

-- The summary of a plan's matches. It is the same whoever plays, and whatever the book has.
abbrev pub summed_up : Options → ℕ → About → Plan → ℕ → Answer
summed_up options number about plan found =
    text (bench_text number (matches_of about plan) (standings_of plan (matches_of about plan)))
    (looks_line (length (looks_of about plan)) found) (counted_playouts options (looks_of about plan))

abbrev pub IsSummedUp : Options → ℕ → About → Plan → Answer → Type 0
IsSummedUp options number about plan answer =
    (found : ℕ) × AreHits options (looks_of about plan) found × (answer ≡ summed_up options number about plan found)

-- what `bench` writes, where this is the sheet of its game
abbrev pub IsBenched : Options → ℕ → Sheet → Answer → Type 0
IsBenched options number sheet answer =
    IsSummedUp options number (about_of sheet (bench_plan number).turns) (bench_plan number) answer

abbrev pub IsBenchAnswer : Options → ℕ → Answer → Type 0
IsBenchAnswer options number answer = (sheet : Sheet) × IsTrickGame sheet × IsBenched options number sheet answer
