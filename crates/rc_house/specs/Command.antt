-- The commands, as words name them.
use Rattle.std.specs.Prelude.{ℕ, ◌≡◌, ◌-◌, List, [], ◌∷◌, codes, Some}
use Rattle.rc_base.specs.Limits.{most_in_bench, most_players, most_matches}
use Rattle.rc_base.specs.Literal.{natural}
use Rattle.rc_house.specs.Words.{IsNumber, HasOptions, usual_options}
use Rattle.rc_house.specs.declared.options.Options.{Options}
use Rattle.rc_house.specs.declared.reader.Playing.TheVariants as playing
use Rattle.rc_house.specs.declared.rival.Rival.{Rival}
use Rattle.rc_house.specs.declared.command.Command.{Command}
use Rattle.rc_house.specs.declared.command.Command.TheVariants.{Play, Check, Sheet, Bench, Migrate, Watch, Measure}
use Rattle.rc_house.specs.declared.command.Command.TheVariants.{Rival as SearchesFor}

-- the words behind `bench` are its number and its options
abbrev pub IsBench : List (List ℕ) → ℕ → Options → Type 0
IsBench words number options = (text : List ℕ) × (rest : List (List ℕ)) × (words ≡ text ∷ rest)
    × IsNumber 1 most_in_bench text number × HasOptions playing.Bench rest options

-- the words behind `watch` are a seat and the number of a match, counted from 0
abbrev pub IsWatch : List (List ℕ) → (seat number : ℕ) → Type 0
IsWatch words seat number = (text : List ℕ) × (other : List ℕ) × (words ≡ text ∷ other ∷ [])
    × IsNumber 0 (most_players - 1) text seat × IsNumber 0 (most_matches - 1) other number

-- how many decisions deep a search looks at most, and over how many rounds
abbrev pub deepest : ℕ
deepest = 4

abbrev pub most_rounds : ℕ
most_rounds = 100

-- these are the number of a strategy, counted from 0, how deep a search looks for it, its rounds and its key
abbrev pub SpellRival : (strategy depth rounds key : List ℕ) → Rival → Type 0
SpellRival strategy depth rounds key rival =
    IsNumber 0 (most_players - 1) strategy rival.strategy × IsNumber 1 deepest depth rival.depth
    × IsNumber 1 most_rounds rounds rival.rounds × (natural key ≡ Some rival.key)

-- the words behind `rival` are these four
abbrev pub IsRival : List (List ℕ) → Rival → Type 0
IsRival words rival = (strategy : List ℕ) × (depth : List ℕ) × (rounds : List ℕ) × (key : List ℕ)
    × (words ≡ strategy ∷ depth ∷ rounds ∷ key ∷ []) × SpellRival strategy depth rounds key rival

-- these words are the command
abbrev pub IsCommand : List (List ℕ) → Command → Type 0
IsCommand words (Play options) =
    (rest : List (List ℕ)) × (words ≡ codes "play" ∷ rest) × HasOptions playing.Play rest options
IsCommand words Check = words ≡ codes "check" ∷ []
IsCommand words Sheet = words ≡ codes "sheet" ∷ []
IsCommand words (Bench number options) =
    (rest : List (List ℕ)) × (words ≡ codes "bench" ∷ rest) × IsBench rest number options
IsCommand words Migrate = words ≡ codes "migrate" ∷ []
IsCommand words (Watch seat number) =
    (rest : List (List ℕ)) × (words ≡ codes "watch" ∷ rest) × IsWatch rest seat number
IsCommand words Measure = words ≡ codes "measure" ∷ []
IsCommand words (SearchesFor rival) = (rest : List (List ℕ)) × (words ≡ codes "rival" ∷ rest) × IsRival rest rival

-- what the command is told of who plays. One that plays nothing has the usual options
abbrev pub options_of : Command → Options
options_of (Play options) = options
options_of Check = usual_options
options_of Sheet = usual_options
options_of (Bench number options) = options
options_of Migrate = usual_options
options_of (Watch seat number) = usual_options
options_of Measure = usual_options
options_of (SearchesFor rival) = usual_options

-- how many workers are to play
abbrev pub workers_of : Command → ℕ
workers_of command = (options_of command).workers
