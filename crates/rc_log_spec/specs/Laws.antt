-- Statements of laws of logs.
use Rattle.std.specs.Prelude.{◌≡◌, ◌↔◌, ℕ, ◌<◌, ◌≤◌, List, length, take, Ok, Err}
use Rattle.std.specs.List.{AllByRecursion}
use Rattle.rc_play_spec.specs.Shape.{Shape}
use Rattle.rc_play_spec.specs.View.{View}
use Rattle.rc_log_spec.specs.Log.{LogText, text_of, log_text, most_told, largest_word, IsSmall, Counts, IsLog}
use Rattle.rc_play_spec.specs.LineGrammar.{IsFirstFault}
use Rattle.rc_log_spec.specs.Reading.{read_log}

-- a log is read off its text, and what is read has the bytes as its text
abbrev pub LogIsRead : Type 0
LogIsRead = (shape : Shape) (t : LogText) → IsSmall shape → IsLog shape t → read_log shape (text_of t) ≡ Ok t

abbrev pub ReadIsLog : Type 0
ReadIsLog =
    (shape : Shape) (bytes : List ℕ) (t : LogText) → IsSmall shape → read_log shape bytes ≡ Ok t →
    IsLog shape t × (bytes ≡ text_of t)

-- the first line that no log of a shape goes on with
abbrev pub IsFirstFaultOf : Shape → List ℕ → ℕ → Type 0
IsFirstFaultOf shape bytes n = IsFirstFault (IsLog shape) text_of bytes n

-- a fault is at the first faulty line, and at no other
abbrev pub FaultIsFirst : Type 0
FaultIsFirst =
    (shape : Shape) (bytes : List ℕ) (n : ℕ) → IsSmall shape → read_log shape bytes ≡ Err n →
    IsFirstFaultOf shape bytes n

abbrev pub FirstIsFault : Type 0
FirstIsFault =
    (shape : Shape) (bytes : List ℕ) (n : ℕ) → IsSmall shape → IsFirstFaultOf shape bytes n →
    read_log shape bytes ≡ Err n

-- each of these views of a seat counts as one of a log, and there aren't too many
abbrev pub AllCount : Shape → ℕ → List View → Type 0
AllCount shape seat views = AllByRecursion (Counts shape seat) views × (length views ≤ largest_word)

-- the log of such views is a log, and each log is the log of such views
abbrev pub ViewsHaveLog : Type 0
ViewsHaveLog =
    (shape : Shape) (seat number : ℕ) (views : List View) →
    seat < shape.players → number ≤ largest_word → AllCount shape seat views →
    IsLog shape (log_text seat number views)

abbrev pub LogHasViews : Type 0
LogHasViews =
    (shape : Shape) (t : LogText) → IsLog shape t →
    (views : List View) × AllCount shape t.seat views × (log_text t.seat t.number views ≡ t)

-- two logs of a seat in a match are equal exactly where the first views and the numbers of views are
abbrev pub LogsTellViews : Type 0
LogsTellViews =
    (shape : Shape) (seat number : ℕ) (views views' : List View) →
    IsSmall shape → seat < shape.players → number ≤ largest_word →
    AllCount shape seat views → AllCount shape seat views' →
    (text_of (log_text seat number views) ≡ text_of (log_text seat number views'))
    ↔ ((take most_told views ≡ take most_told views') × (length views ≡ length views'))
