-- Reading a log, line by line.
use Rattle.std.specs.Prelude.{ℕ, ◌==◌, nat_lt, min, ◌&&◌, if◌then◌else◌, List, [], ◌∷◌, ◌++◌, length, ℤ, Option, Some}
use Rattle.std.specs.Prelude.{None, Result}
use Rattle.rc_play_spec.specs.Control.{Frame, Control}
use Rattle.rc_play_spec.specs.Shape.{Shape}
use Rattle.rc_play_spec.specs.Sees.{sees}
use Rattle.rc_play_spec.specs.View.{Sight, View}
use Rattle.rc_play_spec.specs.Fields.{◌>>=◌, ◌or_else◌, behind, last}
use Rattle.rc_log_spec.specs.Lines.{header_text, opening_in, stop_in, made_in, frame_in, numbers_in, place_in}
use Rattle.rc_log_spec.specs.Lines.{total_in}
use Rattle.rc_log_spec.specs.Log.{LogText, most_told}
use Rattle.rc_play_spec.specs.LineGrammar.{Grammar, read_by}

-- Where a log stands: before its first line, behind it, behind whole stops, behind a stop's first line, among its
-- frames or its locations, or behind its last line.
pub data Place : Type 0 where
  outside : Place
  headed : Place
  between : (seat number : ℕ) (views : List View) → Place
  stopped : (seat number : ℕ) (views : List View) (turn site : ℕ) → Place
  framing : (seat number : ℕ) (views : List View) (v : View) → Place
  placing : (seat number : ℕ) (views : List View) (v : View) → Place
  ended : LogText → Place

abbrev pub begun : (seat turn site : ℕ) → List ℕ → View
begun seat turn site made =
    record {
      seat = seat;
      control = record { site = Some site; frames = []; turn = turn; made = made };
      numbers = [];
      sights = [];
    }

abbrev pub framed : Control → Frame → Control
framed c f = record { site = c.site; frames = c.frames ++ f ∷ []; turn = c.turn; made = c.made }

abbrev pub with_frame : View → Frame → View
with_frame v f = record { seat = v.seat; control = framed v.control f; numbers = v.numbers; sights = v.sights }

abbrev pub with_numbers : View → List ℤ → View
with_numbers v numbers = record { seat = v.seat; control = v.control; numbers = numbers; sights = v.sights }

abbrev pub with_sight : View → Sight → View
with_sight v sight = record { seat = v.seat; control = v.control; numbers = v.numbers; sights = v.sights ++ sight ∷ [] }

module _ (shape : Shape) where
  abbrev pub opened : ℕ × ℕ → Option Place
  opened x = if nat_lt x.0 shape.players then Some (between x.0 x.1 []) else None

  module _ (seat number : ℕ) (views : List View) where
    -- stops are numbered in their order, and only so many are told one by one
    abbrev pub stop_at : ℕ × ℕ × ℕ → Option Place
    stop_at x =
        if x.0 == length views && nat_lt (length views) most_told
        then Some (stopped seat number views x.1 x.2)
        else None

    abbrev pub total_at : ℕ → Option Place
    total_at stops =
        if length views == min most_told stops
        then Some (ended (record { seat = seat; number = number; views = views; stops = stops }))
        else None

    abbrev pub frame_at : View → Frame → Option Place
    frame_at v f =
        if nat_lt (length v.control.frames) 64 then Some (framing seat number views (with_frame v f)) else None

    -- behind the last location the stop is whole
    abbrev pub behind_place : View → Place
    behind_place v =
        if length v.sights == length shape.places
        then between seat number (views ++ v ∷ [])
        else placing seat number views v

    abbrev pub place_at : View → ℕ × Sight → Option Place
    place_at v x = if x.0 == length v.sights then Some (behind_place (with_sight v x.1)) else None

  -- which line may stand where, and where the log stands behind it
  abbrev pub takes : Place → List ℕ → Option Place
  takes outside bytes = behind header_text bytes >>= last headed
  takes headed bytes = opening_in bytes >>= opened
  takes (between seat n views) bytes =
      (stop_in bytes >>= stop_at seat n views) or_else (total_in bytes >>= total_at seat n views)
  takes (stopped seat n views turn site) bytes =
      made_in shape.players bytes >>= λ made. Some (framing seat n views (begun seat turn site made))
  takes (framing seat n views v) bytes =
      (frame_in bytes >>= frame_at seat n views v)
      or_else (numbers_in shape.numbers bytes >>= λ numbers. Some (behind_place seat n views (with_numbers v numbers)))
  takes (placing seat n views v) bytes =
      place_in shape (sees shape seat (length v.sights)) bytes >>= place_at seat n views v
  takes (ended t) bytes = None

-- the log that ends here
abbrev pub whole : Place → Option LogText
whole (ended t) = Some t
whole _ = None

abbrev pub grammar : Shape → Grammar Place LogText
grammar shape = record { start = outside; takes = takes shape; whole = whole }

-- the log that bytes are, or its first line that can't stand where it is
abbrev pub read_log : Shape → List ℕ → Result LogText ℕ
read_log shape bytes = read_by (grammar shape) bytes
