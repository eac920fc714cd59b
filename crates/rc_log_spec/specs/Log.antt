-- Logs: their lines and their bytes, and which there are.
use Rattle.std.specs.Prelude.{◌≡◌, ℕ, ◌+◌, ◌<◌, ◌≤◌, min, Bool, true, false, List, [], ◌∷◌, ◌++◌, length, map, flat_map}
use Rattle.std.specs.Prelude.{take, Option, Some, None, IfSome, ⊤}
use Rattle.std.specs.List.{AllByRecursion}
use Rattle.rc_base.specs.Clamp.{IsWithinClamp}
use Rattle.rc_base.specs.Limits.{most_players, most_locations, most_cards}
use Rattle.rc_base.specs.Transcript.{line}
use Rattle.rc_play_spec.specs.Control.{Frame}
use Rattle.rc_play_spec.specs.Shape.{Place, Shape}
use Rattle.rc_play_spec.specs.Sees.{sees_place}
use Rattle.rc_play_spec.specs.View.{Sight, View}
use Rattle.rc_log_spec.specs.Shown.{site_shown, cards_shown, HasKind}
use Rattle.rc_log_spec.specs.Fields.{is_face}
use Rattle.rc_log_spec.specs.Lines.{header_text, opening_text, stop_text, made_text, frame_text, numbers_text}
use Rattle.rc_log_spec.specs.Lines.{place_text, total_text}

-- stops that a log tells one by one; behind these it tells only how many there are
abbrev pub most_told : ℕ
most_told = 1000

-- the largest number of 32 bits
abbrev pub largest_word : ℕ
largest_word = 4294967295

-- the locations from the n-th on
abbrev pub place_lines : ℕ → List Sight → List (List ℕ)
place_lines n [] = []
place_lines n (sight ∷ sights) = place_text n sight ∷ place_lines (n + 1) sights

-- the lines of the n-th stop
abbrev pub block_lines : ℕ → View → List (List ℕ)
block_lines n v =
    stop_text n v.control.turn (site_shown v) ∷ made_text v.control.made
    ∷ (map frame_text v.control.frames ++ (numbers_text v.numbers ∷ place_lines 0 v.sights))

abbrev pub blocks_from : ℕ → List View → List (List ℕ)
blocks_from n [] = []
blocks_from n (v ∷ views) = block_lines n v ++ blocks_from (n + 1) views

-- a log: the seat, the number of the match, the views that it tells, and how many there are
pub record LogText : Type 0 where
  pub seat : ℕ
  pub number : ℕ
  pub views : List View
  pub stops : ℕ

abbrev pub log_lines : LogText → List (List ℕ)
log_lines t = header_text ∷ opening_text t.seat t.number ∷ (blocks_from 0 t.views ++ total_text t.stops ∷ [])

abbrev pub text_of : LogText → List ℕ
text_of t = flat_map line (log_lines t)

-- the log of a seat in a match: the first views, and how many there are
abbrev pub log_text : (seat number : ℕ) → List View → LogText
log_text seat number views = record { seat = seat; number = number; views = take most_told views; stops = length views }

abbrev pub log : (seat number : ℕ) → List View → List ℕ
log seat number views = text_of (log_text seat number views)

-- ---- which there are

-- what a shape keeps of its limits: there is a player, and players, locations and faces are few
pub record IsSmall (shape : Shape) : Type 0 where
  pub some_players : 1 ≤ shape.players
  pub players : shape.players ≤ most_players
  pub locations : length shape.places ≤ most_locations
  pub cards : length shape.faces ≤ most_cards

-- numbers that fit their types
pub record IsFrame (frame : Frame) : Type 0 where
  pub stage : frame.stage ≤ 65535
  pub member : frame.member ≤ 255
  pub named : IfSome frame.named (λ n. n ≤ 255)

-- the number of a face, or nothing where the location isn't seen
abbrev pub IsCard : Shape → (seen : Bool) → Option ℕ → Type 0
IsCard shape seen (Some n) = is_face shape n ≡ true
IsCard shape seen None = seen ≡ false

-- faces for each location that the seat sees, and for every other one those that it knows
abbrev pub IsSight : Shape → (seen : Bool) → Sight → Type 0
IsSight shape seen sight = HasKind seen sight × AllByRecursion (IsCard shape seen) (cards_shown sight)

-- one for each location
abbrev pub ArePlaces : Shape → ℕ → List Place → List Sight → Type 0
ArePlaces shape seat [] [] = ⊤
ArePlaces shape seat [] (sight ∷ sights) = ⊥
ArePlaces shape seat (place ∷ places) [] = ⊥
ArePlaces shape seat (place ∷ places) (sight ∷ sights) =
    IsSight shape (sees_place shape seat (Some place)) sight × ArePlaces shape seat places sights

-- a choice site from 0 to 63
abbrev pub IsLogSite : Option ℕ → Type 0
IsLogSite (Some n) = n ≤ 63
IsLogSite None = ⊥

-- A view of a seat counts as one of a log, where it may stand in one: at a choice site, with as many counts of
-- decisions, numbers and locations as the shape has, with faces for each location that the seat sees and those that it
-- knows for every other one, and everything within its range.
pub record Counts (shape : Shape) (seat : ℕ) (v : View) : Type 0 where
  pub of_seat : v.seat ≡ seat
  pub turn : v.control.turn ≤ largest_word
  pub site : IsLogSite v.control.site
  pub each_made : length v.control.made ≡ shape.players
  pub made : AllByRecursion (λ n. n ≤ largest_word) v.control.made
  pub few_frames : length v.control.frames ≤ 64
  pub frames : AllByRecursion IsFrame v.control.frames
  pub each_number : length v.numbers ≡ shape.numbers
  pub numbers : AllByRecursion IsWithinClamp v.numbers
  pub places : ArePlaces shape seat shape.places v.sights

-- a log of a seat of the shape: all views, where there are few enough, and else the first ones
pub record IsLog (shape : Shape) (t : LogText) : Type 0 where
  pub seat : t.seat < shape.players
  pub number : t.number ≤ largest_word
  pub views : AllByRecursion (Counts shape t.seat) t.views
  pub told : length t.views ≡ min most_told t.stops
  pub stops : t.stops ≤ largest_word
