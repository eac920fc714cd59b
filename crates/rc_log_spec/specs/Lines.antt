-- The lines of a log, each without its LF: their texts, and what is read off them.
use Rattle.std.specs.Prelude.{ℕ, Bool, true, false, List, ◌++◌, length, flat_map, codes, decimal, ℤ, Option, Some, None}
use Rattle.std.specs.Fmt.{signed_decimal}
use Rattle.rc_play_spec.specs.Control.{Frame}
use Rattle.rc_play_spec.specs.Shape.{Shape}
use Rattle.rc_play_spec.specs.View.{Sight}
use Rattle.rc_play_spec.specs.Fields.{◌>>=◌, ◌or_else◌, behind, number, last}
use Rattle.rc_log_spec.specs.Shown.{cards_shown, sight_from}
use Rattle.rc_log_spec.specs.Fields.{counts_in, integers_in, cards_in}

abbrev pub header_text : List ℕ
header_text = codes "log 1"

abbrev pub opening_text : (seat number : ℕ) → List ℕ
opening_text seat n = codes "seat " ++ (decimal seat ++ (codes " match " ++ decimal n))

abbrev pub stop_text : (stop turn site : ℕ) → List ℕ
stop_text stop turn site =
    codes "stop " ++ (decimal stop ++ (codes " turn " ++ (decimal turn ++ (codes " site " ++ decimal site))))

-- a number behind a space
abbrev pub count_text : ℕ → List ℕ
count_text n = codes " " ++ decimal n

abbrev pub integer_text : ℤ → List ℕ
integer_text n = codes " " ++ signed_decimal n

abbrev pub made_text : List ℕ → List ℕ
made_text counts = codes "made" ++ flat_map count_text counts

abbrev pub direction_text : Bool → List ℕ
direction_text true = codes " back"
direction_text false = codes " forward"

abbrev pub named_text : Option ℕ → List ℕ
named_text None = codes " none"
named_text (Some n) = count_text n

abbrev pub frame_text : Frame → List ℕ
frame_text f =
    codes "frame "
    ++ (decimal f.stage ++ (codes " " ++ (decimal f.member ++ (direction_text f.back ++ named_text f.named))))

abbrev pub numbers_text : List ℤ → List ℕ
numbers_text numbers = codes "numbers" ++ flat_map integer_text numbers

abbrev pub card_text : Option ℕ → List ℕ
card_text None = codes " -"
card_text (Some n) = count_text n

abbrev pub place_text : ℕ → Sight → List ℕ
place_text loc sight = codes "place " ++ (decimal loc ++ flat_map card_text (cards_shown sight))

abbrev pub total_text : ℕ → List ℕ
total_text stops = codes "stops " ++ decimal stops

-- ---- what is read

-- the number of a seat and that of a match
abbrev pub opening_in : List ℕ → Option (ℕ × ℕ)
opening_in bytes = do
  seat ← number (codes "seat ") 255 bytes
  n ← number (codes " match ") 4294967295 seat.1
  last (seat.0, n.0) n.1

-- the number of a stop, its turn and its site
abbrev pub stop_in : List ℕ → Option (ℕ × ℕ × ℕ)
stop_in bytes = do
  stop ← number (codes "stop ") 4294967295 bytes
  turn ← number (codes " turn ") 4294967295 stop.1
  site ← number (codes " site ") 63 turn.1
  last (stop.0, turn.0, site.0) site.1

abbrev pub made_in : (players : ℕ) → List ℕ → Option (List ℕ)
made_in players bytes = behind (codes "made") bytes >>= counts_in players 4294967295

abbrev pub direction_in : List ℕ → Option (Bool × List ℕ)
direction_in bytes =
    (behind (codes " back") bytes >>= λ rest. Some (true, rest))
    or_else (behind (codes " forward") bytes >>= λ rest. Some (false, rest))

abbrev pub named_in : List ℕ → Option (Option ℕ × List ℕ)
named_in bytes =
    (number (codes " ") 255 bytes >>= λ n. Some (Some n.0, n.1))
    or_else (behind (codes " none") bytes >>= λ rest. Some (None, rest))

abbrev pub frame_in : List ℕ → Option Frame
frame_in bytes = do
  stage ← number (codes "frame ") 65535 bytes
  member ← number (codes " ") 255 stage.1
  back ← direction_in member.1
  named ← named_in back.1
  last (record { stage = stage.0; member = member.0; back = back.0; named = named.0 }) named.1

abbrev pub numbers_in : (count : ℕ) → List ℕ → Option (List ℤ)
numbers_in count bytes = behind (codes "numbers") bytes >>= integers_in count

-- what is seen of a location: its cards up to the end
abbrev pub sight_in : Shape → (seen : Bool) → List ℕ → Option Sight
sight_in shape seen bytes = cards_in shape seen (length bytes) bytes >>= λ cards. Some (sight_from seen cards)

-- a location's number, and what is seen of it
abbrev pub place_in : Shape → (seen : Bool) → List ℕ → Option (ℕ × Sight)
place_in shape seen bytes = do
  loc ← number (codes "place ") 65535 bytes
  sight ← sight_in shape seen loc.1
  Some (loc.0, sight)

abbrev pub total_in : List ℕ → Option ℕ
total_in bytes = do
  n ← number (codes "stops ") 4294967295 bytes
  last n.0 n.1
