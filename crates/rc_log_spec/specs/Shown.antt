-- What a log shows of a view.
use Rattle.std.specs.Prelude.{ℕ, Bool, true, false, List, map, unwrap_or, Option, Some, ⊤}
use Rattle.rc_play_spec.specs.View.{Sight, with_faces, partly, View}

-- the choice site where a view stands
abbrev pub site_shown : View → ℕ
site_shown view = unwrap_or view.control.site 0

-- a face for each card of a location that is seen, and of the others one for each card that is known
abbrev pub cards_shown : Sight → List (Option ℕ)
cards_shown (with_faces numbers) = map (λ n. Some n) numbers
cards_shown (partly cards) = cards

-- what is seen of a location where these are shown
abbrev pub sight_from : (seen : Bool) → List (Option ℕ) → Sight
sight_from true cards = with_faces (map (λ card. unwrap_or card 0) cards)
sight_from false cards = partly cards

-- faces exactly where the location is seen
abbrev pub HasKind : (seen : Bool) → Sight → Type 0
HasKind true (with_faces numbers) = ⊤
HasKind true (partly cards) = ⊥
HasKind false (with_faces numbers) = ⊥
HasKind false (partly cards) = ⊤
