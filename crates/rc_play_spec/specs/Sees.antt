-- Which locations a seat sees. Everybody sees a `vloc` and a `mem`, nobody a `hloc`, and an `iloc` its owner, or each member of
-- the team that owns it.
use Rattle.std.specs.Prelude.{ℕ, ◌==◌, Bool, true, false, slice_get, Option, Some, None}
use Rattle.rc_sheet_spec.specs.Sheet.{Class, game_class, player_class, team_class, LocKind, vloc, iloc, hloc, mem}
use Rattle.rc_play_spec.specs.Shape.{Place, Shape, team_at}

-- the seat is the owner or a member of the owning team
abbrev pub is_owner : Shape → ℕ → Class → ℕ → Bool
is_owner shape seat game_class owner = false
is_owner shape seat player_class owner = owner == seat
is_owner shape seat team_class owner = owner == team_at shape seat

abbrev pub sees_kind : Shape → ℕ → LocKind → Class → ℕ → Bool
sees_kind shape seat vloc class owner = true
sees_kind shape seat iloc class owner = is_owner shape seat class owner
sees_kind shape seat hloc class owner = false
sees_kind shape seat mem class owner = true

abbrev pub sees_place : Shape → ℕ → Option Place → Bool
sees_place shape seat None = false
sees_place shape seat (Some place) = sees_kind shape seat place.kind place.class place.owner

-- the seat sees the faces in the location with this number
abbrev pub sees : Shape → ℕ → ℕ → Bool
sees shape seat loc = sees_place shape seat (slice_get shape.places loc)
