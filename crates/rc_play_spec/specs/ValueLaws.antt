-- Statements of laws of values: how large collections and numbers are, and which card the largest or the smallest one is.
use Rattle.std.specs.Prelude.{◌≡◌, ℕ, ◌≤◌, List, length, take, slice_get, All, ℤ, ◌≤ℤ◌, ◌<ℤ◌, int_lt, Some}
use Rattle.rc_base.specs.Clamp.{IsWithinClamp}
use Rattle.rc_base.specs.Limits.{most_in_collection}
use Rattle.rc_sheet_spec.specs.Sheet.{CollExpr, IntExpr, Sheet}
use Rattle.rc_sheet_spec.specs.WellFormed.{Around, IsInt}
use Rattle.rc_play_spec.specs.Value.{Scene, best_of, int_more, coll_value, int_value}
use Rattle.rc_play_spec.specs.Scene.{CardValue, Vars}

-- of a collection at most so many cards count
abbrev pub CollectionsAreWithin : Type 0
CollectionsAreWithin = (scene : Scene CardValue) (vars : Vars) (cards : CollExpr) →
    length (coll_value scene vars cards) ≤ most_in_collection

-- each number that a well formed expression has is within the clamp, where those of the table are
abbrev pub NumbersAreWithin : Type 0
NumbersAreWithin =
    (sheet : Sheet) (around : Around) (scene : Scene CardValue) (vars : Vars) (e : IntExpr) → IsInt sheet around e →
    All IsWithinClamp scene.known.numbers → IsWithinClamp (int_value scene vars e)

-- the largest card is worth as much as each, and more than each before it
abbrev pub LargestComesFirst : Type 0
LargestComesFirst =
    (worth : CardValue → ℤ) (cards : List CardValue) (c : CardValue) → best_of int_more worth cards ≡ Some c →
    (k : ℕ) × (slice_get cards k ≡ Some c) × All (λ other. worth other ≤ℤ worth c) cards
    × All (λ other. worth other <ℤ worth c) (take k cards)

-- the smallest card is worth as little as each, and less than each before it
abbrev pub SmallestComesFirst : Type 0
SmallestComesFirst =
    (worth : CardValue → ℤ) (cards : List CardValue) (c : CardValue) → best_of int_lt worth cards ≡ Some c →
    (k : ℕ) × (slice_get cards k ≡ Some c) × All (λ other. worth c ≤ℤ worth other) cards
    × All (λ other. worth c <ℤ worth other) (take k cards)
