-- What an item is worth behind a decision, how many items are tried behind it, and how counts of these are told.
use Rattle.std.specs.Prelude.{◌≡◌, ℕ, ◌+◌, ◌-◌, ◌≤◌, min, List, [], map, sum_by}
use Rattle.rc_base.specs.Numbers.{below}
use Rattle.rc_play_spec.specs.About.{About}
use Rattle.rc_play_spec.specs.Step.{Config, Stop}
use Rattle.rc_play_spec.specs.Search.{at_stop, next_behind, worth, tried}
use Rattle.rc_play_spec.specs.SearchValue.{value}
use Rattle.rc_search.specs.declared.dealer.Way.{Way}
use Rattle.rc_search.specs.Shuffling.{dealing_on}

module _ (about : About) (way : Way) where
  -- at a stop, before which so many shuffles were made
  abbrev pub worth_at : ℕ → Stop → Config → ℕ → List ℕ
  worth_at depth stop c made = worth about (dealing_on way) depth stop c made

  abbrev pub tried_at : ℕ → Stop → Config → ℕ → ℕ
  tried_at depth stop c made = tried about (dealing_on way) depth stop c made

  abbrev pub value_at : ℕ → Stop → Config → ℕ → ℕ
  value_at depth stop c made = value about (dealing_on way) way.seat depth stop c made

  -- behind an item
  abbrev pub worth_behind : ℕ → Config → ℕ → ℕ → List ℕ
  worth_behind depth c made item =
      at_stop [] (worth about (dealing_on way) depth) (next_behind about (dealing_on way) c made item)

  abbrev pub tried_behind : ℕ → Config → ℕ → ℕ → ℕ
  tried_behind depth c made item =
      at_stop 0 (tried about (dealing_on way) depth) (next_behind about (dealing_on way) c made item)

  abbrev pub value_behind : ℕ → Config → ℕ → ℕ → ℕ
  value_behind depth c made item =
      at_stop 0 (value about (dealing_on way) way.seat depth) (next_behind about (dealing_on way) c made item)

  -- behind the first items
  abbrev pub worths : ℕ → Config → ℕ → ℕ → List (List ℕ)
  worths depth c made count = map (worth_behind depth c made) (below count)

  abbrev pub values : ℕ → Config → ℕ → ℕ → List ℕ
  values depth c made count = map (value_behind depth c made) (below count)

  -- how many are tried with them
  abbrev pub tried_with : ℕ → Config → ℕ → ℕ → ℕ
  tried_with depth c made count = count + sum_by (tried_behind depth c made) (below count)

-- a count of 64 bits tells steps: it rises with them, and stands at its largest where they rise beyond
pub record Tells (applied applied' steps steps' : ℕ) : Type 0 where
  pub rises : steps ≤ steps'
  pub told : applied' ≡ min (applied + (steps' - steps)) 18446744073709551615
