-- Choices, counted: how many there are, how many of them leave nothing to choose, and how large all their menus are.
use Rattle.std.specs.Prelude.{ℕ, ◌==◌, Bool, true, List, length, filter, flat_map, count_by, sum_by}
use Rattle.rc_base.specs.Transcript.{Pick, Record}
use Rattle.rc_play_spec.specs.Plan.{Plan, strategy_held}

pub record Tally : Type 0 where
  pub choices : ℕ
  pub forced : ℕ
  pub menu : ℕ

-- the menu has one item
abbrev pub is_forced : Pick → Bool
is_forced p = p.size == 1

abbrev pub tally_of : List Pick → Tally
tally_of picks =
    record { choices = length picks; forced = count_by is_forced picks; menu = sum_by (λ p. p.size) picks }

-- Which choices are counted. It is asked with the number of the match.
abbrev pub Test : Type 0
Test = ℕ → Pick → Bool

abbrev pub every : Test
every m p = true

abbrev pub at_site : ℕ → Test
at_site site m p = p.site == site

abbrev pub by_seat : ℕ → Test
by_seat seat m p = p.seat == seat

abbrev pub by_strategy : Plan → ℕ → Test
by_strategy plan strategy m p = strategy_held plan m p.seat == strategy

-- the choices of these matches that pass
abbrev pub picks_where : Test → List Record → List Pick
picks_where test records = flat_map (λ r. filter (test r.number) r.picks) records

abbrev pub tally_where : Test → List Record → Tally
tally_where test records = tally_of (picks_where test records)
