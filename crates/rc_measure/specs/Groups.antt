-- Choices in groups, each of which has a number, and the tallies of all groups as they are counted.
use Rattle.std.specs.Prelude.{ℕ, ◌+◌, ◌*◌, ◌≤◌, ◌==◌, if◌then◌else◌, List, [], ◌∷◌, slice_set, slice_index_or}
use Rattle.rc_base.specs.Transcript.{Pick as PurePick}
use Rattle.rc_play_spec.specs.Plan.{Plan, strategy_held}
use Rattle.rc_rules.specs.declared.record.Pick.{Pick}
use Rattle.rc_rules.specs.declared.record.MatchRecord.{MatchRecord}
use Rattle.rc_rules.specs.Record.{pick_seen}
use Rattle.rc_measure.specs.Tally.{Test}
use Rattle.rc_measure.specs.declared.tally.Tally.{Tally}
use Rattle.rc_measure.specs.declared.tally.GroupBy.{GroupBy}
use Rattle.rc_measure.specs.declared.tally.GroupBy.TheVariants.{Nothing, Site, Seat, Strategy}

-- the group of a choice of match m
abbrev pub group_of : Plan → GroupBy → ℕ → PurePick → ℕ
group_of plan Nothing m p = 0
group_of plan Site m p = p.site
group_of plan Seat m p = p.seat
group_of plan Strategy m p = strategy_held plan m p.seat

abbrev pub in_group : Plan → GroupBy → ℕ → Test
in_group plan by group m p = group_of plan by m p == group

-- one choice more
abbrev pub with_pick : Tally → Pick → Tally
with_pick t p =
    record { choices = t.choices + 1; forced = t.forced + (if p.size == 1 then 1 else 0); menu = t.menu + p.size }

abbrev pub no_choice : Tally
no_choice = record { choices = 0; forced = 0; menu = 0 }

-- one choice more in its group
abbrev pub with_pick_in : List Tally → ℕ → Pick → List Tally
with_pick_in tallies group p = slice_set tallies group (with_pick (slice_index_or tallies group no_choice) p)

-- the choices of a match more, and those of all matches
abbrev pub counted : Plan → GroupBy → ℕ → List Pick → List Tally → List Tally
counted plan by m [] tallies = tallies
counted plan by m (p ∷ picks) tallies =
    counted plan by m picks (with_pick_in tallies (group_of plan by m (pick_seen p)) p)

abbrev pub counted_in_all : Plan → GroupBy → List MatchRecord → List Tally → List Tally
counted_in_all plan by [] tallies = tallies
counted_in_all plan by (r ∷ matches) tallies =
    counted_in_all plan by matches (counted plan by r.number r.picks.items tallies)

-- How many choices of one match are counted at most. A choice takes two bytes at least in a text.
abbrev pub most_picks : ℕ
most_picks = 33554432

-- and how many of 4,096 matches
abbrev pub most_choices : ℕ
most_choices = 137438953472

-- a tally of at most so many choices
abbrev pub HasAtMost : ℕ → Tally → Type 0
HasAtMost n t = (t.choices ≤ n) × (t.forced ≤ n) × (t.menu ≤ 65535 * n)
