-- What the parts of a plan say, before they are looked at together.
use Rattle.std.specs.Prelude.{◌≡◌, ℕ, ◌*◌, ◌&&◌, ◌==◌, Bool, nat_le, List, [], ◌++◌, length, map}
use Rattle.rc_base.specs.Tree.{Tree, start_of}
use Rattle.rc_sheet_spec.specs.Rows.{◌▸◌, End, Row, Atom}
use Rattle.rc_play_spec.specs.Plan.{Deal, Plan}
use Rattle.rc_base.specs.Limits.{most_matches, most_turns, most_turns_in_all}
use Rattle.rc_play_spec.specs.PlanStands.{counted_from}
use Rattle.rc_play_spec.specs.Faults.{fault_unless, is_between, is_countable}
use Rattle.rc_play_spec.specs.declared.plan_fault.PlanKind.TheVariants.{Seats, Matches, Turns, TooLarge}
use Rattle.rc_play_spec.specs.declared.plan_fault.PlanFault.{PlanFault}
use Rattle.rc_rules.specs.Plan.{strategy_seen, deal_seen}
use Rattle.rc_plan.specs.Reads.{IsAnyNumber, AreSeats}
use Rattle.rc_plan.specs.Matches.{AreMatches}
use Rattle.rc_plan.specs.declared.draft.Draft.{Draft}
use Rattle.rc_plan.specs.declared.matches.Matches.{Matches as Said}
use Rattle.rc_plan.specs.declared.matches.Matches.TheVariants.{Listed, From}

-- `(turns T)`, where T begins at this offset
abbrev pub IsLimit : ℕ → ℕ → Tree → Type 0
IsLimit turns at = Row (Atom "turns" ▸ (λ limit. IsAnyNumber turns limit × (start_of limit ≡ at)) ▸ End)

-- the form says this
abbrev pub IsDraft : Draft → Tree → Type 0
IsDraft draft form =
    Row (Atom "plan"
    ▸ (λ seats. AreSeats (map strategy_seen draft.strategies.items) seats × (start_of seats ≡ draft.seats_at))
    ▸ AreMatches draft.matches
    ▸ IsLimit draft.turns draft.turns_at
    ▸ End) form
    × (start_of form ≡ draft.at)

-- the matches that are said
abbrev pub deals_said : Said → List Deal
deals_said (Listed deals) = map deal_seen deals.items
deals_said (From first count at) = counted_from (deal_seen first) count

-- a `from` that can't be counted
abbrev pub count_faults : Said → List PlanFault
count_faults (Listed deals) = []
count_faults (From first count at) = fault_unless (is_countable first.deal first.seats count) Matches at

-- not too many matches are listed, and all their turns are not too many
abbrev pub are_few : Said → ℕ → Bool
are_few (Listed deals) turns =
    nat_le (length deals.items) most_matches && nat_le (length deals.items * turns) most_turns_in_all
are_few (From first count at) turns = nat_le (count * turns) most_turns_in_all

-- the faults of what the parts say together, for so many players
abbrev pub draft_faults : ℕ → Draft → List PlanFault
draft_faults players draft =
    fault_unless (length draft.strategies.items == players) Seats draft.seats_at
    ++ count_faults draft.matches
    ++ fault_unless (is_between 1 most_turns draft.turns) Turns draft.turns_at
    ++ fault_unless (are_few draft.matches draft.turns) TooLarge draft.at

-- the plan that the draft is, where it has no such fault
abbrev pub plan_drafted : Draft → Plan
plan_drafted draft =
    record {
      strategies = map strategy_seen draft.strategies.items;
      matches = deals_said draft.matches;
      turns = draft.turns;
    }
