-- What a worker does in its turn. A record is that of the match with its number, whoever claimed it and whatever the chooser had, so the
-- order in which workers claim and ask has no part in any of this.
use Rattle.std.specs.Prelude.{◌≡◌, ℕ, ◌+◌, ◌<◌, ◌≤◌, ltb, Bool, List, map, length, filter, Some}
use Rattle.std.specs.List.{AllByRecursion, sum_by}
use Rattle.rc_play_spec.specs.About.{About}
use Rattle.rc_play_spec.specs.Plan.{Plan}
use Rattle.rc_play_spec.specs.Keyed.{keyed_match}
use Rattle.rc_redraw.specs.Counts.{Counts}
use Rattle.rc_match.specs.Asks.{asks_of}
use Rattle.rc_match.specs.declared.playing.Played.{Played}
use Rattle.rc_series.specs.Series.{IsNotedAs, played_seen}
use Rattle.rc_claims.specs.Claims.{Pass}
use Rattle.rc_series.specs.declared.turn.Worker.{Worker}
use Rattle.rc_series.specs.declared.turn.Turn.{Turn}

-- it is the record of the match of its number, with a score for each player, and what its choices bind is noted, or nothing is
abbrev pub IsRecordIn : (noted : Bool) → About → Plan → Played → Type 0
IsRecordIn noted about plan p =
    (keyed_match about plan p.record.number ≡ Some (played_seen p))
    × (length p.record.scores.items ≡ about.sheet.players)
    × IsNotedAs noted about plan p

abbrev pub number_of : Played → ℕ
number_of p = p.record.number

-- how often matches of these numbers ask for totals
abbrev pub asked_by_all : About → Plan → List ℕ → ℕ
asked_by_all about plan numbers = sum_by (λ n. length (asks_of about plan n)) numbers

-- So many more looks were answered. Each hit, or was followed by a keep.
pub record Rise (looks : ℕ) (before after : Counts) : Type 0 where
  pub looked : after.looks ≡ before.looks + looks
  pub hit : before.hits ≤ after.hits
  pub kept : after.keeps + after.hits ≡ before.keeps + before.hits + looks

-- those of the numbers that are below the count, and so are matches': the last one that a pass draws isn't
abbrev pub counted : ℕ → List ℕ → List ℕ
counted count numbers = filter (λ n. ltb n count) numbers

-- A pass claimed until none was left: those of its numbers that count are the numbers of the records, in order, and it has one more
-- at least. The records are those of the plan's matches. The chooser is called as before, and its counts rose by what these ask.
pub record IsWork (noted : Bool) (about : About) (plan : Plan) (before after : Pass) (name name' : ℕ)
    (asked asked' : Counts) (records : List Played) : Type 0 where
  pub own : after.table ≡ before.table
  pub holders : after.holders ≡ before.holders
  pub numbers : counted (length plan.matches) after.numbers ≡ map number_of records
  pub past : length records < length after.numbers
  pub are : AllByRecursion (IsRecordIn noted about plan) records
  pub named : name' ≡ name
  pub rise : Rise (asked_by_all about plan (map number_of records)) asked asked'

abbrev pub IsTurn : {C : Type 0} → (C → ℕ) → (C → Counts) → (noted : Bool) → About → Plan → Worker C → Turn C → Type 0
IsTurn name counts noted about plan worker turn =
    IsWork noted about plan worker.pass turn.pass (name worker.chooser) (name turn.chooser) (counts worker.chooser)
    (counts turn.chooser)
    turn.records.items
