-- What workers did, together: what is known of all their turns while these are put together, one by one.
use Rattle.std.specs.Prelude.{◌≡◌, ℕ, ◌+◌, ◌<◌, ◌≤◌, Bool, List, [], ◌∷◌, ◌++◌, map, flat_map, length, Result, Ok, Err}
use Rattle.std.specs.List.{AllByRecursion, sum_by}
use Rattle.rc_deck.specs.declared.memory.Memory.{Memory}
use Rattle.rc_play_spec.specs.About.{About}
use Rattle.rc_play_spec.specs.Plan.{Plan}
use Rattle.rc_redraw.specs.Counts.{Counts}
use Rattle.atomic_table.specs.Seated.{TableId}
use Rattle.rc_match.specs.declared.playing.Played.{Played}
use Rattle.rc_claims.specs.Claims.{Pass}
use Rattle.rc_series.specs.declared.turn.Worker.{Worker}
use Rattle.rc_series.specs.declared.turn.Turn.{Turn}
use Rattle.rc_series.specs.declared.gathering.Gathered.{Gathered}
use Rattle.rc_series.specs.Turns.{IsRecordIn, number_of, asked_by_all, counted, IsTurn}

-- each result is that of the worker's turn, where memory was found
abbrev pub AreTurns : {C : Type 0} → (C → ℕ) → (C → Counts) → (noted : Bool) → About → Plan → List (Worker C) →
    List (Result (Turn C) Memory) → Type 0
AreTurns name counts noted about plan [] [] = Unit {0}
AreTurns name counts noted about plan [] (result ∷ results) = ⊥
AreTurns name counts noted about plan (worker ∷ workers) [] = ⊥
AreTurns name counts noted about plan (worker ∷ workers) (Ok turn ∷ results) =
    IsTurn name counts noted about plan worker turn × AreTurns name counts noted about plan workers results
AreTurns name counts noted about plan (worker ∷ workers) (Err lack ∷ results) =
    AreTurns name counts noted about plan workers results

abbrev pub looks_in : List Counts → ℕ
looks_in all = sum_by (λ c. c.looks) all

abbrev pub hits_in : List Counts → ℕ
hits_in all = sum_by (λ c. c.hits) all

abbrev pub keeps_in : List Counts → ℕ
keeps_in all = sum_by (λ c. c.keeps) all

-- So many more looks were answered by these together, in as many lanes.
pub record RiseTogether (looks : ℕ) (before after : List Counts) : Type 0 where
  pub each : length after ≡ length before
  pub looked : looks_in after ≡ looks_in before + looks
  pub hit : hits_in before ≤ hits_in after
  pub kept : keeps_in after + hits_in after ≡ keeps_in before + hits_in before + looks

-- the pass of a result is of this word
abbrev pub IsOwn : {C : Type 0} → TableId → Result (Turn C) Memory → Type 0
IsOwn table (Ok turn) = turn.pass.table ≡ table
IsOwn table (Err lack) = Unit {0}

-- What some workers have together: their passes as one, with all that the passes had, all records, and their choosers, in the order
-- of the workers.
pub record IsGathered {C : Type 0} (name : C → ℕ) (counts : C → Counts) (noted : Bool) (about : About) (plan : Plan)
    (workers : List (Worker C)) (pass : Pass) (records : List Played) (choosers : List C) : Type 0 where
  pub holders : pass.holders ≡ flat_map (λ w. w.pass.holders) workers
  pub numbers : counted (length plan.matches) pass.numbers ≡ map number_of records
  pub past : length records < length pass.numbers
  pub are : AllByRecursion (IsRecordIn noted about plan) records
  pub named : map name choosers ≡ map (λ w. name w.chooser) workers
  pub rise : RiseTogether (asked_by_all about plan (map number_of records)) (map (λ w. counts w.chooser) workers)
      (map counts choosers)

-- The first workers were gathered, and these results are those of the others: what holds between two turns.
abbrev pub Gathers : {C : Type 0} → (C → ℕ) → (C → Counts) → (noted : Bool) → About → Plan → List (Worker C) →
    List (Result (Turn C) Memory) → Gathered C → Type 0
Gathers {C} name counts noted about plan workers rest gathered =
    (done left : List (Worker C)) × (workers ≡ done ++ left) × AreTurns name counts noted about plan left rest
    × IsGathered name counts noted about plan done gathered.pass gathered.records.items gathered.choosers.items
