-- How a command that reads a source may end, and what its ports have received then. Of the bytes of a port that doesn't
-- tell them nothing is said: Answers, Supplied and Received are then true of anything.
use Rattle.std.specs.Prelude.{◌≡◌, ℕ, ◌+◌, ◌<◌, ◌≤◌, ◌⊎◌, List, [], length, Some, IfSome}
use Rattle.rc_outside.specs.Source.{longest_read}
use Rattle.rc_house.specs.declared.task.Task.{Task}
use Rattle.rc_house.specs.declared.refusal.Refusal.{Refusal}
use Rattle.rc_house.specs.declared.status.Status.{Status}
use Rattle.rc_house.specs.declared.status.Status.TheVariants as ending
use Rattle.rc_house.specs.Task.{IsNoteOf, limit_of}
use Rattle.rc_house.specs.Answer.{Answer, text, refused, HasAnswer, playouts_of}
use Rattle.rc_house.specs.Status.{line_of, refusal_status}
use Rattle.rc_house.specs.Port.{Port, Ports, HasFailed, IsSteady, Supplied, Received, ReceivedFront, Took, Noted}
use Rattle.rc_house.specs.Port.{NotedFront}

-- the source gave no more than the command takes
abbrev pub GaveFew : Task → Port → Port → Type 0
GaveFew task before after = (taken : List ℕ) × Supplied before after taken × (length taken ≤ limit_of task)

-- the source gave more than that, by no more than one read
abbrev pub GaveTooMuch : Task → Port → Port → Type 0
GaveTooMuch task before after =
    (taken : List ℕ) × Supplied before after taken × (limit_of task < length taken)
    × (length taken ≤ limit_of task + longest_read)

-- Where the source tells its bytes: it gave all of them, they are few enough, and P holds of the command's answer to
-- them.
abbrev pub Answers : Port → Port → Task → (Answer → Type 0) → Type 0
Answers before after task P =
    IfSome before.told (λ source.
    (length source ≤ limit_of task) × (after.told ≡ Some [])
    × (answer : Answer) × HasAnswer task source answer × P answer)

-- The answer is a text with this note, Q holds of its bytes, and so many steps were counted as it takes playouts.
abbrev pub IsTextWith : List ℕ → ℕ → ℕ → (List ℕ → Type 0) → Answer → Type 0
IsTextWith note steps steps' Q answer =
    (bytes : List ℕ) × (playouts : ℕ) × (answer ≡ text bytes note playouts) × (steps' ≡ steps + playouts) × Q bytes

-- nothing was done to where the text goes, and the status's line was noted
pub record Refuses (status : Status) (before after : Ports) : Type 0 where
  pub untouched : after.out ≡ before.out
  pub noted : Took before.notes after.notes (line_of status)

-- No more steps were counted than the command's answer takes playouts, where the source tells its bytes.
abbrev pub CountedFew : Port → Task → ℕ → ℕ → Type 0
CountedFew before task steps steps' =
    IfSome before.told (λ source.
    (answer : Answer) → HasAnswer task source answer → steps' ≤ steps + playouts_of answer)

-- The command may end so. Each playout is a step. No read or write failed but where it is said.
pub data Outcome (task : Task) (before after : Ports) (steps steps' : ℕ) (status : Status) : Type 0 where
  -- the text was written, and what the command notes then
  written : status ≡ ending.Done → (note : List ℕ) → IsNoteOf task note
      → Answers before.source after.source task (IsTextWith note steps steps' (Received before.out after.out))
      → Noted before.notes after.notes note
      → IsSteady before.source after.source → IsSteady before.out after.out
      → Outcome task before after steps steps' status
  -- the source is refused
  refusing : (refusal : Refusal) → status ≡ refusal_status refusal
      → Answers before.source after.source task (λ answer. answer ≡ refused refusal)
      → Refuses status before after → steps' ≡ steps
      → IsSteady before.source after.source
      → Outcome task before after steps steps' status
  -- want of memory may come at any time before the text is written
  no_memory : status ≡ ending.Memory → GaveFew task before.source after.source → Refuses status before after
      → CountedFew before.source task steps steps'
      → IsSteady before.source after.source
      → Outcome task before after steps steps' status
  -- a read failed
  read_failed : status ≡ ending.ReadFault → HasFailed before.source after.source
      → GaveFew task before.source after.source → Refuses status before after → steps' ≡ steps
      → Outcome task before after steps steps' status
  -- the source gave too much
  too_long : status ≡ ending.TooLong → GaveTooMuch task before.source after.source → Refuses status before after
      → steps' ≡ steps
      → IsSteady before.source after.source
      → Outcome task before after steps steps' status
  -- a write of the text failed
  text_failed : status ≡ ending.WriteFault → HasFailed before.out after.out → (note : List ℕ) → IsNoteOf task note
      → Answers before.source after.source task (IsTextWith note steps steps' (ReceivedFront before.out after.out))
      → Took before.notes after.notes (line_of status)
      → IsSteady before.source after.source
      → Outcome task before after steps steps' status
  -- the text was written, and the write of the note failed
  note_failed : status ≡ ending.WriteFault → HasFailed before.notes after.notes → (note : List ℕ) → IsNoteOf task note
      → Answers before.source after.source task (IsTextWith note steps steps' (Received before.out after.out))
      → NotedFront before.notes after.notes note
      → IsSteady before.source after.source → IsSteady before.out after.out
      → Outcome task before after steps steps' status

-- a command's status where it has this answer to its source, memory is found and no port fails
abbrev pub status_of : Answer → Status
status_of (text bytes note playouts) = ending.Done
status_of (refused refusal) = refusal_status refusal

-- No port failed that this answer needs: a refusal needs no more than that the source is read.
abbrev pub NoPortFailed : Answer → Ports → Ports → Type 0
NoPortFailed (text bytes note playouts) before after =
    (HasFailed before.source after.source → ⊥)
    × (HasFailed before.out after.out → ⊥)
    × (HasFailed before.notes after.notes → ⊥)
NoPortFailed (refused refusal) before after = HasFailed before.source after.source → ⊥

-- Where no port fails, only want of memory keeps a command from the status of its answer to a source that tells its
-- bytes.
pub record Succeeds (task : Task) (before after : Ports) (status : Status) : Type 0 where
  pub answers : (source : List ℕ) (answer : Answer) → before.source.told ≡ Some source → length source ≤ limit_of task
      → HasAnswer task source answer → NoPortFailed answer before after
      → (status ≡ status_of answer) ⊎ (status ≡ ending.Memory)
  pub too_long : (source : List ℕ) → before.source.told ≡ Some source → limit_of task < length source
      → (HasFailed before.source after.source → ⊥) → (status ≡ ending.TooLong) ⊎ (status ≡ ending.Memory)
