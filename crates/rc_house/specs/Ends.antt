-- How words end: those of a command, and all others. Ends is what `run` and `run_alone` promise, all of it: of the
-- words, the ports, the steps and the status. For `run`, `many` is Runs and the steps are some number that fits, since
-- it is handed no counter.
use Rattle.std.specs.Prelude.{◌≡◌, ◌<◌, ℕ, Bool, true, false, List, IfSome}
use Rattle.rc_house.specs.Command.{IsCommand, workers_of}
use Rattle.rc_house.specs.declared.command.Command.{Command}
use Rattle.rc_house.specs.declared.command.Command.TheVariants.{Play, Check, Sheet, Bench, Migrate, Watch, Measure}
use Rattle.rc_house.specs.declared.command.Command.TheVariants.{Rival}
use Rattle.rc_house.specs.Words.{is_named}
use Rattle.rc_house.specs.declared.status.Status.{Status}
use Rattle.rc_house.specs.declared.status.Status.TheVariants as ending
use Rattle.rc_house.specs.declared.task.Task.{Task}
use Rattle.rc_house.specs.declared.task.Task.TheVariants as task
use Rattle.rc_house.specs.Plays.{TellsPlaysOf}
use Rattle.rc_house.specs.BenchOutcome.{BenchOutcome}
use Rattle.rc_house.specs.Outcome.{Outcome, Succeeds, Refuses}
use Rattle.rc_house.specs.Port.{Ports, Received, NoCountFell}

-- Where `play` is done and its source tells its bytes, `out` has received a text that tells plays in the format that is
-- named: each match is one that the accepted sheet allows for its seeded shuffles, up to its end or the turn limit,
-- with choices by views and seeds (Plays.antt).
abbrev pub WritesPlays : Task → Ports → Ports → Status → Type 0
WritesPlays (task.Play options) before after status =
    status ≡ ending.Done →
    IfSome before.source.told (λ source. (bytes : List ℕ) × Received before.out after.out bytes
    × TellsPlaysOf (is_named options.format) source bytes)
WritesPlays task.Check before after status = Unit {0}
WritesPlays task.Sheet before after status = Unit {0}
WritesPlays task.Migrate before after status = Unit {0}
WritesPlays (task.Watch seat number) before after status = Unit {0}
WritesPlays task.Measure before after status = Unit {0}
WritesPlays (task.Rival rival) before after status = Unit {0}

-- How a command that reads a source ended: in one of the ways of Outcome.antt; with the status of its answer, unless a
-- port failed or memory ran out; and where `play` is done, with a text that tells plays.
pub record Performs (task : Task) (before after : Ports) (steps steps' : ℕ) (status : Status) : Type 0 where
  pub outcome : Outcome task before after steps steps' status
  pub succeeds : Succeeds task before after status
  pub plays : WritesPlays task before after status

-- The command was run: Outcome.antt and BenchOutcome.antt say what it then did.
abbrev pub Runs : Command → Ports → Ports → ℕ → ℕ → Status → Type 0
Runs (Play options) before after steps steps' status = Performs (task.Play options) before after steps steps' status
Runs Check before after steps steps' status = Performs task.Check before after steps steps' status
Runs Sheet before after steps steps' status = Performs task.Sheet before after steps steps' status
Runs (Bench number options) before after steps steps' status =
    (after.source ≡ before.source) × BenchOutcome options number before after steps steps' status
Runs Migrate before after steps steps' status = Performs task.Migrate before after steps steps' status
Runs (Watch seat number) before after steps steps' status =
    Performs (task.Watch seat number) before after steps steps' status
Runs Measure before after steps steps' status = Performs task.Measure before after steps steps' status
Runs (Rival rival) before after steps steps' status = Performs (task.Rival rival) before after steps steps' status

-- No command was run: nothing was read, written or counted, and the status's line was noted.
pub record Rests (status : Status) (before after : Ports) (steps steps' : ℕ) : Type 0 where
  pub unread : after.source ≡ before.source
  pub refuses : Refuses status before after
  pub uncounted : steps' ≡ steps

-- how a command ended: its ports and steps before and behind it, and its status
abbrev pub HowEnded : Type 1
HowEnded = Command → Ports → Ports → ℕ → ℕ → Status → Type 0

-- The command has more workers than there are here: its words are those of none.
abbrev pub RefusesMany : HowEnded
RefusesMany command before after steps steps' status = (status ≡ ending.Usage) × Rests status before after steps steps'

-- where several workers can play at one time, and where one plays alone
abbrev pub ended_by : (many : Bool) → HowEnded
ended_by true = Runs
ended_by false = RefusesMany

-- Words that began with these ports and so many steps ended so, where `many` is how commands of more than one worker
-- end.
pub data Ending (many : HowEnded) (words : List (List ℕ)) (before after : Ports) (steps steps' : ℕ) (status : Status)
    : Type 0 where
  -- they are a command's, with one worker
  alone : (command : Command) → IsCommand words command → workers_of command ≡ 1
      → Runs command before after steps steps' status
      → Ending many words before after steps steps' status
  -- with more workers
  shared : (command : Command) → IsCommand words command → 1 < workers_of command
      → many command before after steps steps' status
      → Ending many words before after steps steps' status
  -- no command's
  usage : ((command : Command) → IsCommand words command → ⊥)
      → status ≡ ending.Usage → Rests status before after steps steps'
      → Ending many words before after steps steps' status
  -- there was no memory to read them
  no_memory : status ≡ ending.Memory → Rests status before after steps steps'
      → Ending many words before after steps steps' status

-- and no count of faults fell
pub record Ends (many : HowEnded) (words : List (List ℕ)) (before after : Ports) (steps steps' : ℕ) (status : Status)
    : Type 0 where
  pub ending : Ending many words before after steps steps' status
  pub no_count_fell : NoCountFell before after
