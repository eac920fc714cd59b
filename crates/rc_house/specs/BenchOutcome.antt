-- How `bench` ends. It reads nothing.
use Rattle.std.specs.Prelude.{◌≡◌, ℕ, ◌+◌, ◌≤◌, List}
use Rattle.rc_house.specs.declared.options.Options.{Options}
use Rattle.rc_house.specs.declared.status.Status.{Status}
use Rattle.rc_house.specs.declared.status.Status.TheVariants as ending
use Rattle.rc_house.specs.Answer.{Answer, text, playouts_of}
use Rattle.rc_house.specs.Bench.{IsBenchAnswer}
use Rattle.rc_house.specs.Outcome.{Refuses}
use Rattle.rc_house.specs.Port.{Ports, Delivers}

-- `bench` with this number may end so. Each playout is a step.
pub data BenchOutcome (options : Options) (number : ℕ) (before after : Ports) (steps steps' : ℕ) (status : Status)
    : Type 0 where
  -- the summary was made, and it and its note were written, or a write of them failed
  summary : (bytes note : List ℕ) (playouts : ℕ) → IsBenchAnswer options number (text bytes note playouts)
      → steps' ≡ steps + playouts
      → Delivers bytes note before.out after.out before.notes after.notes status
      → BenchOutcome options number before after steps steps' status
  -- want of memory may come at any time before the summary is written
  no_memory : status ≡ ending.Memory → Refuses status before after
      → ((answer : Answer) → IsBenchAnswer options number answer → steps' ≤ steps + playouts_of answer)
      → BenchOutcome options number before after steps steps' status
