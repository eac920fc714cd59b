-- Numbered calls, some of which have to fail.
use Rattle.std.specs.Prelude.{ℕ, List, Contains}
use Rattle.rc_outside.specs.Faults.{next_count}

-- the number of the next call, the numbers of those that have to fail, and how many calls failed
pub record Numbered : Type 0 where
  pub next : ℕ
  pub fails : List ℕ
  pub faults : ℕ

-- before the first call
abbrev pub no_call : List ℕ → Numbered
no_call fails = record { next = 0; fails = fails; faults = 0 }

-- the next call has to fail
abbrev pub IsToFail : Numbered → Type 0
IsToFail calls = Contains calls.fails calls.next

-- after a call that went well
abbrev pub after_success : Numbered → Numbered
after_success calls = record calls { next = next_count calls.next }

-- after a call that failed
abbrev pub after_failure : Numbered → Numbered
after_failure calls =
    record calls { next = next_count calls.next; faults = next_count calls.faults }
