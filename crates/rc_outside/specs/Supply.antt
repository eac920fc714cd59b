-- A source over bytes in memory, as a caller sees it.
use Rattle.std.specs.Prelude.{ℕ, List, length, drop, min}
use Rattle.rc_outside.specs.Calls.{Numbered, after_success, after_failure}

-- the bytes that are left, the most that a call gives, and the calls
pub record Supply : Type 0 where
  pub left : List ℕ
  pub chunk : ℕ
  pub calls : Numbered

-- how many bytes a call that goes well gives to a buffer of this length
abbrev pub given_count : Supply → ℕ → ℕ
given_count supply buffer = min (min supply.chunk buffer) (length supply.left)

-- after a call that gave `count` bytes
abbrev pub supply_after_read : Supply → ℕ → Supply
supply_after_read supply count =
    record supply { left = drop count supply.left; calls = after_success supply.calls }

-- after a call that failed
abbrev pub supply_after_failure : Supply → Supply
supply_after_failure supply = record supply { calls = after_failure supply.calls }
