-- Numbers of looks, hits and keeps: of calls, of a lane, and of all lanes.
use Rattle.std.specs.Prelude.{ℕ, ◌+◌, List, map}
use Rattle.std.specs.List.{sum_by}
use Rattle.rc_base.specs.Numbers.{below}
use Rattle.rc_redraw.specs.Counts.{Call, looked, kept, one_if}

abbrev pub look_one : Call → ℕ
look_one (looked key hit) = 1
look_one (kept key) = 0

abbrev pub hit_one : Call → ℕ
hit_one (looked key hit) = one_if hit
hit_one (kept key) = 0

abbrev pub keep_one : Call → ℕ
keep_one (looked key hit) = 0
keep_one (kept key) = 1

abbrev pub looks_of : List Call → ℕ
looks_of calls = sum_by look_one calls

abbrev pub hits_of : List Call → ℕ
hits_of calls = sum_by hit_one calls

abbrev pub keeps_of : List Call → ℕ
keeps_of calls = sum_by keep_one calls

-- who calls a book, with the numbers of its calls
pub record Lane : Type 0 where
  pub number : ℕ
  pub looks : ℕ
  pub hits : ℕ
  pub keeps : ℕ

-- one call more
abbrev pub counted : Lane → Call → Lane
counted lane call =
    record {
      number = lane.number;
      looks = lane.looks + look_one call;
      hits = lane.hits + hit_one call;
      keeps = lane.keeps + keep_one call;
    }

-- a lane that has called nothing
abbrev pub idle : ℕ → Lane
idle number = record { number = number; looks = 0; hits = 0; keeps = 0 }

-- the first lanes, so many
abbrev pub idle_lanes : ℕ → List Lane
idle_lanes n = map idle (below n)

-- so many lanes together
pub record Together : Type 0 where
  pub lanes : ℕ
  pub looks : ℕ
  pub hits : ℕ
  pub keeps : ℕ

abbrev pub looks_in : List Lane → ℕ
looks_in lanes = sum_by (λ lane. lane.looks) lanes

abbrev pub hits_in : List Lane → ℕ
hits_in lanes = sum_by (λ lane. lane.hits) lanes

abbrev pub keeps_in : List Lane → ℕ
keeps_in lanes = sum_by (λ lane. lane.keeps) lanes
