-- Lanes that have called nothing.
use Rattle.std.proofs.Common.{◌≡◌, ℕ, ◌+◌, [], ◌∷◌, ◌++◌}
use Rattle.rc_rules.proofs.PointLemmas.{mapped_push}
use Rattle.rc_cache.specs.Sums.{idle, idle_lanes}

pub idle_more : (n : ℕ) → idle_lanes (n + 1) ≡ idle_lanes n ++ idle n ∷ []
idle_more n = mapped_push idle n
