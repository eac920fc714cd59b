use Rattle.std.proofs.Common.{rules}
use Rattle.std.proofs.lemmas.List.Sorted.{IsNonDecreasingBy-from_sort_by_key}
use Rattle.rc_series.specs.Turns.{number_of}
use Rattle.rc_series.proofs.claiming.in_order.Goals as goal

pub returns-clause-up : goal.returns-clause-up
returns-clause-up c = IsNonDecreasingBy-from_sort_by_key number_of _ c.sort_unstable_by_key.ensures.sorted (λ a r q k. search rules)
