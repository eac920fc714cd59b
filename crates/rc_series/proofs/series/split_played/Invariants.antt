use Rattle.std.proofs.Common.{◌≡◌, map}
use Rattle.rc_series.specs.Series.{lists_of}
use Rattle.rc_series.proofs.series.split_played.Given as goal

abbrev pub invariant-loop-record : goal.invariant-loop-record
invariant-loop-record l = record {
  matches : l.matches.items ≡ map (λ p. p.record) l.yielded;
  lists : l.lists.items ≡ lists_of l.noted l.yielded;
}
