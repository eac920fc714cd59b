use Rattle.std.proofs.Common.{map, arith}
use Rattle.std.proofs.lemmas.List.{length-map}
use Rattle.rc_cache.specs.Book.{lane_call_seen}
use Rattle.rc_cache.proofs.KeptLemmas.{few}
use Rattle.rc_cache.proofs.book.Book.sums.Goals as goal

pub returns-clause-fits : goal.returns-clause-fits
returns-clause-fits g c =
    let f = few (map lane_call_seen c.self.inside.journal.items) in
    let n = length-map c.self.inside.journal.items lane_call_seen in
    let m = c.len-calls.ensures in
    let t = c.len-calls.type_inv in (
      omega (arith, f.0, n, m, t, c.self.invariant.1.looked),
      omega (arith, f.1, n, m, t, c.self.invariant.1.hit),
      omega (arith, f.2, n, m, t, c.self.invariant.1.kept),
    )
