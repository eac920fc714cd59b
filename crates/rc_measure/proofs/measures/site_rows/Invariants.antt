use Rattle.std.proofs.Common.{◌≡◌, map, filter}
use Rattle.rc_rules.specs.Record.{record_seen}
use Rattle.rc_base.specs.Numbers.{below}
use Rattle.rc_measure.specs.Measures.{site_row, is_met}
use Rattle.rc_measure.proofs.measures.site_rows.Given as goal

abbrev pub invariant-loop-site : goal.invariant-loop-site
invariant-loop-site l =
    let records = map record_seen l.matches in
    map (λ row. row.items) l.rows.items ≡ map (site_row records) (filter (is_met records) (below l.site))
