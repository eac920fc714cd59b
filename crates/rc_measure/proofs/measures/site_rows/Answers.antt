use Rattle.std.proofs.Common.{◌≡◌, ◌<◌, map, filter, ap, ◌∙◌, arith}
use Rattle.rc_base.specs.Numbers.{below}
use Rattle.rc_rules.specs.Record.{record_seen}
use Rattle.rc_measure.specs.Measures.{site_row, is_met, sites_met}
use Rattle.rc_measure.proofs.GroupLemmas.{at_place}
use Rattle.rc_measure.proofs.SiteLemmas.{site_more}
use Rattle.rc_measure.proofs.measures.site_rows.Goals as goal

pub loop-site-preserved : goal.loop-site-preserved
loop-site-preserved c =
    let records = map record_seen c.args.matches.now in
    let site = c.loop-site.site in
    let less : site < 64 = omega (arith, c.loop-site-test.true) in
    c.in_ok-add_site.ensures
    ∙ site_more records (map (λ row. row.items) c.loop-site.rows.items) site _
    (at_place c.tallies_by-tallies.result c.from.result site _ _ c.from.ensures (c.tallies_by-tallies.ensures.tallies site _ less)) c.loop-site.invariant

pub returns : goal.returns
unfolding sites_met
returns c =
    let records = map record_seen c.args.matches.now in
    let all : c.loop-site.site ≡ 64 = omega (arith, c.loop-site-test.false, c.loop-site.auto.site-end) in
    c.loop-site.invariant ∙ ap (λ count. map (site_row records) (filter (is_met records) (below count))) all
