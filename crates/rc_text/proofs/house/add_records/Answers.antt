use Rattle.std.proofs.Common.{◌+◌, ◌++◌, map, drop, get_or, sym, ap, ◌∙◌, append_assoc}
use Rattle.rc_rules.specs.Record.{record_seen}
use Rattle.rc_play_spec.specs.TextParts.{record_told}
use Rattle.rc_rules.specs.Bounds.{bounds_seen}
use Rattle.rc_text.specs.BoundSeen.{told_at}
use Rattle.rc_text.specs.House.{records_told}
use Rattle.rc_text.proofs.Parts.{records_from}
use Rattle.rc_text.proofs.house.add_records.Goals as goal

pub loop-index-preserved : goal.loop-index-preserved
loop-index-preserved c =
    let i = c.loop-index.index in
    let bounds = c.args.bounds.now in
    let matches = c.args.matches.now in
    let r = c.index-matches-index.result in
    let rest = records_told (drop (i + 1) bounds) (drop (i + 1) matches) in
    ap (λ out. out ++ rest)
    (c.in_ok-add_record.ensures ∙ (λ j. c.loop-index.out.items ++ record_told (map bounds_seen (c.bounds_told.ensures j)) (record_seen (c.index-matches-index.is j))))
    ∙ append_assoc c.loop-index.out.items (record_told (map bounds_seen (told_at bounds i)) (record_seen (get_or matches i r))) rest
    ∙ ap (λ t. c.loop-index.out.items ++ t) (sym (records_from i bounds matches r c.loop-index-test.true))
    ∙ c.loop-index.invariant
