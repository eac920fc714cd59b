-- How many lines records and texts have.
use Rattle.std.proofs.Common.{◌≡◌, ℕ, ◌+◌, ◌<◌, List, ◌∷◌, map, flat_map, drop, get_or, length, sym, ap, ◌∙◌}
use Rattle.std.proofs.lemmas.List.{length-append}
use Rattle.rc_play_spec.specs.HouseText.{record_lines}
use Rattle.rc_rules.specs.declared.record.MatchRecord.{MatchRecord}
use Rattle.rc_rules.specs.Record.{record_seen}
use Rattle.rc_judge.specs.Seen.{lines_in, lines_in_all}
use Rattle.rc_judge.proofs.Steps.{dropped}

pub lines_behind : (matches : List MatchRecord) (i : ℕ) (r : MatchRecord) → i < length matches → r ≡ get_or matches i r →
    lines_in_all (drop i matches) ≡ lines_in r + lines_in_all (drop (i + 1) matches)
lines_behind matches i r lt is =
    ap (λ rs. length (flat_map record_lines rs)) (dropped record_seen matches i r lt ∙ ap (λ x. record_seen x ∷ map record_seen (drop (i + 1) matches)) (sym is))
    ∙ length-append (record_lines (record_seen r)) (flat_map record_lines (map record_seen (drop (i + 1) matches)))
