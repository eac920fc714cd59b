use Rattle.std.proofs.Common.{◌≡◌, ◌+◌, map, take, List, get_or, ◌+ℤ◌, ap, ◌∙◌, arith}
use Rattle.std.proofs.lemmas.Int.{ints}
use Rattle.rc_rules.specs.declared.record.Score.{Score}
use Rattle.rc_rules.specs.declared.record.MatchRecord.{MatchRecord}
use Rattle.rc_rules.specs.Record.{record_seen, score_seen}
use Rattle.rc_measure.specs.Scores.{spread_in, spread_of, spread_of_scores}
use Rattle.rc_measure.proofs.CodeLemmas.{spread_more}
use Rattle.rc_measure.proofs.scores.spread_in.Goals as goal

pub loop-played-preserved : goal.loop-played-preserved
loop-played-preserved c =
    let ms = c.args.matches.now in
    let i = c.loop-played.played-index in
    let m = c.played-item.result in
    let e : c.spread_of-sum.result ≡ spread_of (record_seen (get_or ms i m)) =
    c.spread_of-sum.ensures.spread ∙ ap (λ (scores : List Score). spread_of_scores (map (λ s. s.score) (map score_seen scores))) c.deref.ensures.value
    ∙ ap (λ (r : MatchRecord). spread_of (record_seen r)) c.played-item.is in
    let more : spread_in (map record_seen (take (i + 1) ms)) ≡ spread_in (map record_seen (take i ms)) +ℤ spread_of (record_seen (get_or ms i m)) =
    spread_more ms i m c.loop-played-test.true in
    record { is = omega (arith, ints, more, e); low = omega (arith, ints); high = omega (arith, ints) }
