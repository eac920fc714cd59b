use Rattle.std.proofs.Common.{◌≡◌, ◌+◌, ◌<◌, map, drop, length, Some, arith, sym, ap, ◌∙◌}
use Rattle.rc_rules.specs.Control.{stopped_of}
use Rattle.rc_base.specs.Numbers.{below}
use Rattle.rc_sheet_spec.specs.Sheet.{Sheet}
use Rattle.rc_play_spec.specs.Scores.{scores_of, rank_points}
use Rattle.rc_play_spec.specs.Along as along
use Rattle.rc_play_spec.proofs.LegalLemmas.{on_row_none}
use Rattle.rc_rules.specs.Record.{score_seen}
use Rattle.rc_judge.specs.Seen.{row_seen}
use Rattle.rc_judge.proofs.Steps.{dropped, halts, hands_on}
use Rattle.rc_judge.proofs.Told.{long_scores}
use Rattle.rc_judge.proofs.playing.scores_along.Goals as goal

pub rank_points-points-requires : goal.rank_points-points-requires
rank_points-points-requires g c =
    let here = g.M.Machine.config c.args.machine.now in
    record {
      each =
          long_scores (g.M.Machine.about c.args.machine.now) here c.scores-scores.result.items c.scores-scores.ensures
          ∙ ap (λ a. a.sheet.players) c.requires.about ∙ ap (λ (s : Sheet). s.players) (sym c.sheet.ensures.same);
    }

pub returns-in_err-on_row-clause-verdict : goal.returns-in_err-on_row-clause-verdict
returns-in_err-on_row-clause-verdict g c = λ stop count.
    let about = c.args.about.now in
    let here = g.M.Machine.config c.args.machine.now in
    let at = Some (stopped_of stop here count) in
    let scores : c.scores-scores.result.items ≡ scores_of about here.table here.control =
    c.scores-scores.ensures ∙ ap (λ a. scores_of a here.table here.control) c.requires.about in
    let ranked : c.rank_points-points.result.items ≡ map (rank_points about.sheet c.scores-scores.result.items) (below about.sheet.players) =
    c.rank_points-points.ensures ∙ ap (λ (s : Sheet). map (rank_points s c.scores-scores.result.items) (below s.players)) c.sheet.ensures.same in
    let halt = c.in_err-on_row.field-0.0 in
    hands_on (λ n. n) c.from_residual.result halt _ c.from_residual.ensures.1
    (halts c.loop-score.line halt (row_seen c.scored_row.result) _
    (along.scores_along about (c.loop-score.line + 1) at (c.loop-score.index + 1) (map score_seen (drop (c.loop-score.score-index + 1) c.args.told.now))) _
    (c.scored_row.ensures.row about here stop count scores ranked)
    (sym (c.loop-score.invariant.on stop count)
    ∙ ap (along.scores_along about c.loop-score.line at c.loop-score.index) (dropped score_seen c.args.told.now c.loop-score.score-index _ c.loop-score-test.true))
    c.in_err-on_row.ensures.verdict)

pub loop-score-preserved : goal.loop-score-preserved
loop-score-preserved g c =
    let about = c.args.about.now in
    let here = g.M.Machine.config c.args.machine.now in
    let scores : c.scores-scores.result.items ≡ scores_of about here.table here.control =
    c.scores-scores.ensures ∙ ap (λ a. scores_of a here.table here.control) c.requires.about in
    let ranked : c.rank_points-points.result.items ≡ map (rank_points about.sheet c.scores-scores.result.items) (below about.sheet.players) =
    c.rank_points-points.ensures ∙ ap (λ (s : Sheet). map (rank_points s c.scores-scores.result.items) (below s.players)) c.sheet.ensures.same in
    let there : c.loop-score.index < length c.scores-scores.result.items = c.scored_row.ensures.there c.in_ok-on_row.ensures.free in
    record {
      index = omega (arith, c.loop-score.invariant.index);
      line = omega (arith, c.loop-score.invariant.line);
      few = omega (arith, there, long_scores about here c.scores-scores.result.items scores);
      on = λ stop count.
          let at = Some (stopped_of stop here count) in
          sym (ap (along.scores_along about c.loop-score.line at c.loop-score.index) (dropped score_seen c.args.told.now c.loop-score.score-index _ c.loop-score-test.true)
          ∙ on_row_none c.loop-score.line _
          (along.scores_along about (c.loop-score.line + 1) at (c.loop-score.index + 1) (map score_seen (drop (c.loop-score.score-index + 1) c.args.told.now)))
          (sym (c.scored_row.ensures.row about here stop count scores ranked)
          ∙ ap row_seen c.in_ok-on_row.ensures.free))
          ∙ c.loop-score.invariant.on stop count;
    }
