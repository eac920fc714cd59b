use Rattle.std.proofs.Common.{◌≡◌, suc, ◌+◌, ◌++◌, ◌∷◌, [], map, take, drop, length, All, append_assoc, arith, sym, ap, subst, ◌∙◌}
use Rattle.std.proofs.Math.Seq.{take-suc}
use Rattle.std.proofs.lemmas.List.{take_all}
use Rattle.std.proofs.lemmas.List.Elements.{All-push}
use Rattle.rc_play_spec.specs.Keyed.{dealing_of}
use Rattle.rc_play_spec.specs.Along as along
use Rattle.rc_play_spec.specs.Judged.{play_after}
use Rattle.rc_rules.specs.declared.record.MatchRecord.{MatchRecord}
use Rattle.rc_rules.specs.Plan.{plan_seen}
use Rattle.rc_rules.specs.Record.{record_seen}
use Rattle.rc_judge.specs.Seen.{row_seen, lists_over}
use Rattle.rc_judge.proofs.Steps.{dropped, match_judged}
use Rattle.rc_judge.proofs.Lengths.{lines_behind}
use Rattle.rc_judge.proofs.judging.matches_along.Goals as goal

pub loop-played-preserved : goal.loop-played-preserved
loop-played-preserved g c =
    let about = c.args.about.now in
    let plan = plan_seen c.args.plan.now in
    let matches = c.args.matches.now in
    let i = c.loop-played.played-index in
    let m = c.loop-played.number in
    let n = c.loop-played.line in
    let r = c.played-item.result in
    let lines = lines_behind matches i r c.loop-played-test.true c.played-item.is in
    let enough = c.lacking_row.ensures.each c.in_ok-on_row.ensures.free in
    let Whole = λ (r : MatchRecord). length r.scores.items ≡ about.sheet.players in
    let next : i + 1 ≡ suc i = omega arith in
    let more : take (i + 1) matches ≡ take i matches ++ r ∷ [] =
    ap (λ n. take n matches) next ∙ take-suc matches i r c.loop-played-test.true ∙ ap (λ x. take i matches ++ x ∷ []) (sym c.played-item.is) in
    let rest = map record_seen (drop (i + 1) matches) in
    let parts = dropped record_seen matches i r c.loop-played-test.true ∙ ap (λ x. record_seen x ∷ rest) (sym c.played-item.is) in
    let told = g.N.Margin.told c.loop-played.margin in
    let left = g.N.Margin.told c.record_along.new.margin in
    let marks = along.marks_from about dealing_of plan m (play_after about dealing_of plan m []) (record_seen r).picks in
    let later = lists_over about dealing_of plan (m + 1) rest in
    record {
      number = omega (arith, c.loop-played.invariant.number);
      few = omega (arith, c.in_ok-line.ensures.there);
      line = omega (arith, lines, c.in_ok-line.ensures.far, c.loop-played.invariant.line);
      each = subst (All Whole) (sym more) (All-push Whole (take i matches) r c.loop-played.invariant.each (omega (arith, c.in_ok-line.ensures.few, enough)));
      on =
          ap (λ marks. along.matches_along about dealing_of plan (m + 1) c.in_ok-line.line marks rest) c.in_ok-close.ensures.told
          ∙ sym (ap (along.matches_along about dealing_of plan m n told) parts
          ∙ match_judged about plan m n c.in_ok-line.line told left (record_seen r) rest c.in_ok-line.ensures.verdict
          (sym c.lacking_row.ensures.row ∙ ap row_seen c.in_ok-on_row.ensures.free))
          ∙ c.loop-played.invariant.on;
      here = λ none. c.in_ok-close.ensures.here;
      noted = λ notes none.
          let before = g.N.Margin.before c.loop-played.margin in
          let list = c.in_ok-line.ensures.noted notes ∙ ap (λ xs. xs ++ marks) (c.loop-played.invariant.here none) in
          ap (λ xs. xs ++ later) (c.in_ok-close.ensures.before notes ∙ (λ j. c.in_ok-line.ensures.before j ++ list j ∷ []))
          ∙ append_assoc before (marks ∷ []) later
          ∙ ap (λ rs. before ++ lists_over about dealing_of plan m rs) (sym parts)
          ∙ c.loop-played.invariant.noted notes none;
    }

pub returns-clause-each : goal.returns-clause-each
returns-clause-each g c =
    let about = c.args.about.now in
    let matches = c.args.matches.now in
    let Whole = λ (r : MatchRecord). length r.scores.items ≡ about.sheet.players in
    subst (All Whole) (take_all c.loop-played.played-index matches (omega (arith, c.loop-played-test.false))) c.loop-played.invariant.each
