use Rattle.std.proofs.Common.{◌≡◌, take, fold, pos, get_or, sym, ap, ◌∙◌, subst, arith}
use Rattle.std.specs.Int.{int_max}
use Rattle.std.proofs.lemmas.Int.{to_z-of_z}
use Rattle.std.proofs.lemmas.List.Sums.{fold_push}
use Rattle.std.proofs.Common.{to_z, of_z, w64}
use Rattle.rc_base.specs.Clamp.{IsWithinClamp}
use Rattle.rc_rules.specs.declared.record.Score.{Score}
use Rattle.rc_measure.proofs.CodeLemmas.{scores_of, scores_more, within_max}
use Rattle.rc_measure.proofs.scores.largest.Goals as goal

pub loop-score-preserved : goal.loop-score-preserved
loop-score-preserved c =
    let rest = c.args.rest.now in
    let i = c.loop-score.score-index in
    let inv = c.loop-score.invariant in
    let d : Score = record { player = 0; score = pos 0; points = 0 } in
    let x = (get_or rest i d).score in
    let e : c.max-top.result ≡ int_max (to_z w64 c.loop-score.top-bits) x = grind (arith, to_z-of_z, c.max-top.ensures.value) in
    let fits : to_z w64 (of_z w64 c.max-top.result) ≡ c.max-top.result = grind (arith, to_z-of_z) in
    record {
      is = fits ∙ e ∙ ap (λ y. int_max y x) inv.is ∙ sym (ap (fold int_max (to_z w64 (of_z w64 c.args.first))) (scores_more rest i d c.loop-score-test.true)
          ∙ fold_push int_max (to_z w64 (of_z w64 c.args.first)) (scores_of (take i rest)) x);
      within = subst IsWithinClamp (sym (fits ∙ e)) (within_max (to_z w64 c.loop-score.top-bits) x inv.within (c.requires.each i d c.loop-score-test.true));
    }
