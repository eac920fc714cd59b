use Rattle.std.proofs.Common.{◌++◌, ◌∷◌, [], ap, sym, ◌∙◌}
use Rattle.rc_play_spec.specs.Owners.{classes_in}
use Rattle.rc_ast.specs.Sheet.{sheet_seen}
use Rattle.rc_rules.proofs.ClassLemmas.{one_more, one_within}
use Rattle.rc_rules.proofs.lookup.stage_classes.Goals as goal

pub loop-number-preserved : goal.loop-number-preserved
loop-number-preserved c =
    let classes = classes_in (sheet_seen c.args.sheet.now).items in
    let number = c.loop-number.number in
    let class = c.in-Some.class in
    record {
      told =
          c.in_ok-push-in-Some.ensures.items ∙ ap (λ before. before ++ class ∷ []) c.loop-number.invariant.told
          ∙ sym (one_more classes number class c.in-Some.ensures);
      within = one_within classes number class c.in-Some.ensures;
    }
