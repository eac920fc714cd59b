use Rattle.std.proofs.Common.{◌&&◌, ap, ◌∙◌}
use Rattle.std.specs.List.{find}
use Rattle.rc_form.specs.Form.{tree_of, trees_of, packed}
use Rattle.rc_check.specs.Grammar.{forms_of}
use Rattle.rc_check.specs.Faults.{begins, is_told, second_word}
use Rattle.rc_check.proofs.ToldLemmas.{found_among}
use Rattle.rc_check.proofs.choice.told_rule.Goals as goal

abbrev pub loop-rule-init : goal.loop-rule-init
loop-rule-init c =
    ap (find (λ rule. begins (tree_of c.args.head.now) rule && is_told (second_word rule) (packed (trees_of c.args.others.now)))) c.two_word_forms-rule-items.ensures
    ∙ found_among (tree_of c.args.head.now) (packed (trees_of c.args.others.now)) (forms_of c.args.place)
