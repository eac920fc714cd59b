use Rattle.std.proofs.Common.{◌++◌, ◌∷◌, [], ap, ap₂, sym, ◌∙◌}
use Rattle.std.proofs.lemmas.List.{map-append}
use Rattle.rc_rules.proofs.PointLemmas.{mapped_push}
use Rattle.rc_rules.specs.Lookup.{rows_seen, value_row}
use Rattle.rc_rules.proofs.lookup.value_rows.Goals as goal

pub loop-name-preserved : goal.loop-name-preserved
loop-name-preserved c =
    ap rows_seen c.in_ok-push.ensures.items ∙ map-append (λ row. row.items) c.loop-name.rows.items _
    ∙ ap₂ (λ before last. before ++ last ∷ []) c.loop-name.invariant c.in_ok-row.ensures
    ∙ sym (mapped_push (value_row c.args.shape.now.faces) c.loop-name.name)
