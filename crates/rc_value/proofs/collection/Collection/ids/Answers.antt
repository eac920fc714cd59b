use Rattle.std.proofs.Common.{map, sym, ap, ◌∙◌}
use Rattle.rc_play_spec.specs.Scene.{id_of}
use Rattle.rc_value.specs.Seen.{listed}
use Rattle.rc_value.proofs.RowLemmas.{ids_read}
use Rattle.rc_value.proofs.collection.Collection.ids.Goals as goal

pub returns-in-There-clause-ids : goal.returns-in-There-clause-ids
returns-in-There-clause-ids c = ids_read _ _ ∙ ap (λ source. map id_of (listed source)) (sym c.in-There.is) ∙ ap (map id_of) c.self.view_is
