use Rattle.std.proofs.Common.{◌≡◌, drop, option_map}
use Rattle.rc_form.specs.Form.{trees_of, packed}
use Rattle.rc_resolve.specs.Reading.{read_values}
use Rattle.rc_resolve.proofs.BuildLemmas.{onto_values}
use Rattle.rc_resolve.proofs.points_reading.read_value_list.Given as goal

abbrev pub invariant-loop-item : goal.invariant-loop-item
invariant-loop-item g l =
    option_map (onto_values l.values.items) (read_values (g.N.Numbers.words l.names) (packed (trees_of (drop l.item-index l.items))))
    ≡ read_values (g.N.Numbers.words l.names) (packed (trees_of l.items))
