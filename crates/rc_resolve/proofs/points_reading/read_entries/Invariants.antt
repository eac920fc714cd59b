use Rattle.std.proofs.Common.{◌≡◌, drop, option_map}
use Rattle.rc_form.specs.Form.{trees_of, packed}
use Rattle.rc_resolve.specs.Reading.{read_all_entries}
use Rattle.rc_resolve.proofs.BuildLemmas.{onto_entries}
use Rattle.rc_resolve.proofs.points_reading.read_entries.Given as goal

abbrev pub invariant-loop-form : goal.invariant-loop-form
invariant-loop-form g l =
    option_map (onto_entries l.entries.items) (read_all_entries (g.N.Numbers.words l.names) (packed (trees_of (drop l.form-index l.items))))
    ≡ read_all_entries (g.N.Numbers.words l.names) (packed (trees_of l.items))
