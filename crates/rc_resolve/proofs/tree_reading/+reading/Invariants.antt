use Rattle.std.proofs.Common.{◌≡◌, drop, option_map}
use Rattle.rc_form.specs.Form.{trees_of, packed}
use Rattle.rc_resolve.specs.Reading.{read_groups, read_branches}
use Rattle.rc_resolve.proofs.BuildLemmas.{onto_groups, onto_branches}
use Rattle.rc_resolve.proofs.tree_reading.+reading.Given as goal

-- what is read so far, before what is left to read, is the whole
abbrev pub invariant-read_groups-loop-form : goal.invariant-read_groups-loop-form
invariant-read_groups-loop-form g l =
    option_map (onto_groups l.groups.items) (read_groups (g.N.Numbers.words l.names) (packed (trees_of (drop l.form-index l.forms))))
    ≡ read_groups (g.N.Numbers.words l.names) (packed (trees_of l.forms))

abbrev pub invariant-read_branches-loop-form : goal.invariant-read_branches-loop-form
invariant-read_branches-loop-form g l =
    option_map (onto_branches l.branches.items) (read_branches (g.N.Numbers.words l.names) (packed (trees_of (drop l.form-index l.forms))))
    ≡ read_branches (g.N.Numbers.words l.names) (packed (trees_of l.forms))
