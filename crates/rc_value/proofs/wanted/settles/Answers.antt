use Rattle.std.proofs.Common.{slice_index_or, None, ap, ◌∙◌}
use mathlib.Core.Bool.{beq}
use Rattle.rc_value.specs.Wanted.{compares}
use Rattle.rc_value.proofs.OverLemmas.{settled}
use Rattle.rc_value.proofs.wanted.settles.Goals as goal

pub returns : goal.returns
returns c =
    c.is_so.ensures ∙ ap (compares (beq c.args.wanted.equal c.args.any) c.args.wanted.value) c.value_in.ensures
    ∙ settled c.args.wanted.equal c.args.any c.args.wanted.value (slice_index_or c.args.row.now c.args.id None)
