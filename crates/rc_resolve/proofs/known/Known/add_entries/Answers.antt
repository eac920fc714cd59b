use Rattle.std.proofs.Common.{◌∙◌}
use Rattle.rc_base.specs.Tree.{cons, nil}
use Rattle.rc_resolve.specs.Known.{in_entries}
use Rattle.rc_resolve.proofs.Steps.{step, entries-split}
use Rattle.rc_resolve.proofs.known.Known.add_entries.Goals as goal

pub loop-entry-preserved : goal.loop-entry-preserved
loop-entry-preserved c =
    step in_entries (λ tree. in_entries (cons tree nil)) entries-split c.loop-entry.self _ c.args.entries.now _
    c.entry-item.result
    c.loop-entry-test.true c.entry-item.is c.in_ok-add_entry.ensures
    ∙ c.loop-entry.invariant
