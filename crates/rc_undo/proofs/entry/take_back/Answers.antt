use Rattle.std.proofs.Common.{List, ℕ, sym, subst}
use Rattle.rc_undo.specs.Undo.{ordered, LeadsThrough}
use Rattle.rc_undo.specs.Entry.{entry_seen}
use Rattle.rc_undo.specs.declared.entry.LogEntry.{LogEntry}
use Rattle.rc_undo.proofs.entry.take_back.Goals as goal

pub order_back-requires-clause-through : goal.order_back-requires-clause-through
order_back-requires-clause-through c =
    let shape = c.args.table.now.shape in
    let table = c.args.table.now.table in
    let loc = c.in-Ordered.loc in
    let through = subst (λ (e : LogEntry). LeadsThrough shape (entry_seen e) table) c.in-Ordered.is c.requires.through in
    subst (λ (list : List ℕ). LeadsThrough shape (ordered loc list c.deref-in-Ordered.result.now) table) (sym c.deref.ensures.value)
    (subst (λ (marks : List ℕ). LeadsThrough shape (ordered loc c.in-Ordered.list.items marks) table) (sym c.deref-in-Ordered.ensures.value) through)
