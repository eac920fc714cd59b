use Rattle.std.proofs.Common.{◌≡◌, ◌<◌, ◌≤◌, ◌+◌, ◌-◌, ◌∙◌, length, get_or, ap, subst, arith, rules}
use Rattle.rc_table.proofs.RowLemmas.{there_is, lies, part_is, part_ends}
use Rattle.rc_table.proofs.rows.Rows.list.Goals as goal

pub slice_bounds-result-end : goal.slice_bounds-result-end
slice_bounds-result-end c =
    let held = c.in-Some.row.now in
    let found = c.in-Some.ensures.lookup in
    let is : held ≡ get_or c.self.inside.rows.items c.args.at held = found.1 ∙ ap (λ rows. get_or rows c.args.at held) c.deref.ensures.value in
    let there = there_is c.self.inside.rows.items c.self.inside.ids c.args.self.now c.self.view_is c.args.at (subst (λ rows. c.args.at < length rows) c.deref.ensures.value found.3.0) in
    let few = (lies c.self.inside.rows.items c.self.inside.ids c.args.self.now c.self.view_is c.self.invariant c.args.at there held is).few in
    let h : held.from + held.count ≤ length c.deref-in-Some.result.now = part_ends c.self.inside.rows.items c.self.inside.ids c.args.self.now c.self.view_is c.self.invariant c.args.at there held is c.deref-in-Some.result.now held.count c.deref-in-Some.ensures.value few in
    search rules

pub returns-in-Some : goal.returns-in-Some
returns-in-Some c =
    let held = c.in-Some.row.now in
    let found = c.in-Some.ensures.lookup in
    let is : held ≡ get_or c.self.inside.rows.items c.args.at held = found.1 ∙ ap (λ rows. get_or rows c.args.at held) c.deref.ensures.value in
    let there = there_is c.self.inside.rows.items c.self.inside.ids c.args.self.now c.self.view_is c.args.at (subst (λ rows. c.args.at < length rows) c.deref.ensures.value found.3.0) in
    part_is c.self.inside.rows.items c.self.inside.ids c.args.self.now c.self.view_is c.self.invariant c.args.at there held is c.deref-in-Some.result.now (held.from + held.count - held.from) c.deref-in-Some.ensures.value (omega arith)
