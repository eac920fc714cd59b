use Rattle.std.proofs.Common.{rules, ◌≡◌, ◌∷◌, Bool, Some, sym, ap, ◌∙◌}
use Rattle.std.specs.Cmp.Lexicographic.{pointwise}
use Rattle.rc_play_spec.specs.Bounds.{are_bounds}
use Rattle.rc_play_spec.specs.HouseText.{first_marks}
use Rattle.rc_play_spec.specs.Rows.{unless}
use Rattle.rc_play_spec.specs.Why.{by_name}
use Rattle.rc_rules.specs.Bounds.{bounds_seen}
use Rattle.rc_rules.specs.Machine.{bounds_here}
use Rattle.rc_rules.specs.contracts.bound.BoundPartialEq.TheImpl.{eq-value}
use Rattle.rc_judge.specs.Seen.{marks_row, marks_left}
use Rattle.rc_judge.proofs.Steps.{same_marks}
use Rattle.rc_judge.proofs.margin.ToldMargin.row.Goals as goal

pub returns-then-eq-clause-row : goal.returns-then-eq-clause-row
returns-then-eq-clause-row g c =
    let here = bounds_here (g.M.Machine.about c.args.machine.now) c.args.item (g.M.Machine.config c.args.machine.now) in
    let told = bounds_seen c.in-Some.told.now in
    let parts : c.turn.new.self.here.now ≡ c.in-Some.told.now ∷ c.in-Some.rest.now = search rules in
    let first : first_marks (marks_left c.args.self.now.here.now c.args.self.now.later.now) ≡ Some told =
    ap first_marks (sym c.turn.ensures.same ∙ ap (λ list. marks_left list c.turn.new.self.later.now) parts) in
    let slices : pointwise eq-value.it c.in-Some.told.now.items c.bounds.result.items ≡ c.eq.result =
    (λ i. pointwise eq-value.it (sym c.as_slice.ensures.value i) (sym c.as_slice-2.ensures.value i)) ∙ sym c.eq.ensures in
    let marks = ap (are_bounds told) (sym c.bounds.ensures) ∙ sym (same_marks c.in-Some.told.now.items c.bounds.result.items) ∙ slices ∙ c.if-eq.true in
    sym (ap (λ told. marks_row told here) first ∙ ap (λ (b : Bool). unless b by_name) marks)

pub returns-else-eq-clause-row : goal.returns-else-eq-clause-row
returns-else-eq-clause-row g c =
    let here = bounds_here (g.M.Machine.about c.args.machine.now) c.args.item (g.M.Machine.config c.args.machine.now) in
    let told = bounds_seen c.in-Some.told.now in
    let parts : c.turn.new.self.here.now ≡ c.in-Some.told.now ∷ c.in-Some.rest.now = search rules in
    let first : first_marks (marks_left c.args.self.now.here.now c.args.self.now.later.now) ≡ Some told =
    ap first_marks (sym c.turn.ensures.same ∙ ap (λ list. marks_left list c.turn.new.self.later.now) parts) in
    let slices : pointwise eq-value.it c.in-Some.told.now.items c.bounds.result.items ≡ c.eq.result =
    (λ i. pointwise eq-value.it (sym c.as_slice.ensures.value i) (sym c.as_slice-2.ensures.value i)) ∙ sym c.eq.ensures in
    let marks = ap (are_bounds told) (sym c.bounds.ensures) ∙ sym (same_marks c.in-Some.told.now.items c.bounds.result.items) ∙ slices ∙ c.if-eq.false in
    sym (ap (λ told. marks_row told here) first ∙ ap (λ (b : Bool). unless b by_name) marks)
