use Rattle.std.proofs.Common.{◌≡◌, ◌<◌, ◌-◌, ◌+◌, ◌++◌, ◌∷◌, [], length, map, arith, sym, ap, subst, ◌∙◌}
use Rattle.std.proofs.lemmas.Grind.{common_steps}
use Rattle.std.proofs.lemmas.List.{map-append, length-append}
use Rattle.rc_play_spec.specs.Bounds.{marks_in}
use Rattle.rc_rules.specs.Bounds.{bound_seen, bounds_seen}
use Rattle.rc_text.specs.Finds.{Finds}
use Rattle.rc_text.proofs.MarkSteps.{behind_marks, marks_more, no_mark, marks_end, some_left, none_left}
use Rattle.rc_text.proofs.bounds.bounds_in.Goals as goal

pub returns-in_err-bound : goal.returns-in_err-bound
returns-in_err-bound c =
    let items = c.loop-rest.bounds.items in
    let less : length items < 4 = grind (arith, common_steps) in
    let some = some_left c.loop-rest.rest.now c.loop-rest-test.ensures in
    subst (λ r. Finds bounds_seen r (marks_in 4 c.args.bytes.now)) (sym c.from_residual.ensures)
    (sym c.loop-rest.invariant.reads ∙ ap (behind_marks (map bound_seen items)) (no_mark (length items) c.loop-rest.rest.now less some c.in_err-bound.ensures))

pub loop-rest-preserved : goal.loop-rest-preserved
loop-rest-preserved c =
    let items = c.loop-rest.bounds.items in
    let bound = c.in_ok-bound.bound in
    let later = c.in_ok-bound.later.now in
    let less : length items < 4 = grind (arith, common_steps) in
    let some = some_left c.loop-rest.rest.now c.loop-rest-test.ensures in
    let long : length (items ++ bound ∷ []) ≡ length items + 1 = length-append items (bound ∷ []) in
    record {
      reads =
          ap (λ xs. behind_marks (map bound_seen xs) (marks_in (4 - length xs) later)) c.push.ensures.items
          ∙ (λ i. behind_marks (map-append bound_seen items (bound ∷ []) i) (marks_in (4 - long i) later))
          ∙ sym (marks_more (length items) (map bound_seen items) c.loop-rest.rest.now (bound_seen bound) later less some c.in_ok-bound.ensures)
          ∙ c.loop-rest.invariant.reads;
      few = let same = ap length c.push.ensures.items in omega (arith, same, long, less);
    }

pub returns : goal.returns
returns c =
    let items = c.loop-rest.bounds.items in
    sym c.loop-rest.invariant.reads
    ∙ ap (λ rest. behind_marks (map bound_seen items) (marks_in (4 - length items) rest)) (none_left c.loop-rest.rest.now c.loop-rest-test.ensures)
    ∙ marks_end (4 - length items) (map bound_seen items)
