use Rattle.std.proofs.Common.{◌≡◌, ◌+◌, ◌*◌, min, drop, ap, ◌∙◌, sym, arith}
use Rattle.rc_deck.specs.Tree.{branches_of, inner_of, groups_in, branches_in}
use Rattle.rc_base.specs.Deck.{face_count, branch_count}
use Rattle.rc_deck.proofs.TreeLemmas.{branches_of_out, inner_of_out, groups_in-drop, branches_in-drop}
use Rattle.rc_deck.proofs.CapLemmas.{min-mul_cut}
use Rattle.rc_deck.proofs.counting.+counting.Goals as goal

pub count_branches-loop-branch-preserved : goal.count_branches-loop-branch-preserved
count_branches-loop-branch-preserved t c =
    let below : c.count_groups-below.result ≡ min c.args.cap (face_count (inner_of c.branch-item.result)) =
    c.count_groups-below.ensures ∙ ap (λ x. min c.args.cap (face_count x)) (inner_of_out c.branch-item.result) in
    let b = c.branch-item.result in
    let rest = branches_in (drop (c.loop-branch.branch-index + 1) c.deref-branch-items.result.now) in
    let step : branch_count (branches_in (drop c.loop-branch.branch-index c.deref-branch-items.result.now))
    ≡ face_count (inner_of b) + branch_count rest =
    ap branch_count (branches_in-drop _ _ _ c.loop-branch-test.true c.branch-item.is) in
    record {
      capped = omega arith;
      counted = omega arith;
    }

pub count_groups-loop-group-preserved : goal.count_groups-loop-group-preserved
count_groups-loop-group-preserved t c =
    let choices : c.count_branches-choices.result ≡ min c.args.cap (branch_count (branches_of c.group-item.result)) =
    c.count_branches-choices.ensures ∙ ap (λ x. min c.args.cap (branch_count x)) (branches_of_out c.group-item.result) in
    let g = c.group-item.result in
    let rest = face_count (groups_in (drop (c.loop-group.group-index + 1) c.deref-group-items.result.now)) in
    let step : face_count (groups_in (drop c.loop-group.group-index c.deref-group-items.result.now))
    ≡ branch_count (branches_of g) * rest =
    ap face_count (groups_in-drop _ _ _ c.loop-group-test.true c.group-item.is) in
    let new : c.min-count-in-loop-group.result ≡ min c.args.cap (c.loop-group.count * c.count_branches-choices.result) = omega arith in
    record {
      capped = omega arith;
      counted =
          ap (λ x. min c.args.cap (x * rest)) (new ∙ ap (λ x. min c.args.cap (c.loop-group.count * x)) choices)
          ∙ min-mul_cut c.args.cap c.loop-group.count (branch_count (branches_of c.group-item.result)) rest
          ∙ ap (λ x. min c.args.cap (c.loop-group.count * x)) (sym step)
          ∙ c.loop-group.invariant.counted;
    }
