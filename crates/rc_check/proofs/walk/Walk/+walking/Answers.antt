use Rattle.std.proofs.Common.{◌≡◌, ◌+◌, ◌∷◌, ◌++◌, [], drop, Some, Ok, Err, option_map, sym, ap, subst, ◌∙◌, refl}
use Rattle.rc_form.specs.Form.{tree_of, trees_of, packed}
use Rattle.rc_check.specs.Checks.{Checks, IfSheetFault}
use Rattle.rc_check.specs.SecondParts.{form, parts_at, parts_in, with_form, attributes_behind}
use Rattle.rc_check.specs.Seen.{standing_seen}
use Rattle.rc_check.specs.Summary.{check_all}
use Rattle.rc_check.proofs.Above.{at_start, above_more}
use Rattle.rc_check.proofs.Checked.{before_more, behind_these, step_on, stop_here, fault_alike, told_fault, told_fine}
use Rattle.rc_check.proofs.GroupLemmas.{list_seen}
use Rattle.rc_check.proofs.SettledParts.{quiet_checked}
use Rattle.rc_check.proofs.walk.Walk.+walking.Goals as goal

pub list-returns-in-Err-clause-walked : goal.list-returns-in-Err-clause-walked
list-returns-in-Err-clause-walked t c = λ to.
    let at = standing_seen c.args.at.now c.args.self.now.above in
    let all = packed (trees_of c.args.parts.now) in
    subst
    (λ found. IfSheetFault c.in-Err.fail
    (λ fault. check_all c.args.whole.now c.args.self.now.seen
    (with_form at all c.args.from (λ rule. parts_in at rule all 0 all) found) ≡ Err fault))
    (sym (sym c.rule_of.ensures ∙ c.in-Some.is))
    (before_more c.args.whole.now c.args.self.now.seen (form at c.in-Some.rule all c.args.from ∷ [])
    (parts_in at c.in-Some.rule all 0 all) c.in-Err.fail c.in-Err.ensures.walked)

pub list-returns-clause-walked : goal.list-returns-clause-walked
list-returns-clause-walked t c = λ to.
    let at = standing_seen c.args.at.now c.args.self.now.above in
    let all = packed (trees_of c.args.parts.now) in
    let rule = c.in-Some.rule in
    let whole = c.args.whole.now in
    let inner = subst
    (λ above. Checks (check_all whole c.form.new.self.seen
    (parts_in (standing_seen c.args.at.now above) rule all 0 all)) c.parts.result c.parts.new.self.seen)
    c.in_default-form.ensures.above c.parts.ensures.walked in
    subst
    (λ found. Checks (check_all whole c.args.self.now.seen
    (with_form at all c.args.from (λ rule. parts_in at rule all 0 all) found)) c.parts.result c.parts.new.self.seen)
    (sym (sym c.rule_of.ensures ∙ c.in-Some.is))
    (behind_these whole c.args.self.now.seen c.form.new.self.seen (form at rule all c.args.from ∷ [])
    (parts_in at rule all 0 all) c.parts.result c.parts.new.self.seen c.in_default-form.ensures.walked inner)

pub part-returns-in-List-clause-walked : goal.part-returns-in-List-clause-walked
part-returns-in-List-clause-walked t c =
    let at = standing_seen c.args.at.now c.args.self.now.above in
    subst (λ tree. Checks
    (check_all c.args.whole.now c.args.self.now.seen (parts_at (Some at) tree)) c.list.result c.list.new.self.seen)
    (sym (list_seen _ _ _ _ c.in-List.is c.as_slice.ensures.trees)) (c.list.ensures.walked c.in-List.span.to)

pub part_in-returns-then-is_quiet-clause-walked : goal.part_in-returns-then-is_quiet-clause-walked
part_in-returns-then-is_quiet-clause-walked t c =
    let above = c.args.self.now.above in
    let seen = c.args.self.now.seen in
    let tree = tree_of c.args.part.now in
    subst
    (λ place. check_all c.args.whole.now seen (parts_at (option_map (λ at. standing_seen at above) place) tree) ≡ Ok seen)
    (sym c.in-Some.is)
    (quiet_checked c.args.whole.now seen (standing_seen c.in-Some.at above) tree (sym c.is_quiet.ensures ∙ c.if-is_quiet.true))

pub parts-loop-index-init : goal.parts-loop-index-init
parts-loop-index-init t c =
    let all = packed (trees_of c.args.parts.now) in
    let at = standing_seen c.args.at.now c.args.self.now.above in (
      c.in_default.ensures.above ∙ ap (λ more. c.args.self.now.above ++ more) (sym (at_start c.args.rule all)),
      ap (λ seen. check_all c.args.whole.now seen (parts_in at c.args.rule all 0 all)) c.enter.ensures.seen,
      λ index. c.in-Ok.ensures.around index,
    )

pub parts-standing_in-standing-requires-clause-inner : goal.parts-standing_in-standing-requires-clause-inner
parts-standing_in-standing-requires-clause-inner t c = c.loop-index.invariant.2 c.loop-index.index

pub parts-returns-in-Err-part_in-clause-walked : goal.parts-returns-in-Err-part_in-clause-walked
parts-returns-in-Err-part_in-clause-walked t c =
    let all = packed (trees_of c.args.parts.now) in
    let at = standing_seen c.args.at.now c.args.self.now.above in
    let index = c.loop-index.index in
    let part = c.index-parts-index.result in
    let whole = c.args.whole.now in
    let seen = c.loop-index.self.seen in
    let checks = subst (λ place. Checks
    (check_all whole seen (parts_at place (tree_of part))) c.part_in.result c.part_in.new.self.seen)
    (ap (λ above. option_map (λ at. standing_seen at above) c.standing_in-standing.result) c.loop-index.invariant.0
    ∙ c.standing_in-standing.ensures at refl refl)
    c.part_in.ensures.walked in
    fault_alike _ _ c.in-Err-part_in.fail c.loop-index.invariant.1
    (stop_here at c.args.rule all index c.args.parts.now part c.loop-index-test.true c.index-parts-index.is whole seen c.in-Err-part_in.fail
    (told_fault _ c.part_in.new.self.seen c.part_in.result c.in-Err-part_in.fail c.in-Err-part_in.is checks))

pub parts-loop-index-preserved : goal.parts-loop-index-preserved
parts-loop-index-preserved t c =
    let forms = c.args.parts.now in
    let all = packed (trees_of forms) in
    let at = standing_seen c.args.at.now c.args.self.now.above in
    let rule = c.args.rule in
    let index = c.loop-index.index in
    let part = c.index-parts-index.result in
    let whole = c.args.whole.now in
    let seen = c.loop-index.self.seen in
    let checks = subst (λ place. Checks
    (check_all whole seen (parts_at place (tree_of part))) c.part_in.result c.part_in.new.self.seen)
    (ap (λ above. option_map (λ at. standing_seen at above) c.standing_in-standing.result) c.loop-index.invariant.0
    ∙ c.standing_in-standing.ensures at refl refl)
    c.part_in.ensures.walked in (
      c.in_default-leave.ensures.above
          ∙ ap (λ above. above ++ attributes_behind rule (tree_of part))
          (c.in_default-part_in.ensures.above ∙ c.loop-index.invariant.0)
          ∙ above_more c.args.self.now.above rule forms index part c.loop-index-test.true c.index-parts-index.is,
      ap (λ known. check_all whole known
          (parts_in at rule all (index + 1) (packed (trees_of (drop (index + 1) forms))))) c.leave.ensures.seen
          ∙ step_on at rule all index forms part c.loop-index-test.true c.index-parts-index.is whole seen c.part_in.new.self.seen
          (told_fine _ c.part_in.new.self.seen c.part_in.result c.in_default-part_in.field-0 c.in_default-part_in.is checks)
          ∙ c.loop-index.invariant.1,
      c.loop-index.invariant.2,
    )
