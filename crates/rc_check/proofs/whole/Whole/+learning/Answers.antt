use Rattle.std.proofs.Common.{◌≡◌, Some, None, OnOk, sym, ap, subst, ◌∙◌, refl}
use Rattle.rc_form.specs.Form.{tree_of, trees_of, packed}
use Rattle.rc_check.specs.SecondParts.{parts_at, role_in}
use Rattle.rc_check.specs.Summary.{know_all}
use Rattle.rc_check.proofs.GroupLemmas.{list_seen}
use Rattle.rc_base.specs.Tree.{list}
use Rattle.rc_check.specs.Giving.{gives_nothing, is_given}
use Rattle.rc_check.proofs.Giving.{nothing_at}
use Rattle.rc_check.proofs.Learned.{nowhere, standing_at, standing_by, learnt}
use Rattle.rc_check.proofs.whole.Whole.+learning.Goals as goal
use Rattle.rc_check.proofs.whole.Whole.+learning.Goals.{learn_parts-in-Some+in_ok-learn, learn_parts-in_default}

pub learn-returns-in-List-clause-known : goal.learn-returns-in-List-clause-known
learn-returns-in-List-clause-known t c = λ at place role.
    subst (λ tree. OnOk c.learn_list.result (c.learn_list.new.self ≡ know_all c.args.self.now (parts_at (Some at) tree)))
    (sym (list_seen _ _ _ _ c.in-List.is c.as_slice.ensures.trees))
    (c.learn_list.ensures.known at c.in-List.span.from c.in-List.span.to place role)

pub learn_parts-loop-index-preserved : goal.learn_parts-loop-index-preserved
learn_parts-loop-index-preserved t c = λ at role.
    let forms = c.args.parts.now in
    let all = packed (trees_of forms) in
    let rule = c.args.rule in
    let index = c.loop-index.index in
    let part = c.index-parts-index.result in
    let known = c.loop-index.self in
    let new = c.match-place_at.self in
    let step = learnt at rule index forms part known new c.loop-index-test.true c.index-parts-index.is in
    elim c.match-place_at.branch [
      | learn_parts-in-Some+in_ok-learn w ↦ step
          (w.self-is
          ∙ w.in_ok-learn.ensures.known (standing_at at rule all index w.in-Some.place) refl
          (ap (λ role. role_in role rule index) role ∙ sym w.role_in.ensures)
          ∙ ap (λ place. know_all known (parts_at place (tree_of part)))
          (sym (standing_by at rule forms index c.place_at.result (Some w.in-Some.place) c.place_at.ensures w.in-Some.is)))
          ∙ c.loop-index.invariant at role
      | learn_parts-in_default w ↦ step
          (w.self-is
          ∙ ap (λ parts. know_all known parts)
          (sym (ap (λ place. parts_at place (tree_of part))
          (standing_by at rule forms index c.place_at.result None c.place_at.ensures w.in_default.is) ∙ nowhere (tree_of part))))
          ∙ c.loop-index.invariant at role
    ]

pub learn_list-returns-then-not-is_given-clause-known : goal.learn_list-returns-then-not-is_given-clause-known
learn_list-returns-then-not-is_given-clause-known t c = λ at from to place role.
    sym
    (nothing_at (list (packed (trees_of c.args.parts.now)) from to) c.args.self.now at
    (ap gives_nothing place ∙ sym c.gives_nothing.ensures ∙ c.if-gives_nothing.true)
    (ap is_given role ∙ sym c.is_given.ensures ∙ c.if-not-is_given.true))
