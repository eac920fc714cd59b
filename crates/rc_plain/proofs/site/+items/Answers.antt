use Rattle.std.proofs.Common.{◌≡◌, ℕ, ◌+◌, ap, sym, ◌∙◌, subst, ◌++◌, ◌∷◌, [], Some, arith, rules, length}
use Rattle.rc_play_spec.specs.Menu.{alts_in_item}
use Rattle.rc_play_spec.specs.Path.{items_depth}
use Rattle.rc_ast.specs.Items.{item_seen, items_seen}
use Rattle.arrayvec.specs.ArrayVec.{ArrayVec}
use Rattle.rc_ast.specs.declared.items.SheetItem.TheFolds
use Rattle.rc_plain.specs.Paths.{Finds}
use Rattle.rc_plain.proofs.SiteLemmas.{not_there, other_choice, none_in_stage, found_here, found_in_stage, not_found, room_below, but_last}
use Rattle.rc_plain.proofs.site.+items.Goals.{in-Do, in-Choice+else-other-site, in-Stage+else-is_some}
use Rattle.rc_plain.proofs.site.+items.Goals as goal

pub returns-then-other-site : goal.returns-then-other-site
returns-then-other-site t c =
    let before = c.args.outer.now.items in
    subst (λ xs. Finds (items_seen xs) c.args.site before c.loop-item.outer.items (Some c.loop-item.place)) c.deref-item-items.ensures.value
    (found_here c.args.site c.in-Choice.other c.loop-item.place c.loop-item.item-index c.in-Choice.alts c.deref-item-items.result.now c.item-item.result
    before c.loop-item.outer.items c.loop-item-test.true c.item-item.is c.loop-item.invariant.place c.in-Choice.is c.if-other-site.true c.loop-item.invariant.same)

pub find-found-requires : goal.find-found-requires
find-found-requires t c =
    let deep = room_below c.in-Stage.number c.in-Stage.class c.in-Stage.end c.in-Stage.body c.deref-item-items.result.now c.loop-item.item-index c.item-item.result
    c.loop-item-test.true c.item-item.is c.in-Stage.is in
    let whole = ap (λ xs. items_depth (items_seen xs)) c.deref-item-items.ensures.value in
    let room = c.requires.room in
    let same = ap length c.loop-item.invariant.same in
    let pushed = c.push.ensures.len in
    (search (rules, TheFolds.the_lemmas), omega (arith, deep, whole, room, same, pushed))

pub returns-then-is_some : goal.returns-then-is_some
returns-then-is_some t c =
    let before = c.args.outer.now.items in
    let after = c.find-found.new.outer.items in
    subst (λ xs. Finds (items_seen xs) c.args.site before after c.find-found.result) c.deref-item-items.ensures.value
    (found_in_stage c.args.site c.loop-item.place c.loop-item.item-index c.in-Stage.number c.in-Stage.class c.in-Stage.end c.in-Stage.body c.deref-item-items.result.now
    c.item-item.result before c.push.new.self.items after c.find-found.result c.loop-item-test.true c.item-item.is c.loop-item.invariant.place c.in-Stage.is
    (c.push.ensures.items ∙ ap (λ ys. ys ++ c.loop-item.place ∷ []) c.loop-item.invariant.same)
    (sym c.is_some.ensures ∙ c.if-is_some.true) c.find-found.ensures)

pub loop-item-preserved : goal.loop-item-preserved
loop-item-preserved t c =
    let site = c.args.site in
    let xs = c.deref-item-items.result.now in
    let x = c.item-item.result in
    let same = c.loop-item.invariant.same in
    let kept : (c.match-item.outer.items ≡ c.args.outer.now.items) × (alts_in_item site (item_seen x) ≡ []) =
    elim c.match-item.branch [
      | in-Do w ↦ (ap (λ (v : ArrayVec ℕ). v.items) w.outer-is ∙ same, ap (λ y. alts_in_item site (item_seen y)) w.in-Do.is)
      | in-Choice+else-other-site w ↦ (
        ap (λ (v : ArrayVec ℕ). v.items) w.outer-is ∙ same,
        other_choice site w.in-Choice.other w.in-Choice.alts x w.in-Choice.is w.if-other-site.false,
      )
      | in-Stage+else-is_some w ↦
          let none = not_found (items_seen w.in-Stage.body.items) site w.push.new.self.items w.find-found.new.outer.items w.find-found.result
          (sym w.is_some.ensures ∙ w.if-is_some.false) w.find-found.ensures in (
            ap (λ (v : ArrayVec ℕ). v.items) w.outer-is ∙ w.pop.ensures.rest
                ∙ but_last c.loop-item.outer.items w.find-found.new.outer.items c.loop-item.place (none.0 ∙ w.push.ensures.items) ∙ same,
            none_in_stage site w.in-Stage.number w.in-Stage.class w.in-Stage.end w.in-Stage.body x w.in-Stage.is none.1,
          )
    ] in
    record {
      same = kept.0;
      place = ap (λ k. k + 1) c.loop-item.invariant.place;
      left = not_there site xs c.loop-item.item-index x c.loop-item-test.true c.item-item.is kept.1 ∙ c.loop-item.invariant.left;
    }
