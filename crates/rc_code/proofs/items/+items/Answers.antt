use Rattle.std.proofs.Common.{◌≡◌, ◌+◌, ◌-◌, ◌++◌, ◌∷◌, [], length, map, drop, sym, ap, ap₂, ◌∙◌, subst, arith}
use Rattle.std.specs.Prelude.{OnOk}
use Rattle.std.proofs.lemmas.List.{length-append}
use Rattle.rc_ast.specs.Items.{item_seen, items_seen}
use Rattle.rc_ast.proofs.ViewLemmas.{stage_seen}
use Rattle.rc_code.specs.Instruction.{begin_stage, end_body}
use Rattle.rc_code.specs.Compiled.{item_code, items_code, item_sites, items_sites}
use Rattle.rc_code.specs.Seen.{list_seen, place_seen}
use Rattle.rc_code.proofs.ItemLemmas.{one_item, one_more_places}
use Rattle.rc_code.proofs.ListLemmas.{grown, behind, enclosed, filled, with_end}
use Rattle.rc_code.proofs.items.+items.Goals as goal

pub push_item-returns-in-Stage-clause-code : goal.push_item-returns-in-Stage-clause-code
push_item-returns-in-Stage-clause-code t c =
    let is = ap item_seen c.in-Stage.is ∙ stage_seen c.in-Stage.number c.in-Stage.class c.in-Stage.end c.in-Stage.body in
    subst (λ i. OnOk c.push_stage.result (list_seen c.push_stage.new.list.items ≡ list_seen c.args.list.now.items ++ item_code i)) (sym is)
    c.push_stage.ensures.code

pub push_item-returns-in-Stage-clause-places : goal.push_item-returns-in-Stage-clause-places
push_item-returns-in-Stage-clause-places t c =
    let is = ap item_seen c.in-Stage.is ∙ stage_seen c.in-Stage.number c.in-Stage.class c.in-Stage.end c.in-Stage.body in
    let outer = c.args.outer.now.items in
    let at = length c.args.list.now.items in
    subst (λ i. OnOk c.push_stage.result
    (map place_seen c.push_stage.new.sites.items ≡ map place_seen c.args.sites.now.items ++ item_sites outer at i)) (sym is) c.push_stage.ensures.places

pub push_inside_stage-returns-clause-code : goal.push_inside_stage-returns-clause-code
push_inside_stage-returns-clause-code t c =
    let old = c.args.list.now.items in
    let pushed = c.push.new.list.items in
    let body = items_code (items_seen c.args.body.now.items) in
    let all = with_end pushed c.push_body.new.list.items c.push-2.new.list.items body c.in-Ok-push_body.ensures.code c.in-Ok-push.ensures in
    enclosed old pushed c.push-2.new.list.items (body ++ end_body ∷ []) end_body c.in-Ok.ensures all

pub push_inside_stage-returns-clause-inside : goal.push_inside_stage-returns-clause-inside
push_inside_stage-returns-clause-inside t c =
    let pushed = c.push.new.list.items in
    let body = items_code (items_seen c.args.body.now.items) in
    let all = with_end pushed c.push_body.new.list.items c.push-2.new.list.items body c.in-Ok-push_body.ensures.code c.in-Ok-push.ensures in
    behind pushed c.push-2.new.list.items (body ++ end_body ∷ []) _ _ all (c.len-from.ensures ∙ c.push.new.list.ok.0)
    (c.len.ensures ∙ c.push-2.new.list.ok.0)
    ∙ length-append body (end_body ∷ [])

pub push_inside_stage-returns-clause-places : goal.push_inside_stage-returns-clause-places
push_inside_stage-returns-clause-places t c =
    let old = c.args.list.now.items in
    let pushed = c.push.new.list.items in
    let body = items_seen c.args.body.now.items in
    let next : length pushed ≡ length old + 1 = grown old pushed (end_body ∷ []) c.in-Ok.ensures in
    let begin : length pushed - 1 ≡ length old = omega (arith, next) in
    c.in-Ok-push_body.ensures.places
    ∙ ap₂ (λ from to. map place_seen c.args.sites.now.items ++ items_sites (c.args.outer.now.items ++ from ∷ []) to body) begin next

pub push_stage-returns-in-Ok-copy_test-clause-code : goal.push_stage-returns-in-Ok-copy_test-clause-code
push_stage-returns-in-Ok-copy_test-clause-code t c =
    let body = items_code (items_seen c.args.body.now.items) in
    let here = c.len-at.ensures ∙ c.args.list.now.ok.0 in
    let one = ap₂ (λ test n. begin_stage c.args.number c.args.class test n) (c.new.ensures ∙ c.in-Ok-copy_test.ensures) c.in-Ok.ensures.inside in
    filled c.args.list.now.items c.push_inside_stage.new.list.items c.write.new.list.items (body ++ end_body ∷ []) end_body _ _ c.len-at.result c.in-Ok.ensures.code
    here c.write.ensures one

pub push_items-loop-item-preserved : goal.push_items-loop-item-preserved
push_items-loop-item-preserved t c =
    let loop = c.loop-item in
    let items = c.deref-item-items.result.now in
    let i = c.item-item.result in
    let within = c.loop-item-test.true in
    let rest = items_seen (drop (loop.item-index + 1) items) in
    let more = grown loop.list.items c.push_item.new.list.items (item_code (item_seen i)) c.in-Ok.ensures.code in
    let same = c.in-Ok.ensures.outer ∙ loop.invariant.2 in
    let pushed =
    c.in-Ok.ensures.places
    ∙ ap (λ outer. map place_seen loop.sites.items ++ item_sites outer (length loop.list.items) (item_seen i)) loop.invariant.2 in (
      one_item items loop.item-index i within c.item-item.is (list_seen loop.list.items) _ _ loop.invariant.0 c.in-Ok.ensures.code,
      one_more_places items loop.item-index i within c.item-item.is (map place_seen loop.sites.items) _ _ _ (length loop.list.items) _
          loop.invariant.1 pushed more,
      same,
    )
