use Rattle.std.proofs.Common.{refl, subst}
use Rattle.rc_sheet_spec.specs.Sheet.{item}
use Rattle.rc_sheet_spec.specs.Lists.{items_from}
use Rattle.rc_ast.specs.Items.{item_seen}
use Rattle.rc_sheet.specs.Begun.{begun_seen, item_read}
use Rattle.rc_sheet.specs.Gives.{Gives}
use Rattle.rc_sheet.specs.ReadItems.{item_at, items_at}
use Rattle.rc_sheet.proofs.ItemLemmas.{player_stage_read, team_stage_read}
use Rattle.rc_sheet.proofs.InTurn.{goes_on_from, is_done_from}
use Rattle.rc_sheet.proofs.reader.Reader.+items.Goals as goal

pub item_list-returns-in-PlayerStage : goal.item_list-returns-in-PlayerStage
item_list-returns-in-PlayerStage t c =
    let given = c.in_ok-rule.ensures in
    let end = c.index-parts-2 in
    let read = player_stage_read c.args.self.now (begun_seen c.args.begun) c.args.parts.now _ end.result
    given.given given.sized c.in-PlayerStage.is end.is in
    subst (Gives item_read c.stage.result) read c.stage.ensures

pub item_list-returns-in-TeamStage : goal.item_list-returns-in-TeamStage
item_list-returns-in-TeamStage t c =
    let given = c.in_ok-rule.ensures in
    let end = c.index-parts-2-in-TeamStage in
    let read = team_stage_read c.args.self.now (begun_seen c.args.begun) c.args.parts.now _ end.result
    given.given given.sized c.in-TeamStage.is end.is in
    subst (Gives item_read c.stage-in-TeamStage.result) read c.stage-in-TeamStage.ensures

pub items-loop-form-preserved : goal.items-loop-form-preserved
items-loop-form-preserved t c =
    let naming = c.args.self.now in
    rw c.in_ok-push.ensures.items
    (goes_on_from item_seen item (item_at naming) (items_at naming) (λ begun tree trees. refl) (begun_seen c.loop-form.behind)
    (begun_seen c.in_ok-item.after) c.loop-form.all.items c.args.forms.now c.loop-form.form-index
    c.form-item.result c.in_ok-item.item _
    c.loop-form-test.true c.form-item.is c.in_ok-item.ensures c.loop-form.invariant)

pub items-returns : goal.items-returns
items-returns t c =
    is_done_from item_seen item items_from (items_at c.args.self.now) (λ i later. refl) (begun_seen c.loop-form.behind) refl
    c.loop-form.all.items c.args.forms.now c.loop-form.form-index _ c.loop-form-test.false c.loop-form.invariant
