use Rattle.std.proofs.Common.{ap, ◌∙◌, map, slice_get}
use Rattle.rc_ast.specs.Items.{item_seen}
use Rattle.rc_play_spec.specs.Path.{body_at}
use Rattle.rc_plain.specs.Paths.{item_at}
use Rattle.rc_plain.proofs.StageLemmas.{items_are}
use Rattle.rc_plain.proofs.path.Path.item.Goals as goal

pub returns-clause-item : goal.returns-clause-item
returns-clause-item c =
    let next = c.self.inside.next in
    let items = items_are c.sheet.result.now c.args.about.now.sheet c.sheet.ensures.same in
    c.item_in.ensures.item
    ∙ ap (λ xs. slice_get xs next) c.innermost.ensures
    ∙ ap (λ xs. slice_get (body_at (map item_seen xs) c.as_slice.result.now) next) c.deref.ensures.value
    ∙ ap (λ outer. slice_get (body_at (map item_seen c.sheet.result.now.items.items) outer) next) c.as_slice.ensures.value
    ∙ ap (λ xs. slice_get (body_at xs c.self.inside.outer.items) next) items
    ∙ ap (item_at c.args.about.now.sheet) c.self.view_is
