use Rattle.std.proofs.Common.{◌≡◌, ◌+◌, ◌*◌}
use Rattle.rc_form.specs.Form.{trees_of, packed}
use Rattle.rc_form.specs.declared.form.Form.{size-Form}
use Rattle.rc_sheet_spec.specs.Sheet.{item}
use Rattle.rc_ast.specs.Items.{item_seen}
use Rattle.rc_sheet.specs.Begun.{begun_seen}
use Rattle.rc_sheet.specs.ReadItems.{items_at}
use Rattle.rc_sheet.proofs.InTurn.{so_far_from}
use Rattle.rc_sheet.proofs.Sizes.{largest}
use Rattle.rc_sheet.proofs.reader.Reader.+items.Given as goal

-- a form is larger than its parts; a list of parts comes before a stage, a stage before its items, and these before each item
abbrev pub decreases-item : goal.decreases-item
decreases-item l = 4 * size-Form l.form.now

abbrev pub decreases-item_list : goal.decreases-item_list
decreases-item_list l = 4 * largest l.parts.now + 3

abbrev pub decreases-stage : goal.decreases-stage
decreases-stage l = 4 * largest l.body.now + 2

abbrev pub decreases-items : goal.decreases-items
decreases-items l = 4 * largest l.forms.now + 1

-- what is read so far, before what is left to read, is the whole
abbrev pub invariant-items-loop-form : goal.invariant-items-loop-form
invariant-items-loop-form l =
    so_far_from item_seen item (items_at l.self) (begun_seen l.behind) l.all.items l.forms l.form-index
    ≡ items_at l.self (begun_seen l.fn.begun) (packed (trees_of l.forms))
