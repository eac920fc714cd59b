use Rattle.std.proofs.Common.{◌≡◌, ◌≤◌, true, slice_get, subst}
use Rattle.rc_play_spec.specs.Shape.{holds_references}
use Rattle.rc_table.specs.Shape.{mems_among}
use Rattle.rc_table.proofs.Mems.{room_of_two}
use Rattle.rc_table.proofs.table.Table.has_room_among_all.Goals as goal

pub returns-then-is_of_two : goal.returns-then-is_of_two
returns-then-is_of_two c =
    let is = c.shape.ensures.shape in
    room_of_two c.args.self.now.shape c.args.self.now.table c.args.loc c.shape.ensures.sound
    (subst (λ shape. holds_references (slice_get shape.places c.args.loc) ≡ true) is (c.is_of_two.ensures.holds c.if-is_of_two.true))
    (subst (λ shape. mems_among shape.places ≤ 2) is (c.is_of_two.ensures.few c.if-is_of_two.true))
    c.requires.room
