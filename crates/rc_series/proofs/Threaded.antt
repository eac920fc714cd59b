-- Sheets and their code may be sent to threads and shared among them, and so what is played by them.
use denote.Param.Send.{IsSend, IsSync, sendable, recorded_send, struct_send, struct_sync, view_send}
use denote.Param.SendFields.{variants_send, variants_sync}
use denote.Struct.Declared
use Rattle.std.proofs.Crossing
use Rattle.rc_deck.proofs.tree.Branch.TheLaws.TheKnot as Decks
use Rattle.rc_base.proofs.classes.Class.TheSendSync as Classes
use Rattle.rc_ast.proofs.expressions.CardExpr.TheLaws.TheKnot as Expressions
use Rattle.rc_ast.proofs.expressions.Loc.TheSendSync as Locs
use Rattle.rc_ast.proofs.expressions.Num.TheSendSync as Nums
use Rattle.rc_ast.proofs.expressions.Who.TheSendSync as Players
use Rattle.rc_ast.proofs.effects.Effect.TheLaws.TheKnot as Effects
use Rattle.rc_ast.proofs.effects.End.TheSendSync as Ends
use Rattle.rc_ast.proofs.items.Alt.TheLaws.TheKnot as Alts
use Rattle.rc_ast.proofs.items.SheetItem.TheLaws.TheKnot as Items
use Rattle.rc_ast.specs.contracts.items.SheetItem
use Rattle.rc_ast.specs.contracts.sheet.Sheet
use Rattle.rc_code.proofs.flat.FlatTest.TheSendSync as Flats
use Rattle.rc_code.proofs.guards.Guard.TheSendSync as Guards
use Rattle.rc_code.specs.contracts.asked.CompiledTest
use Rattle.rc_code.specs.contracts.offer.Offer
use Rattle.rc_code.specs.contracts.code.Code
use Rattle.rc_code.specs.contracts.code.Instruction
use Rattle.rc_code.proofs.code.Block.TheSendSync as Blocks
use Rattle.rc_code.proofs.code.SitePlace.TheSendSync as SitePlaces
use Rattle.rc_flow.specs.contracts.check.Checked
use Rattle.rc_rules.proofs.lookup.Lookup.TheSendSync as Lookups
use Rattle.rc_rules.specs.contracts.about.About
use Rattle.rc_table.proofs.shape.Shape.TheSendSync as Shapes
use Rattle.rc_redraw.proofs.desk.Desk.TheSendSync as Desks
use Rattle.rc_flat.proofs.stand.Stand.TheSendSync as Stands
use Rattle.rc_flat.proofs.state.State.TheSendSync as States
use Rattle.rc_flat.specs.contracts.homing.HomeMachine
use Rattle.rc_flat.specs.contracts.homing.HomeMachine.TheInside as InHome
use Rattle.rc_flat.specs.contracts.machine.FlatMachine
use Rattle.rc_flat.specs.contracts.machine.FlatMachine.TheInside as InMachine
use Rattle.rc_rollout.specs.contracts.ground.Ground
use Rattle.rc_rollout.specs.contracts.ground.Ground.TheInside as InGround

item_sync : IsSync SheetItem.the_row
item_sync =
    search (
      Classes.the_field_sync,
      Ends.the_field_sync,
      Locs.the_field_sync,
      Nums.the_field_sync,
      Players.the_field_sync,
      Crossing.crosses,
      Expressions.crosses,
      Effects.crosses,
      Alts.crosses,
      Items.crosses,
      sendable,
    ) depth 60 fits 20000

item_send : IsSend SheetItem.the_row
item_send =
    search (
      Classes.the_field_send,
      Ends.the_field_send,
      Locs.the_field_send,
      Nums.the_field_send,
      Players.the_field_send,
      Crossing.crosses,
      Expressions.crosses,
      Effects.crosses,
      Alts.crosses,
      Items.crosses,
      sendable,
    ) depth 60 fits 20000

-- A search for each field of a sheet, in their order. One for all of them together goes too far.
fields_sync : IsSync (Sheet.the_field).row
fields_sync =
    struct_sync (Declared.shape Sheet.the_type) (
      search sendable depth 20,
      (
        search (Crossing.crosses, sendable) depth 20,
        (
          search (Crossing.crosses, sendable) depth 20,
          (
            search (Crossing.crosses, Decks.crosses, sendable) depth 20,
            (
              search (Crossing.crosses, sendable) depth 20,
              (
                search (Crossing.crosses, sendable) depth 20,
                (
                  search (Crossing.crosses, sendable) depth 20,
                  (
                    Crossing.Vec-sync SheetItem.the_row item_sync,
                    (search sendable depth 20, (search (Crossing.crosses, Expressions.crosses, sendable) depth 20, tt)),
                  ),
                ),
              ),
            ),
          ),
        ),
      ),
    )

fields_send : IsSend (Sheet.the_field).row
fields_send =
    struct_send (Declared.shape Sheet.the_type) (
      search sendable depth 20,
      (
        search (Crossing.crosses, sendable) depth 20,
        (
          search (Crossing.crosses, sendable) depth 20,
          (
            search (Crossing.crosses, Decks.crosses, sendable) depth 20,
            (
              search (Crossing.crosses, sendable) depth 20,
              (
                search (Crossing.crosses, sendable) depth 20,
                (
                  search (Crossing.crosses, sendable) depth 20,
                  (
                    Crossing.Vec-send SheetItem.the_row item_send,
                    (search sendable depth 20, (search (Crossing.crosses, Expressions.crosses, sendable) depth 20, tt)),
                  ),
                ),
              ),
            ),
          ),
        ),
      ),
    )

checked_sync : IsSync Checked.the_row
checked_sync = search (fields_sync, Crossing.crosses, sendable) depth 20

checked_send : IsSend Checked.the_row
checked_send = search (fields_send, Crossing.crosses, sendable) depth 20

pub about_sync : IsSync About.the_row
about_sync = search (checked_sync, checked_send, Shapes.the_send, Shapes.the_sync, Lookups.the_send, Lookups.the_sync, Crossing.crosses, sendable) depth 20

pub about_send : IsSend About.the_row
about_send = search (checked_sync, checked_send, Shapes.the_send, Shapes.the_sync, Lookups.the_send, Lookups.the_sync, Crossing.crosses, sendable) depth 20

-- What effects and the expressions in them stand on.
ruleset expressions_sync = (Locs.the_field_sync, Nums.the_field_sync, Players.the_field_sync, Crossing.crosses, Expressions.crosses)

ruleset effects_sync = (Ends.the_field_sync, expressions_sync, Effects.crosses)

ruleset expressions_send = (Locs.the_field_send, Nums.the_field_send, Players.the_field_send, Crossing.crosses, Expressions.crosses)

ruleset effects_send = (Ends.the_field_send, expressions_send, Effects.crosses)

asked_sync : IsSync CompiledTest.the_row
asked_sync = search (Flats.the_field_sync, expressions_sync, sendable) depth 60 fits 20000

asked_send : IsSend CompiledTest.the_row
asked_send = search (Flats.the_field_send, expressions_send, sendable) depth 60 fits 20000

offer_sync : IsSync Offer.the_row
offer_sync = search (Guards.the_field_sync, Alts.crosses, effects_sync, sendable) depth 60 fits 20000

offer_send : IsSend Offer.the_row
offer_send = search (Guards.the_field_send, Alts.crosses, effects_send, sendable) depth 60 fits 20000

-- A search for the fields of each kind of instruction, in their order. One for all kinds together goes too far.
instruction_sync : IsSync Instruction.the_row
instruction_sync =
    variants_sync Instruction.enum (
      search (effects_sync, sendable) depth 60 fits 20000,
      (
        search (asked_sync, sendable) depth 60 fits 20000,
        (
          search (expressions_sync, sendable) depth 60 fits 20000,
          (
            search (expressions_sync, sendable) depth 60 fits 20000,
            (
              search sendable depth 20,
              (
                search (Classes.the_field_sync, asked_sync, sendable) depth 60 fits 20000,
                (search (offer_sync, Crossing.crosses, Blocks.the_field_sync, sendable) depth 60 fits 20000, (tt, tt)),
              ),
            ),
          ),
        ),
      ),
    )

instruction_send : IsSend Instruction.the_row
instruction_send =
    variants_send Instruction.enum (
      search (effects_send, sendable) depth 60 fits 20000,
      (
        search (asked_send, sendable) depth 60 fits 20000,
        (
          search (expressions_send, sendable) depth 60 fits 20000,
          (
            search (expressions_send, sendable) depth 60 fits 20000,
            (
              search sendable depth 20,
              (
                search (Classes.the_field_send, asked_send, sendable) depth 60 fits 20000,
                (search (offer_send, Crossing.crosses, Blocks.the_field_send, sendable) depth 60 fits 20000, (tt, tt)),
              ),
            ),
          ),
        ),
      ),
    )

pub code_sync : IsSync Code.the_row
code_sync = search (instruction_sync, SitePlaces.the_sync, Crossing.crosses, sendable) depth 20

pub code_send : IsSend Code.the_row
code_send = search (instruction_send, SitePlaces.the_send, Crossing.crosses, sendable) depth 20

-- What playouts stand on: the about, the code, and where a match stands.
machine_send : IsSend FlatMachine.the_row
machine_send =
    view_send InMachine.the_row _ _ _ _
    (recorded_send InMachine.the_field.row _ _ InMachine.the_type.to_one
    (struct_send (Declared.shape InMachine.the_type) (
      about_send,
      (
        search (code_sync, code_send, Crossing.crosses, sendable) depth 20,
        (
          States.the_field_send,
          (search sendable depth 20, tt),
        ),
      ),
    )))

home_send : IsSend HomeMachine.the_row
home_send =
    view_send InHome.the_row _ _ _ _
    (recorded_send InHome.the_field.row _ _ InHome.the_type.to_one
    (struct_send (Declared.shape InHome.the_type)
    (machine_send, (Stands.the_field_send, (search (code_sync, code_send, Crossing.crosses, sendable) depth 20, tt)))))

pub ground_send : IsSend Ground.the_row
ground_send =
    view_send InGround.the_row _ _ _ _
    (recorded_send InGround.the_field.row _ _ InGround.the_type.to_one
    (struct_send (Declared.shape InGround.the_type) (
      search (about_sync, about_send, Crossing.crosses, sendable) depth 20,
      (
        search (Desks.the_send, Crossing.crosses, sendable) depth 20,
        (search (home_send, Crossing.crosses, sendable) depth 20, tt),
      ),
    )))
