use Rattle.std.proofs.Common.{[], ◌∷◌, codes}
use denote.Param
use denote.Param.Send.{shr_sync, sendable}
use denote.Plain
use denote.Struct.Field
use mir.Syntax
use Rattle.std.proofs.Crossing
use Rattle.std.specs.contracts.alloc.Global
use Rattle.std.specs.contracts.impls.GlobalAllocator.TheImpl
use Rattle.std.specs.contracts.sync.Arc
use Rattle.std.proofs.alloc.Global.TheSendSync as GlobalCross
use Rattle.std.proofs.sync.Arc.TheSendSync as ArcCross
use Rattle.std.below.std_heap.proofs.GlobalAllocator.TheSendSync as HeapCross
use Rattle.rc_claims.specs.contracts.claims.Claims
use Rattle.rc_code.specs.contracts.code.Code
use Rattle.rc_claims.proofs.claims.Claims.TheSendSync as ClaimsCross
use Rattle.rc_rules.specs.contracts.about.About
use Rattle.rc_rules.specs.contracts.plan.Plan
use Rattle.rc_rules.proofs.plan.Plan.TheSendSync as PlanCross
use Rattle.rc_series.proofs.Threaded.{about_sync, about_send, code_sync, code_send}
use Rattle.rc_series.proofs.CaptureLemmas.{tuple_sync}
use Rattle.rc_series.proofs.claiming.turns_of.Goals as goal

pub map_vec-requires-sync-F : goal.map_vec-requires-sync-F
map_vec-requires-sync-F g c κs within =
    record {
      shared =
          (tuple_sync (codes "rc_series::claiming::fn::turns_of::map_vec+Self")
          ((Field.shr_ref_field record { mir = Syntax.named 7; lft = κs.1.1.1.1.1.1.1.0 } Global.the_row tt).row
          ∷ (Field.shr_ref_field record { mir = Syntax.named 8; lft = κs.1.1.1.1.1.1.1.1.0 } (Arc.the_row About.the_row Global.the_row TheImpl.ghosts) tt).row
          ∷ (Field.shr_ref_field record { mir = Syntax.named 9; lft = κs.1.1.1.1.1.1.1.1.1.0 } (Arc.the_row Plan.the_row Global.the_row TheImpl.ghosts) tt).row
          ∷ (Field.shr_ref_field record { mir = Syntax.named 10; lft = κs.1.1.1.1.1.1.1.1.1.1.0 } (Arc.the_row Code.the_row Global.the_row TheImpl.ghosts) tt).row
          ∷ (Field.shr_ref_field record { mir = Syntax.named 11; lft = κs.1.1.1.1.1.1.1.1.1.1.1.0 } Plain.Boolean tt).row
          ∷ (Field.shr_ref_field record { mir = Syntax.named 12; lft = κs.1.1.1.1.1.1.1.1.1.1.1.1.0 } Claims.the_row tt).row
          ∷ (Field.shr_ref_field record { mir = Syntax.named 13; lft = κs.1.1.1.1.1.1.1.1.1.1.1.1.1.0 } (Param.param 2 g.row.G) tt).row
          ∷ []) (
            shr_sync _ _ Global.the_row GlobalCross.the_sync,
            (
              shr_sync _ _ (Arc.the_row About.the_row Global.the_row TheImpl.ghosts)
                  (ArcCross.the_sync About.the_row Global.the_row TheImpl.ghosts about_send GlobalCross.the_send about_sync GlobalCross.the_sync HeapCross.the_frees),
              (
                shr_sync _ _ (Arc.the_row Plan.the_row Global.the_row TheImpl.ghosts)
                    (ArcCross.the_sync Plan.the_row Global.the_row TheImpl.ghosts PlanCross.the_send GlobalCross.the_send PlanCross.the_sync GlobalCross.the_sync HeapCross.the_frees),
                (
                  shr_sync _ _ (Arc.the_row Code.the_row Global.the_row TheImpl.ghosts)
                      (ArcCross.the_sync Code.the_row Global.the_row TheImpl.ghosts code_send GlobalCross.the_send code_sync GlobalCross.the_sync HeapCross.the_frees),
                  (
                    shr_sync _ _ Plain.Boolean (search (Crossing.crosses, sendable) depth 20),
                    (shr_sync _ _ Claims.the_row ClaimsCross.the_sync, (shr_sync _ _ (Param.param 2 g.row.G) c.type_bounds.sync-G, tt)),
                  ),
                ),
              ),
            ),
          )).shared;
    }
