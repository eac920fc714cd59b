-- What a doorkeeper watches may be sent to a thread.
use denote.Param.Send.{IsSend, sendable, recorded_send, struct_send}
use denote.RattleType.{RattleType}
use denote.Struct.Declared
use Rattle.std.proofs.Crossing
use Rattle.rc_rollout.proofs.blank.Blank.TheSendSync as Blanks
use Rattle.rc_rollout.specs.contracts.blank.Blank
use Rattle.rc_rollout.specs.contracts.choices.Choices
use Rattle.rc_series.proofs.Threaded.{code_sync, code_send, ground_send}
use Rattle.rc_games.specs.contracts.observed.Observed

-- the code, what is kept from decision to decision, and what remembers nothing
choices_send : IsSend (Choices.the_field Blank.the_row).row
choices_send =
    struct_send (Declared.shape (Choices.the_type Blank.the_row))
    (search (code_sync, code_send, Crossing.crosses, sendable) depth 20, (ground_send, (Blanks.the_send, tt)))

-- choices, the code once more, and an observer that may be sent
pub observed_send : (O : RattleType) → IsSend O → IsSend (Observed.the_row O)
observed_send O s =
    recorded_send (Observed.the_field O).row _ _ (Observed.the_type O).to_one
    (struct_send (Declared.shape (Observed.the_type O)) (choices_send, (search (code_sync, code_send, Crossing.crosses, sendable) depth 20, (s, tt))))
