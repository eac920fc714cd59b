use denote.Exit
use denote.Param.Send.{arg_send, param_send}
use Rattle.rc_part_tests.proofs.Observing.{observed_send}
use Rattle.rc_part_tests.proofs.entering.Doorkeeper.TheSendSync as Keepers
use Rattle.rc_part_tests.proofs.entering.play_game.Goals as goal

pub play_claimed-requires-send-C : goal.play_claimed-requires-send-C
play_claimed-requires-send-C g c κs within = param_send 0 _ (arg_send _ Exit.yes _ (observed_send _ Keepers.the_send))
