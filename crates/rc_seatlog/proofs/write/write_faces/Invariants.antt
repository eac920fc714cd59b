use Rattle.std.proofs.Common.{◌≡◌, ◌++◌, take, flat_map}
use Rattle.std.specs.Prelude.{string_bytes}
use Rattle.rc_play_spec.specs.View.{with_faces}
use Rattle.rc_log_spec.specs.Shown.{cards_shown}
use Rattle.rc_log_spec.specs.Lines.{card_text}
use Rattle.rc_seatlog.proofs.write.write_faces.Given as goal

abbrev pub invariant-loop-face : goal.invariant-loop-face
invariant-loop-face l = string_bytes l.out ≡ string_bytes l.initial.out ++ flat_map card_text (cards_shown (with_faces (take l.face-index l.faces)))
