use Rattle.std.proofs.Common.{◌≡◌, ◌++◌, take, flat_map}
use Rattle.std.specs.Prelude.{string_bytes}
use Rattle.rc_play_spec.specs.View.{partly}
use Rattle.rc_log_spec.specs.Shown.{cards_shown}
use Rattle.rc_log_spec.specs.Lines.{card_text}
use Rattle.rc_seatlog.proofs.write.write_cards.Given as goal

abbrev pub invariant-loop-card : goal.invariant-loop-card
invariant-loop-card l = string_bytes l.out ≡ string_bytes l.initial.out ++ flat_map card_text (cards_shown (partly (take l.card-index l.cards)))
