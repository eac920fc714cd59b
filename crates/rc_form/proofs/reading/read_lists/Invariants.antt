use Rattle.std.proofs.Common.{◌≡◌, ◌-◌, ◌<◌, ◌≤◌, length, [], IsTrue, slice_index}
use Rattle.rc_base.specs.Token.{tokens}
use Rattle.rc_form.specs.Lexer.{tokens_at, begins_token}
use Rattle.rc_form.specs.Read.{read}
use Rattle.rc_form.specs.Reader.{reads, IsInOrder}
use Rattle.rc_form.proofs.reading.read_lists.Given as goal

-- what reading gives from here is what it gives from the start
abbrev pub invariant-loop-at : goal.invariant-loop-at
invariant-loop-at l =
    record {
      within : l.at ≤ length l.text;
      begins : l.at < length l.text → IsTrue (begins_token (slice_index l.text l.at));
      in_order : IsInOrder l.reader;
      same : read l.want [] [] (tokens l.text) ≡ reads l.reader (tokens_at l.text l.at);
    }

abbrev pub decreases-loop-at : goal.decreases-loop-at
decreases-loop-at l = length l.text - l.at
