use Rattle.std.proofs.Common.{◌≡◌, ◌≤◌, [], length, ap, arith, rules, IsTrue}
use Rattle.std.proofs.lemmas.List.{drop_all}
use Rattle.rc_base.specs.Token.{tokens_from, between}
use Rattle.rc_form.specs.Lexer.{tokens_at}
use Rattle.rc_form.specs.Reader.{is_reading}
use Rattle.rc_form.proofs.reading.read_lists.Goals as goal
use Rattle.rc_form.proofs.reading.read_lists.Goals.{then-loop-at-test+else-is_reading, else-loop-at-test}

pub returns-in-Err-finish-clause-fault : goal.returns-in-Err-finish-clause-fault
returns-in-Err-finish-clause-fault c =
    let text = c.args.text.now in
    let at = c.loop-at.at in
    let no_token : IsTrue (is_reading c.loop-at.reader) → tokens_at text at ≡ [] = λ reading.
    elim c.loop-at-test.branch [
      | then-loop-at-test+else-is_reading w ↦ absurd (search rules)
      | else-loop-at-test w ↦
          let past : length text ≤ at = omega arith in
          ap (tokens_from between at) (drop_all at text past)
    ] in
    rw c.loop-at.invariant.same (c.in-Err-finish.ensures.fault (tokens_at text at) no_token)
