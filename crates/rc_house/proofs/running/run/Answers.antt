use Rattle.std.proofs.Common.{◌≡◌, map, string_bytes, true, rules}
use Rattle.rc_house.specs.Command.{workers_of}
use Rattle.rc_house.specs.Port.{port, ports}
use Rattle.rc_house.proofs.EndsLemmas.{more_than_one, ran, none_ran}
use Rattle.rc_house.proofs.PlayingLemmas.{runs_so}
use Rattle.rc_house.proofs.running.run.Goals as goal

pub answer_from-answered-requires-clause-named : goal.answer_from-answered-requires-clause-named
answer_from-answered-requires-clause-named g c = (map string_bytes c.args.words.now, c.in-Ok.ensures.named)

pub returns-in-Ok-clause-ends : goal.returns-in-Ok-clause-ends
returns-in-Ok-clause-ends g c =
    let at_source = λ (s : _). port (g.S.Source.left s) (g.S.Source.faults s) in
    let at_out = λ (o : _). port (g.O.Sink.written o) (g.O.Sink.faults o) in
    let at_notes = λ (n : _). port (g.N.Sink.written n) (g.N.Sink.faults n) in
    let before = ports (at_source c.args.source.now) (at_out c.args.out.now) (at_notes c.args.notes.now) in
    let after = ports (at_source c.answer_from-answered.new.source) (at_out c.conclude.new.out) (at_notes c.conclude.new.notes) in
    let done = c.answer_from-answered.ensures in
    let ends = c.conclude.ensures in (
      done.answers.0,
      ran true (map string_bytes c.args.words.now) c.in-Ok.command before after 0 done.answers.0 c.conclude.result
          c.in-Ok.ensures.named c.in-Ok.ensures.can
          (runs_so c.in-Ok.command before after 0 done.answers.0 c.answer_from-answered.result c.conclude.result done.answers.1 ends.concludes)
          (record { source = done.counted; out = ends.out_counted; notes = ends.notes_counted }),
    )

pub answer_together-answered-requires-clause-named : goal.answer_together-answered-requires-clause-named
answer_together-answered-requires-clause-named g c = λ lifetimes outlive. (map string_bytes c.args.words.now, c.in-Ok.ensures.named)

pub answer_together-answered-requires-clause-many : goal.answer_together-answered-requires-clause-many
answer_together-answered-requires-clause-many g c = λ lifetimes outlive.
    let more : workers_of c.in-Ok.command ≡ 1 → ⊥ = search rules in
    more_than_one (map string_bytes c.args.words.now) c.in-Ok.command c.in-Ok.ensures.named more

pub returns-in-Ok-2-clause-ends : goal.returns-in-Ok-2-clause-ends
returns-in-Ok-2-clause-ends g c =
    let at_source = λ (s : _). port (g.S.Source.left s) (g.S.Source.faults s) in
    let at_out = λ (o : _). port (g.O.Sink.written o) (g.O.Sink.faults o) in
    let at_notes = λ (n : _). port (g.N.Sink.written n) (g.N.Sink.faults n) in
    let before = ports (at_source c.args.source.now) (at_out c.args.out.now) (at_notes c.args.notes.now) in
    let after = ports (at_source c.answer_together-answered.new.source) (at_out c.conclude-in-Ok-2.new.out) (at_notes c.conclude-in-Ok-2.new.notes) in
    let done = c.answer_together-answered.ensures in
    let ends = c.conclude-in-Ok-2.ensures in (
      0,
      ran true (map string_bytes c.args.words.now) c.in-Ok.command before after 0 0 c.conclude-in-Ok-2.result
          c.in-Ok.ensures.named c.in-Ok.ensures.can
          (runs_so c.in-Ok.command before after 0 0 c.answer_together-answered.result c.conclude-in-Ok-2.result done.answers ends.concludes)
          (record { source = done.counted; out = ends.out_counted; notes = ends.notes_counted }),
    )

pub returns-in-Err-clause-ends : goal.returns-in-Err-clause-ends
returns-in-Err-clause-ends g c =
    let at_source = λ (s : _). port (g.S.Source.left s) (g.S.Source.faults s) in
    let at_out = λ (o : _). port (g.O.Sink.written o) (g.O.Sink.faults o) in
    let at_notes = λ (n : _). port (g.N.Sink.written n) (g.N.Sink.faults n) in (
      0,
      none_ran true (map string_bytes c.args.words.now) (at_source c.args.source.now) (at_out c.args.out.now)
          (at_notes c.args.notes.now) (at_notes c.refuse.new.notes) 0 c.in-Err.status c.refuse.result
          c.in-Err.ensures.none c.refuse.ensures.status c.refuse.ensures.noted c.refuse.ensures.counted,
    )
