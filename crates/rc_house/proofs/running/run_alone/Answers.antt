use Rattle.std.proofs.Common.{map, string_bytes, false}
use Rattle.rc_house.specs.Port.{port, ports}
use Rattle.rc_house.proofs.EndsLemmas.{ran, none_ran}
use Rattle.rc_house.proofs.PlayingLemmas.{runs_so}
use Rattle.rc_house.proofs.running.run_alone.Goals as goal

pub returns-in-Ok-clause-ends : goal.returns-in-Ok-clause-ends
returns-in-Ok-clause-ends g c =
    let at_source = λ (s : _). port (g.S.Source.left s) (g.S.Source.faults s) in
    let at_out = λ (o : _). port (g.O.Sink.written o) (g.O.Sink.faults o) in
    let at_notes = λ (n : _). port (g.N.Sink.written n) (g.N.Sink.faults n) in
    let before = ports (at_source c.args.source.now) (at_out c.args.out.now) (at_notes c.args.notes.now) in
    let after = ports (at_source c.answer_alone-answered.new.source) (at_out c.conclude.new.out) (at_notes c.conclude.new.notes) in
    let done = c.answer_alone-answered.ensures in
    let ends = c.conclude.ensures in
    ran false (map string_bytes c.args.words.now) c.in-Ok.command before after c.args.steps.now c.answer_alone-answered.new.steps c.conclude.result
    c.in-Ok.ensures.named c.in-Ok.ensures.can
    (runs_so c.in-Ok.command before after c.args.steps.now c.answer_alone-answered.new.steps c.answer_alone-answered.result c.conclude.result done.answers ends.concludes)
    (record { source = done.counted; out = ends.out_counted; notes = ends.notes_counted })

pub answer_alone-answered-requires-clause-named : goal.answer_alone-answered-requires-clause-named
answer_alone-answered-requires-clause-named g c = (map string_bytes c.args.words.now, c.in-Ok.ensures.named)

pub returns-in-Err-clause-ends : goal.returns-in-Err-clause-ends
returns-in-Err-clause-ends g c =
    let at_source = λ (s : _). port (g.S.Source.left s) (g.S.Source.faults s) in
    let at_out = λ (o : _). port (g.O.Sink.written o) (g.O.Sink.faults o) in
    let at_notes = λ (n : _). port (g.N.Sink.written n) (g.N.Sink.faults n) in
    none_ran false (map string_bytes c.args.words.now) (at_source c.args.source.now) (at_out c.args.out.now)
    (at_notes c.args.notes.now) (at_notes c.refuse.new.notes) c.args.steps.now c.in-Err.status c.refuse.result
    c.in-Err.ensures.none c.refuse.ensures.status c.refuse.ensures.noted c.refuse.ensures.counted
