use Rattle.std.proofs.Common.{◌≤◌, length, IfErr, rules, sym, subst, ap, Err, inr}
use Rattle.rc_house.specs.Task.{limit_of}
use Rattle.rc_house.specs.Answer.{IsPrepared}
use Rattle.rc_house.specs.Port.{port}
use Rattle.rc_house.specs.Running.{ReadsNone}
use Rattle.rc_house.proofs.Exits.{at_err}
use Rattle.rc_house.proofs.OutcomeLemmas.{reads_prepared, unread_is}
use Rattle.rc_house.proofs.running.read_prepared.Goals as goal

pub returns-clause-prepared : goal.returns-clause-prepared
returns-clause-prepared g c =
    let bytes = c.in_ok-bytes.bytes.items in
    let few : length bytes ≤ limit_of c.args.task = search rules in
    let is : IsPrepared c.args.task bytes c.in_ok-prepared.prepared =
    subst (λ bytes. IsPrepared c.args.task bytes c.in_ok-prepared.prepared) c.deref.ensures.value c.in_ok-prepared.ensures in
    reads_prepared (g.S.Source.left c.args.source.now) (g.S.Source.left c.read_all.new.source) (g.S.Source.faults c.args.source.now)
    (g.S.Source.faults c.read_all.new.source) c.args.task bytes c.in_ok-prepared.prepared
    c.in_ok-bytes.ensures.whole c.in_ok-bytes.ensures.end few (c.in_ok-bytes.ensures.steady (λ is. absurd cc)) is

pub returns-in_err-bytes-clause-none : goal.returns-in_err-bytes-clause-none
returns-in_err-bytes-clause-none g c =
    let before = port (g.S.Source.left c.args.source.now) (g.S.Source.faults c.args.source.now) in
    let after = port (g.S.Source.left c.read_all.new.source) (g.S.Source.faults c.read_all.new.source) in
    at_err (λ r. IfErr r (ReadsNone c.args.task before after)) c.from_residual.result c.from_residual.ensures.1
    (λ status is. subst (ReadsNone c.args.task before after) (sym is)
    (unread_is c.args.task c.limit.result before after c.in_err-bytes.field-0.0 c.limit.ensures.limit
    (λ same. c.in_err-bytes.ensures.cause (ap (λ fail. Err fail) same)) (λ other. c.in_err-bytes.ensures.steady (λ same. other cc)) c.in_err-bytes.ensures.lost))

pub returns-in_err-prepared-clause-none : goal.returns-in_err-prepared-clause-none
returns-in_err-prepared-clause-none g c =
    let before = port (g.S.Source.left c.args.source.now) (g.S.Source.faults c.args.source.now) in
    let after = port (g.S.Source.left c.read_all.new.source) (g.S.Source.faults c.read_all.new.source) in
    let few : length c.in_ok-bytes.bytes.items ≤ limit_of c.args.task = search rules in
    at_err (λ r. IfErr r (ReadsNone c.args.task before after)) c.from_residual-in_err-prepared.result c.from_residual-in_err-prepared.ensures.1
    (λ status is. inr (inr (is, (c.in_ok-bytes.bytes.items, c.in_ok-bytes.ensures.whole, few), c.in_ok-bytes.ensures.steady (λ is. absurd cc))))
