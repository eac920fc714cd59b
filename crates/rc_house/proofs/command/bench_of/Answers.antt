use Rattle.std.proofs.lemmas.Result.{IfOk-weaker}
use Rattle.rc_house.proofs.WordLemmas.{none_weaker, no_options}
use Rattle.rc_house.proofs.command.bench_of.Goals as goal

pub returns-in-Some-clause-none : goal.returns-in-Some-clause-none
returns-in-Some-clause-none c =
    IfOk-weaker c.numbered_bench.result _ _ (λ found. none_weaker found (no_options c.args.rest.now)) c.numbered_bench.ensures.none
