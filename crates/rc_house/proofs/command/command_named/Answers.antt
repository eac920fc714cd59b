use Rattle.std.proofs.Common.{rules, ◌≡◌, codes, map, string_bytes}
use Rattle.std.proofs.lemmas.Result.{IfOk-weaker}
use Rattle.rc_house.proofs.WordLemmas.{none_weaker, no_play, no_bench, no_rival, no_watch}
use Rattle.rc_house.proofs.command.command_named.Goals as goal

pub returns-in-play-clause-none : goal.returns-in-play-clause-none
returns-in-play-clause-none c =
    let named : string_bytes c.args.name.now ≡ codes "play" = search rules in
    IfOk-weaker c.play_of.result _ _ (λ found. none_weaker found (no_play (string_bytes c.args.name.now) (map string_bytes c.args.rest.now) named)) c.play_of.ensures.none

pub returns-in-bench-clause-none : goal.returns-in-bench-clause-none
returns-in-bench-clause-none c =
    let named : string_bytes c.args.name.now ≡ codes "bench" = search rules in
    IfOk-weaker c.bench_of.result _ _ (λ found. none_weaker found (no_bench (string_bytes c.args.name.now) (map string_bytes c.args.rest.now) named)) c.bench_of.ensures.none

pub returns-in-watch-clause-none : goal.returns-in-watch-clause-none
returns-in-watch-clause-none c =
    let named : string_bytes c.args.name.now ≡ codes "watch" = search rules in
    none_weaker c.watch_of.result (no_watch (string_bytes c.args.name.now) (map string_bytes c.args.rest.now) named) c.watch_of.ensures.none

pub returns-in-rival-clause-none : goal.returns-in-rival-clause-none
returns-in-rival-clause-none c =
    let named : string_bytes c.args.name.now ≡ codes "rival" = search rules in
    none_weaker c.named_rival.result (no_rival (string_bytes c.args.name.now) (map string_bytes c.args.rest.now) named) c.named_rival.ensures.none
