use Rattle.std.proofs.Common.{◌≡◌, ◌<◌, ◌≤◌, true, length, rules, arith, ◌∙◌}
use Rattle.std.proofs.lemmas.Grind.{common_steps}
use Rattle.rc_redraw.specs.Asking.{key_seen}
use Rattle.rc_cache.specs.Same.{same_key}
use Rattle.rc_core.proofs.TakenLemmas.{found_here, rest_here, none_left, all_left}
use Rattle.rc_core.proofs.entries.take_entry.Goals as goal

pub returns-then-same_ask-clause-found : goal.returns-then-same_ask-clause-found
returns-then-same_ask-clause-found c =
    let xs = c.loop-at.entries.items in
    let lt : c.loop-at.at < length xs = search rules in
    let same : same_key (key_seen c.args.key.now) c.remove.result ≡ true = grind (arith, common_steps) in
    found_here (key_seen c.args.key.now) xs c.loop-at.at c.remove.result lt c.remove.ensures.value same c.args.entries.now.items c.loop-at.invariant.found

pub returns-then-same_ask-clause-rest : goal.returns-then-same_ask-clause-rest
returns-then-same_ask-clause-rest c =
    let xs = c.loop-at.entries.items in
    let lt : c.loop-at.at < length xs = search rules in
    let same : same_key (key_seen c.args.key.now) c.remove.result ≡ true = grind (arith, common_steps) in
    c.remove.ensures.by_index.2
    ∙ rest_here (key_seen c.args.key.now) xs c.loop-at.at c.remove.result lt c.remove.ensures.value same c.args.entries.now.items c.loop-at.invariant.rest

pub returns-clause-found : goal.returns-clause-found
returns-clause-found c =
    let past : length c.loop-at.entries.items ≤ c.loop-at.at = search rules in
    none_left (key_seen c.args.key.now) c.loop-at.entries.items c.loop-at.at past c.args.entries.now.items c.loop-at.invariant.found

pub returns-clause-rest : goal.returns-clause-rest
returns-clause-rest c =
    let past : length c.loop-at.entries.items ≤ c.loop-at.at = search rules in
    all_left (key_seen c.args.key.now) c.loop-at.entries.items c.loop-at.at past c.args.entries.now.items c.loop-at.invariant.rest
