use Rattle.std.proofs.Common.{◌<◌, [], length, rules, arith, sym, ap, ◌∙◌}
use Rattle.std.proofs.lemmas.List.{length-map}
use Rattle.rc_play_spec.specs.About.{about_of}
use Rattle.rc_rules.specs.Plan.{deal_seen, plan_seen}
use Rattle.rc_house.specs.Answer.{text}
use Rattle.rc_house.proofs.WatchedLaws.{seen_there}
use Rattle.rc_house.proofs.watching.watched_answer.Goals as goal

pub returns-in_ok-log : goal.returns-in_ok-log
returns-in_ok-log c =
    let sheet = c.args.game.checked in
    let plan = plan_seen c.args.game.plan in
    let seated : c.args.seat < sheet.players = search rules in
    let listed : c.args.number < length c.args.game.plan.matches.items = search rules in
    let count = length-map c.args.game.plan.matches.items deal_seen in
    let numbered : c.args.number < length plan.matches = omega (arith, listed, count) in
    ap (λ bytes. text bytes [] 0) c.in_ok-log.ensures
    ∙ sym (seen_there (about_of sheet c.args.game.plan.turns) plan c.args.seat c.args.number seated numbered)
