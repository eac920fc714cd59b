use Rattle.std.proofs.Common.{◌≡◌, IfOk, subst}
use Rattle.rc_rules.specs.Plan.{plan_seen}
use Rattle.rc_play_spec.specs.Rivals.{rival_house_text}
use Rattle.rc_search.specs.Rival.{rival_seen}
use Rattle.rc_house.proofs.rival_matches.rivals_of.Goals as goal

pub returns : goal.returns
returns c =
    let rival = rival_seen c.args.rival.now in
    subst (λ about. IfOk c.write_rivals.result (λ bytes. bytes.items ≡ rival_house_text about rival (plan_seen c.args.plan))) c.in_ok-about.ensures
    (subst (λ plan. IfOk c.write_rivals.result (λ bytes. bytes.items ≡ rival_house_text c.in_ok-about.about.value rival (plan_seen plan))) c.in_ok-plan.ensures.ok
    c.write_rivals.ensures)
