use Rattle.std.proofs.Common.{◌≡◌, arith, ap, sym, ◌∙◌}
use Rattle.rc_play_spec.specs.About.{About, about_of}
use Rattle.rc_house.proofs.Measured.{measurable}
use Rattle.rc_house.proofs.transcript.measured_answer.Goals as goal

pub measured_text-requires : goal.measured_text-requires
measured_text-requires c =
    let same : c.deref.result.now ≡ about_of c.args.checked c.args.plan.now.turns = c.deref.ensures ∙ c.in_ok-about.ensures in
    let few = c.requires.few in
    measurable c.deref.result.now c.args.plan.now c.args.text.now c.requires.within
    (c.requires.seats ∙ ap (λ (about : About). about.sheet.players) (sym same)) c.requires.text (omega (arith, few))
    (c.in_ok-judge.ensures.legal.0 c.in-Legal.is)
