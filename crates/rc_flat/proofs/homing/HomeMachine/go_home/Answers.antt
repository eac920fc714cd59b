use Rattle.std.proofs.Common.{ap, ◌∙◌}
use Rattle.rc_flat.specs.Home.{Homing}
use Rattle.rc_flat.proofs.HomeLemmas.{home_stays, code_stays, same_home}
use Rattle.rc_flat.proofs.homing.HomeMachine.go_home.Goals as goal

pub invariant_of-self : goal.invariant_of-self
invariant_of-self c =
    let old = c.self.inside.machine in
    let new = c.go_home.new.self in
    let back = c.go_home.ensures in (
      home_stays old new c.self.inside.stand back.about back.code back.home c.self.invariant.0,
      back.notes ∙ c.self.invariant.1,
      code_stays old new c.self.inside.code.value back.about back.code c.self.invariant.2,
    )

pub returns-clause-home : goal.returns-clause-home
returns-clause-home c =
    let back = c.go_home.ensures in
    same_home c.self.inside.machine c.go_home.new.self c.self.inside.stand back.about back.code back.home
    ∙ ap (λ (h : Homing). h.home) c.self.view_is
