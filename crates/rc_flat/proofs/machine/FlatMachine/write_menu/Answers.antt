use Rattle.std.proofs.Common.{ap, ◌∙◌}
use Rattle.rc_play_spec.specs.About.{menu_at}
use Rattle.rc_flat.specs.Machine.{Machine}
use Rattle.rc_flat.proofs.machine.FlatMachine.write_menu.Goals as goal

pub returns : goal.returns
returns c =
    let ready = c.self.invariant.ready (ap (λ (m : Machine). m.spent) c.self.view_is ∙ c.requires) in
    λ site is.
    c.write_menu.ensures
    ∙ (ready.kept site (ap (λ (m : Machine). m.config.control.site) c.self.view_is ∙ is)).menu
    ∙ ap (λ (m : Machine). menu_at m.about site m.config.table m.config.control) c.self.view_is
