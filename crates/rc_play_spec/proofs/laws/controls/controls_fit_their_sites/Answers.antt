use Rattle.rc_play_spec.proofs.ControlLemmas.{control_fits}
use Rattle.rc_play_spec.proofs.laws.controls.controls_fit_their_sites.Goals as goal

pub returns : goal.returns
returns c = λ about dealing fits formed items k at seat site is stands. control_fits about dealing fits formed items k at seat site is stands
