use Rattle.rc_play_spec.proofs.Legends.{legend_cut}
use Rattle.rc_play_spec.proofs.texts.legends_are_cut.Goals as goal

pub returns : goal.returns
returns c = λ sheet shape words few. legend_cut sheet shape words few
