use Rattle.std.proofs.lemmas.List.Elements.{recursion_from_All}
use Rattle.rc_play_spec.specs.Bound.{IsBindOf}
use Rattle.rc_play_spec.proofs.EffectLemmas.{all_sound}
use Rattle.rc_play_spec.proofs.laws.soundness.effects_keep_tables_sound.Goals as goal

pub returns : goal.returns
returns c = λ about dealing around vars effects now fits orders formed binds sound.
    all_sound about dealing fits orders around vars (recursion_from_All (IsBindOf about.shape) vars binds) effects formed now sound
