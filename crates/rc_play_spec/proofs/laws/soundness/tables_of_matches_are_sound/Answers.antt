use Rattle.std.proofs.Common.{refl}
use Rattle.rc_play_spec.proofs.SoundPlays.{reached_sound}
use Rattle.rc_base.specs.Numbers.{below}
use Rattle.rc_play_spec.specs.Draws.{key32}
use Rattle.rc_play_spec.proofs.DrawLemmas.{permuted-is}
use Rattle.rc_play_spec.proofs.laws.soundness.tables_of_matches_are_sound.Goals as goal

pub returns-clause-tables : goal.returns-clause-tables
returns-clause-tables c = λ about dealing fits formed orders items k at is. reached_sound about dealing fits formed orders items k at is

pub returns-clause-views : goal.returns-clause-views
returns-clause-views c = λ about dealing fits formed orders items k seat at is.
    (at.config.table, reached_sound about dealing fits formed orders items k at is, refl)

pub returns-clause-orders : goal.returns-clause-orders
returns-clause-orders c = λ deal k size. permuted-is (key32 deal 1 k 0) (below size)
