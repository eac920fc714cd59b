use Rattle.std.proofs.Common.{All, sym, subst}
use Rattle.rc_play_spec.proofs.Redrawn.{all_of_map}
use Rattle.rc_view.specs.Seen.{sight_seen}
use Rattle.rc_view.specs.Key.{IsShort}
use Rattle.rc_view.proofs.key.key_bytes.Goals as goal

pub push_sights-requires : goal.push_sights-requires
push_sights-requires c =
    subst (All (λ sight. IsShort (sight_seen sight))) (sym c.deref-2.ensures.value) (all_of_map IsShort sight_seen c.args.view.now.sights.items c.requires.sights)
