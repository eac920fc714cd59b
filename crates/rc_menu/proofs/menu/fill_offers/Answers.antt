use Rattle.std.proofs.Common.{ap, sym, subst, ◌∙◌}
use Rattle.std.specs.Prelude.{All}
use Rattle.rc_play_spec.specs.Menu.{menu_from as pure_menu_from}
use Rattle.rc_value.specs.Binding.{BindsFew}
use Rattle.rc_value.specs.Scene.{scene_seen}
use Rattle.rc_menu.proofs.menu.fill_offers.Goals as goal

pub make_offers-requires-clause-few : goal.make_offers-requires-clause-few
unfolding scene_seen
make_offers-requires-clause-few c = subst (All (BindsFew 0)) (sym c.requires.site) (c.args.scene.now.readable.choices c.args.site)

pub returns : goal.returns
returns c = c.make_offers.ensures ∙ ap (pure_menu_from (scene_seen c.args.scene.now)) c.requires.site
