use Rattle.std.proofs.Common.{ap, sym, subst, ◌∙◌}
use Rattle.std.specs.Prelude.{All}
use Rattle.rc_play_spec.specs.Menu.{menu_from as pure_menu_from, menu_of as pure_menu_of}
use Rattle.rc_play_spec.specs.Scene.{scene_of}
use Rattle.rc_ast.specs.Sheet.{sheet_seen}
use Rattle.rc_value.specs.Binding.{BindsFew}
use Rattle.rc_value.specs.Scene.{scene_seen}
use Rattle.rc_menu.proofs.menu.fill_menu.Goals as goal

pub offer_all-requires-clause-few : goal.offer_all-requires-clause-few
unfolding scene_seen
offer_all-requires-clause-few c = subst (All (BindsFew 0)) (sym c.requires.site) (c.args.scene.now.readable.choices c.args.site)

pub returns-clause-menu : goal.returns-clause-menu
returns-clause-menu c = c.offer_all.ensures ∙ ap (pure_menu_from (scene_seen c.args.scene.now)) c.requires.site

pub returns-clause-alike : goal.returns-clause-alike
unfolding scene_seen
returns-clause-alike c same sight control table' control' frames alike =
    let s = c.args.scene.now in
    c.offer_all.ensures ∙ ap (pure_menu_from (scene_seen s)) c.requires.site
    ∙ ap (λ f. pure_menu_of (scene_of (sheet_seen s.sheet.now) s.table.now.shape s.table.now.table f) c.args.site) (sym frames)
    ∙ c.alike_states_have_equal_menus.ensures (sheet_seen s.sheet.now) s.table.now.shape s.table.now.table table' control control' c.args.site same sight alike
