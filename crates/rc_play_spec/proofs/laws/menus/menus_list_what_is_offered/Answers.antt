use Rattle.rc_play_spec.specs.Menu.{paths_of, alts_at}
use Rattle.rc_play_spec.proofs.MenuLaws.{are_offers, few_items}
use Rattle.rc_play_spec.proofs.laws.menus.menus_list_what_is_offered.Goals as goal

pub returns-clause-all : goal.returns-clause-all
returns-clause-all c = are_offers

pub returns-clause-few : goal.returns-clause-few
returns-clause-few c = λ scene site. few_items (paths_of scene (alts_at scene.known.sheet site))
