use Rattle.std.proofs.Common.{refl, ap, sym, ◌∙◌}
use Rattle.std.specs.List.{list_all}
use Rattle.rc_play_spec.specs.Scene.{id_of}
use Rattle.rc_code.specs.Guards.{part_meant}
use Rattle.rc_menu.specs.Asks.{asks_value}
use Rattle.rc_value.specs.Scene.{scene_seen}
use Rattle.rc_value.proofs.RowLemmas.{met_in_row}
use Rattle.rc_menu.proofs.AskLemmas.{joined_asked, joined_known, met_here}
use Rattle.rc_menu.proofs.PartLemmas.{sought_more}
use Rattle.rc_menu.proofs.parts.part_settles.Goals as goal

pub returns-in-Some-clause-joined : goal.returns-in-Some-clause-joined
returns-in-Some-clause-joined c =
    joined_asked (scene_seen c.args.scene.now) c.args.scope.now (part_meant c.args.part.now) c.args.any c.args.asks.now.items c.push.new.self.items c.ask_in.result
    c.push.ensures.items
    (λ card. c.in-OfCard.ensures card ∙ sym (met_in_row c.args.scene.now c.in-OfCard.wanted card c.in-Some.row.now c.in-Some.ensures)
    ∙ sym (c.ask_in.ensures.value (id_of card)) ∙ met_here (scene_seen c.args.scene.now) c.args.scope.now card c.ask_in.result c.ask_in.ensures.by_row)

pub returns-in-Some-clause-sought : goal.returns-in-Some-clause-sought
returns-in-Some-clause-sought c =
    ap (list_all asks_value) c.push.ensures.items ∙ sought_more c.args.asks.now.items c.ask_in.result c.requires.sought c.ask_in.ensures.by_row

pub returns-in-Holds-clause-joined : goal.returns-in-Holds-clause-joined
returns-in-Holds-clause-joined c =
    joined_known (scene_seen c.args.scene.now) c.args.scope.now (part_meant c.args.part.now) c.args.any c.in-Holds.holds _ c.args.asks.now.items _
    refl c.in-Holds.ensures refl
