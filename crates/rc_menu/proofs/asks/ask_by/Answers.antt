use Rattle.std.proofs.Common.{arith, sym, ◌∙◌}
use Rattle.rc_play_spec.specs.Scene.{id_of}
use Rattle.rc_value.specs.Scene.{scene_seen}
use Rattle.rc_menu.proofs.AskLemmas.{met_here, met_depth}
use Rattle.rc_value.proofs.RowLemmas.{met_in_row}
use Rattle.rc_menu.proofs.asks.ask_by.Goals as goal

pub returns-in-Some-clause-value : goal.returns-in-Some-clause-value
returns-in-Some-clause-value c = λ card.
    c.requires.wanted card ∙ sym (met_in_row c.args.scene.now c.args.wanted card c.in-Some.row.now c.in-Some.ensures)
    ∙ sym (c.ask_in.ensures.value (id_of card)) ∙ met_here (scene_seen c.args.scene.now) c.args.scope.now card c.ask_in.result c.ask_in.ensures.by_row

pub returns-in-Some-clause-fits : goal.returns-in-Some-clause-fits
returns-in-Some-clause-fits c =
    let e = met_depth (scene_seen c.args.scene.now) c.args.scope.now c.ask_in.result c.ask_in.ensures.by_row in omega (arith, c.requires.deep)
