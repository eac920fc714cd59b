use Rattle.rc_ast.specs.Effects.{effect_seen}
use Rattle.rc_sheet.proofs.Lists.{gives_same}
use Rattle.rc_sheet.proofs.EffectLemmas.{set_said, increase_said, decrease_said}
use Rattle.rc_sheet.proofs.reader.Reader.number_effect.Goals as goal

pub returns-in-Set : goal.returns-in-Set
returns-in-Set c =
    gives_same effect_seen c.set_read.result _ _
    (set_said c.args.self.now c.args.scope.now c.args.parts.now c.args.rule c.index-parts-1.result c.index-parts-2.result c.requires c.in-Set.is c.index-parts-1.is c.index-parts-2.is)
    (c.set_read.ensures _ c.counter_and_value.ensures)

pub returns-in-Increase : goal.returns-in-Increase
returns-in-Increase c =
    gives_same effect_seen c.increase_read.result _ _
    (increase_said c.args.self.now c.args.scope.now c.args.parts.now c.args.rule c.index-parts-1-in-Increase.result c.index-parts-2-in-Increase.result c.requires c.in-Increase.is c.index-parts-1-in-Increase.is c.index-parts-2-in-Increase.is)
    (c.increase_read.ensures _ c.counter_and_value-in-Increase.ensures)

pub returns-in-Decrease : goal.returns-in-Decrease
returns-in-Decrease c =
    gives_same effect_seen c.decrease_read.result _ _
    (decrease_said c.args.self.now c.args.scope.now c.args.parts.now c.args.rule c.index-parts-1-in-Decrease.result c.index-parts-2-in-Decrease.result c.requires c.in-Decrease.is c.index-parts-1-in-Decrease.is c.index-parts-2-in-Decrease.is)
    (c.decrease_read.ensures _ c.counter_and_value-in-Decrease.ensures)
