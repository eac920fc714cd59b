use Rattle.rc_ast.specs.Effects.{effect_seen}
use Rattle.rc_sheet.proofs.Lists.{gives_same}
use Rattle.rc_sheet.proofs.EffectLemmas.{move_said, move_all_said, remember_said, forget_said, shuffle_said, peek_said}
use Rattle.rc_sheet.proofs.reader.Reader.plain_effect.Goals as goal

pub returns-in-Move : goal.returns-in-Move
returns-in-Move c =
    gives_same effect_seen c.move_read.result _ _
    (move_said c.args.self.now c.args.scope.now c.args.parts.now c.args.rule c.index-parts-1.result c.index-parts-2.result c.requires c.in-Move.is c.index-parts-1.is c.index-parts-2.is)
    (c.move_read.ensures _ c.card_and_spot.ensures)

pub returns-in-MoveAll : goal.returns-in-MoveAll
returns-in-MoveAll c =
    gives_same effect_seen c.move_all_read.result _ _
    (move_all_said c.args.self.now c.args.scope.now c.args.parts.now c.args.rule c.index-parts-2-in-MoveAll.result c.index-parts-3.result c.requires c.in-MoveAll.is c.index-parts-2-in-MoveAll.is c.index-parts-3.is)
    (c.move_all_read.ensures _ c.cards_and_spot.ensures)

pub returns-in-Remember : goal.returns-in-Remember
returns-in-Remember c =
    gives_same effect_seen c.remember_read.result _ _
    (remember_said c.args.self.now c.args.scope.now c.args.parts.now c.args.rule c.index-parts-1-in-Remember.result c.index-parts-2-in-Remember.result c.requires c.in-Remember.is c.index-parts-1-in-Remember.is c.index-parts-2-in-Remember.is)
    (c.remember_read.ensures _ c.card_and_spot-in-Remember.ensures)

pub returns-in-Forget : goal.returns-in-Forget
returns-in-Forget c =
    gives_same effect_seen c.forget_read.result _ _
    (forget_said c.args.self.now c.args.scope.now c.args.parts.now c.args.rule c.index-parts-1-in-Forget.result c.requires c.in-Forget.is c.index-parts-1-in-Forget.is)
    (c.forget_read.ensures _ c.card.ensures)

pub returns-in-Shuffle : goal.returns-in-Shuffle
returns-in-Shuffle c =
    gives_same effect_seen c.shuffle_read.result _ _
    (shuffle_said c.args.self.now c.args.scope.now c.args.parts.now c.args.rule c.index-parts-1-in-Shuffle.result c.requires c.in-Shuffle.is c.index-parts-1-in-Shuffle.is)
    (c.shuffle_read.ensures _ c.location.ensures)

pub returns-in-Peek : goal.returns-in-Peek
returns-in-Peek c =
    gives_same effect_seen c.peek_read.result _ _
    (peek_said c.args.self.now c.args.scope.now c.args.parts.now c.args.rule c.index-parts-1-in-Peek.result
    c.index-parts-2-in-Peek.result c.requires c.in-Peek.is c.index-parts-1-in-Peek.is c.index-parts-2-in-Peek.is)
    (c.peek_read.ensures _ c.cards_and_owner.ensures)
