use Rattle.std.proofs.Common.{◌++◌, arith, ap, sym, ◌∙◌}
use Rattle.std.specs.Prelude.{sum_by, map}
use Rattle.rc_base.specs.Deck.{face_count}
use Rattle.rc_sheet_spec.specs.Sheet.{DeckLine}
use Rattle.rc_ast.specs.Sheet.{sheet_seen, deck_line_seen}
use Rattle.rc_play_spec.specs.Shape as shapes
use Rattle.rc_rules.proofs.ShapeLemmas.{joined_more, part_within}
use Rattle.rc_rules.proofs.shape.home_list.Goals as goal

pub push_homes-requires-clause-few : goal.push_homes-requires-clause-few
push_homes-requires-clause-few c =
    let count = λ (line : DeckLine). face_count line.groups in
    let part = part_within count deck_line_seen c.deref-line-items.result.now c.loop-line.line-index c.line-item.result c.loop-line-test.true c.line-item.is in
    let same = ap (λ lines. sum_by count (map deck_line_seen lines)) c.deref-line-items.ensures.value in
    let most = c.requires.limits.cards in
    omega (arith, part, same, most)

pub loop-line-preserved : goal.loop-line-preserved
loop-line-preserved c =
    let homes = shapes.homes_of (sheet_seen c.args.sheet.now) in
    c.in_ok-push_homes.ensures ∙ ap (λ ids. ids ++ homes (deck_line_seen c.line-item.result)) c.loop-line.invariant
    ∙ sym (joined_more homes deck_line_seen c.deref-line-items.result.now c.loop-line.line-index c.line-item.result c.loop-line-test.true c.line-item.is)
