use Rattle.std.proofs.Common.{◌++◌, ap₂, sym, ◌∙◌}
use Rattle.rc_deck.specs.Tree.{groups_of}
use Rattle.rc_deck.specs.Product.{faces_of_groups}
use Rattle.rc_deck.proofs.PathLaws.{AreFaces-faces_of_groups}
use Rattle.rc_sheet_spec.specs.Sheet.{DeckLine}
use Rattle.rc_ast.specs.Sheet.{deck_line_seen}
use Rattle.rc_rules.proofs.ShapeLemmas.{joined_more}
use Rattle.rc_rules.proofs.shape.face_list.Goals as goal

pub loop-line-preserved : goal.loop-line-preserved
loop-line-preserved c =
    let groups = groups_of c.line-item.result.tree in
    c.in_ok-append.ensures.items
    ∙ ap₂ ◌++◌ c.loop-line.invariant (sym (c.in_ok-faces.ensures.only (faces_of_groups groups) (AreFaces-faces_of_groups groups)))
    ∙ sym (joined_more (λ (line : DeckLine). faces_of_groups line.groups) deck_line_seen c.deref-line-items.result.now c.loop-line.line-index
    c.line-item.result c.loop-line-test.true c.line-item.is)
