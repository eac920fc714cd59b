use Rattle.std.proofs.Common.{◌≡◌, flat_map, ap, ap₂, ◌∙◌}
use Rattle.std.proofs.lemmas.Result.{IfOk-weaker}
use Rattle.rc_base.specs.Transcript.{line}
use Rattle.rc_play_spec.specs.Shape.{shape_of}
use Rattle.rc_ast.specs.Sheet.{sheet_seen}
use Rattle.rc_play_spec.specs.Naming.{legend_of}
use Rattle.rc_play_spec.specs.Reading.{lines_in}
use Rattle.rc_house.specs.Legend.{IsLegend}
use Rattle.rc_house.proofs.Cards.{cards_few}
use Rattle.rc_house.proofs.naming.legend_of.Goals as goal

pub returns : goal.returns
returns c =
    let sheet = c.args.checked.now in
    let seen = sheet_seen c.sheet-sheet.result.now in
    let well = c.sheet-sheet.ensures.well in
    let same : seen ≡ sheet = c.sheet-sheet.ensures.same in
    let told : flat_map line (legend_of seen c.in_ok-shape.shape) ≡ flat_map line (legend_of sheet (shape_of sheet)) =
    ap₂ (λ s shape. flat_map line (legend_of s shape)) same (c.in_ok-shape.ensures ∙ ap shape_of same) in
    IfOk-weaker c.legend.result _ (λ bytes. IsLegend sheet bytes.items)
    (λ bytes is. ap lines_in (is ∙ told) ∙ c.legends_are_cut.ensures sheet (shape_of sheet) well.words (cards_few sheet well)) c.legend.ensures
