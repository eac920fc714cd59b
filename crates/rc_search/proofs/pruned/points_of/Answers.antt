use Rattle.std.proofs.Common.{sym, ap, ◌∙◌, subst}
use Rattle.rc_ast.specs.Sheet.{sheet_seen}
use Rattle.rc_play_spec.specs.About.{About}
use Rattle.rc_play_spec.specs.Scores.{scores_of, rank_points}
use Rattle.rc_sheet_spec.specs.Sheet.{Sheet}
use Rattle.rc_search.specs.Sides.{AreSides}
use Rattle.rc_search.proofs.LookLemmas.{all_scored}
use Rattle.rc_search.proofs.pruned.points_of.Goals as goal

pub points_by-requires : goal.points_by-requires
points_by-requires c =
    let m = c.args.machine.now in
    record { sides = subst (λ (s : Sheet). AreSides s c.args.sides.now.items) (sym c.sheet.ensures.same) c.requires.sides; each = all_scored c.args.about.now m.about (sheet_seen c.sheet.result.now) m.config c.scores.result.items c.requires.about c.sheet.ensures.same c.scores.ensures }

pub returns : goal.returns
returns c =
    let m = c.args.machine.now in
    let here = m.config in
    c.points_by.ensures ∙ ap (λ s. rank_points s c.scores.result.items c.args.seat) c.sheet.ensures.same
    ∙ ap (λ scores. rank_points c.args.about.now.sheet scores c.args.seat)
    (c.scores.ensures ∙ ap (λ (a : About). scores_of a here.table here.control) c.requires.about)
