use Rattle.std.proofs.Common.{map, ap, ◌∙◌}
use Rattle.rc_base.specs.Numbers.{below}
use Rattle.rc_sheet_spec.specs.Sheet.{Sheet}
use Rattle.rc_ast.specs.Sheet.{sheet_seen}
use Rattle.rc_play_spec.specs.About.{About}
use Rattle.rc_play_spec.specs.Scores.{scores_of, rank_points}
use Rattle.rc_search.proofs.LookLemmas.{all_scored}
use Rattle.rc_search.proofs.plain.all_points.Goals as goal

pub rank_points-requires : goal.rank_points-requires
rank_points-requires c =
    let m = c.args.machine.now in
    record { each = all_scored c.args.about.now m.about (sheet_seen c.sheet.result.now) m.config c.scores.result.items c.requires.about c.sheet.ensures.same c.scores.ensures }

pub returns : goal.returns
returns c =
    let m = c.args.machine.now in
    let about = c.args.about.now in
    c.rank_points.ensures
    ∙ ap (λ (s : Sheet). map (rank_points s c.scores.result.items) (below s.players)) c.sheet.ensures.same
    ∙ ap (λ scores. map (rank_points about.sheet scores) (below about.sheet.players))
    (c.scores.ensures ∙ ap (λ (a : About). scores_of a m.config.table m.config.control) c.requires.about)
