use Rattle.std.proofs.Common.{sym, ap, ◌∙◌}
use Rattle.rc_play_spec.specs.About.{About}
use Rattle.rc_table.specs.Laid.{Laid}
use Rattle.rc_redraw.specs.Asking.{ask_seen}
use Rattle.rc_rollout.proofs.StandingLemmas.{can_decide, stands_so}
use Rattle.rc_rollout.proofs.totals.go_to_round.Goals as goal

pub move_home-requires-clause-laid : goal.move_home-requires-clause-laid
move_home-requires-clause-laid c =
    ap (λ (l : Laid). l.shape) c.requires.table ∙ sym (ap (λ (a : About). a.shape) c.requires.home.same)

pub move_home-requires-clause-decides : goal.move_home-requires-clause-decides
move_home-requires-clause-decides c =
    let m = c.args.machine.now in
    can_decide c.args.about.now m.about (ask_seen c.args.ask.now) c.args.round c.args.table.now m.home.control
    c.menu_sizes_are_functions_of_views.ensures.redrawn c.sheet-sheet.ensures.shape c.sheet-sheet.ensures.sight c.requires.at c.requires.home.same
    c.requires.table c.requires.home.control

pub returns : goal.returns
returns c =
    let m = c.args.machine.now in
    let moved = c.move_home.ensures in
    stands_so c.args.about.now m.about (ask_seen c.args.ask.now) c.args.round c.args.table.now m.home.control
    c.menu_sizes_are_functions_of_views.ensures.redrawn c.sheet-sheet.ensures.shape c.sheet-sheet.ensures.sight c.requires.at c.requires.home.same
    c.requires.table c.requires.home.control c.move_home.new.self moved.about moved.home (moved.at ∙ moved.home) moved.fresh
