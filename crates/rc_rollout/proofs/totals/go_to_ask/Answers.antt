use Rattle.std.proofs.Common.{refl, sym, ap, ◌∙◌}
use Rattle.rc_play_spec.specs.About.{About}
use Rattle.rc_table.specs.Laid.{Laid}
use Rattle.rc_redraw.specs.Asking.{ask_seen}
use Rattle.rc_rules.specs.Control.{control_seen}
use Rattle.rc_rollout.proofs.StandingLemmas.{can_decide, stands_so}
use Rattle.rc_rollout.proofs.totals.go_to_ask.Goals as goal

pub move_to-requires-clause-laid : goal.move_to-requires-clause-laid
move_to-requires-clause-laid c =
    ap (λ (l : Laid). l.shape) c.requires.table ∙ sym (ap (λ (a : About). a.shape) c.requires.about)

pub move_to-requires-clause-decides : goal.move_to-requires-clause-decides
move_to-requires-clause-decides c =
    can_decide c.args.about.now c.args.machine.now.about (ask_seen c.args.ask.now) 0 c.args.table.now
    (control_seen c.args.ask.now.view.control)
    c.menu_sizes_are_functions_of_views.ensures.redrawn c.sheet-sheet.ensures.shape c.sheet-sheet.ensures.sight
    c.requires.at c.requires.about
    c.requires.table refl

pub returns : goal.returns
returns c =
    let moved = c.move_to.ensures in
    stands_so c.args.about.now c.args.machine.now.about (ask_seen c.args.ask.now) 0 c.args.table.now
    (control_seen c.args.ask.now.view.control)
    c.menu_sizes_are_functions_of_views.ensures.redrawn c.sheet-sheet.ensures.shape c.sheet-sheet.ensures.sight
    c.requires.at c.requires.about
    c.requires.table refl c.move_to.new.self moved.about moved.home (moved.at ∙ moved.home) moved.fresh
