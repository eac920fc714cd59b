use Rattle.std.proofs.Common.{subst}
use Rattle.std.proofs.lemmas.List.{take_all}
use Rattle.rc_ast.specs.Sheet.{sheet_seen}
use Rattle.rc_rules.specs.Control.{frames_seen}
use Rattle.rc_value.specs.Current.{IsCurrent}
use Rattle.rc_value.proofs.CurrentLemmas.{current_on}
use Rattle.rc_value.proofs.current.current_of.Goals as goal

pub loop-place-preserved : goal.loop-place-preserved
loop-place-preserved c =
    current_on (sheet_seen c.args.sheet.now) c.args.frames.now c.loop-place.place c.frame_at-frame.result c.loop-place.current c.current_inside-current.result
    c.loop-place-test.true c.frame_at-frame.ensures c.loop-place.invariant c.current_inside-current.ensures.player c.current_inside-current.ensures.team

pub returns : goal.returns
returns c =
    subst (λ xs. IsCurrent (sheet_seen c.args.sheet.now) (frames_seen xs) c.loop-place.current)
    (take_all c.loop-place.place c.args.frames.now c.loop-place-test.false) c.loop-place.invariant
