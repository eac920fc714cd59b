use Rattle.std.proofs.Common.{◌≡◌, length, sym, subst, arith}
use Rattle.std.proofs.lemmas.Grind.{common_steps}
use Rattle.std.specs.List.{refill}
use Rattle.rc_rules.specs.Control.{frames_seen}
use Rattle.rc_value.specs.Current.{IsCurrent}
use Rattle.rc_value.proofs.frames.pass_frame.Goals as goal

pub returns-clause-current : goal.returns-clause-current
returns-clause-current c =
    let old = c.args.frames.now.items in
    let kept : refill (length old) old c.pass_innermost.new.frames ≡ c.pass_innermost.new.frames = grind (arith, common_steps) in
    subst (λ frames. IsCurrent c.args.about.now.sheet (frames_seen frames) c.pass_innermost.result) (sym kept) c.pass_innermost.ensures.current
