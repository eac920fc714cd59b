use Rattle.rc_flat.proofs.MarkLemmas.{keeps_then}
use Rattle.rc_games.proofs.returns.play_item.Goals as goal

pub returns-in_err-is_over : goal.returns-in_err-is_over
returns-in_err-is_over c = keeps_then _ _ _ c.loop.invariant c.is_over.ensures

pub returns-then-branch : goal.returns-then-branch
returns-then-branch c = keeps_then _ _ _ c.loop.invariant c.is_over.ensures

pub loop-preserved : goal.loop-preserved
loop-preserved c = keeps_then _ _ _ c.loop.invariant c.is_over.ensures

pub returns-else-branch : goal.returns-else-branch
returns-else-branch c = keeps_then _ _ _ c.loop.invariant c.is_over.ensures
