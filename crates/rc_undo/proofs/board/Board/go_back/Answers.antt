use Rattle.std.proofs.Common.{length, ◌∷◌, [], ◌++◌, ap, ◌∙◌, arith}
use Rattle.rc_undo.proofs.KeepsLemmas.{goes_then}
use Rattle.rc_undo.proofs.board.Board.go_back.Goals as goal

pub loop-self-preserved : goal.loop-self-preserved
loop-self-preserved c =
    let back = c.undo.ensures in
    let long = ap length back.behind in
    let lt = c.loop-self-test.true in
    let many = c.edits.ensures in
    let so_far = c.loop-self.invariant.back in
    record {
      notes = back.notes ∙ c.loop-self.invariant.notes;
      fits = omega (arith, long, lt, many);
      back = (so_far.0 ++ (c.loop-self.self.laid.table ∷ []), goes_then _ _ _ so_far.0 _ so_far.1 back);
    }
