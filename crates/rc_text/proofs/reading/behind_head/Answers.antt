use Rattle.std.proofs.Common.{◌≡◌, ℕ, List, ◌++◌, arith, sym, ap, ◌∙◌}
use lib.Pointwise.{bytes_decides}
use Rattle.rc_play_spec.specs.Reading.{before, lines_in, read_from}
use Rattle.rc_text.proofs.Heads.{head_step, head_fails, head_missing}
use Rattle.rc_text.proofs.reading.behind_head.Goals as goal
use Rattle.rc_text.proofs.reading.behind_head.Goals.{in_default-first_line-via-in-Some-first_line+else-eq, in_default-first_line-via-in_default-first_line}

pub loop-want-preserved : goal.loop-want-preserved
loop-want-preserved c =
    let n = c.loop-want.number in
    let want = c.in-Some.want.now in
    let later = c.in-Some.later.now in
    let line = c.in-Some-first_line.line.now in
    let behind' = c.in-Some-first_line.behind.now in
    let wanted = c.in-Some.ensures.found in
    let read = c.in-Some-first_line.ensures.found in
    let same : line ≡ want = (bytes_decides line want).0 (sym c.if-eq.ensures) in
    let shorter = c.in-Some-first_line.ensures.shorter in
    record {
      reads = λ named more.
          c.loop-want.invariant.reads named more
          ∙ (λ i. read_from named n (before ((wanted i).0 ++ more)) (read i).0 (read i).1)
          ∙ head_step named n want (lines_in later).0 more line (lines_in behind').0 (lines_in behind').1 same;
      fits = omega (arith, c.loop-want.invariant.fits, shorter);
      whole = sym (ap (λ cut. cut.1) wanted) ∙ c.loop-want.invariant.whole;
    }

pub returns-in_default-first_line-clause-fault : goal.returns-in_default-first_line-clause-fault
returns-in_default-first_line-clause-fault c = λ named more.
    let n = c.loop-want.number in
    let want = c.in-Some.want.now in
    let later = c.in-Some.later.now in
    let wanted = c.in-Some.ensures.found in
    elim c.in_default-first_line.branch [
      | in_default-first_line-via-in-Some-first_line+else-eq w ↦
          let line = w.in-Some-first_line.line.now in
          let behind' = w.in-Some-first_line.behind.now in
          let read = w.in-Some-first_line.ensures.found in
          c.loop-want.invariant.reads named more
          ∙ (λ i. read_from named n (before ((wanted i).0 ++ more)) (read i).0 (read i).1)
          ∙ head_fails named n want (lines_in later).0 more line (lines_in behind').0 (lines_in behind').1
          (λ same. let eq = (bytes_decides line want).1 same in absurd cc)
      | in_default-first_line-via-in_default-first_line w ↦
          let read = w.in_default-first_line.ensures.none in
          c.loop-want.invariant.reads named more
          ∙ (λ i. read_from named n (before ((wanted i).0 ++ more)) (read i).0 (read i).1)
          ∙ head_missing named n want (lines_in later).0 more c.loop-want.rest.now
    ]

pub returns-clause-behind : goal.returns-clause-behind
returns-clause-behind c = λ named more.
    c.loop-want.invariant.reads named more
    ∙ ap (λ (cut : List (List ℕ) × List ℕ). read_from named c.loop-want.number (before (cut.0 ++ more)) (lines_in c.loop-want.rest.now).0 (lines_in c.loop-want.rest.now).1)
    c.in_default.ensures.none
