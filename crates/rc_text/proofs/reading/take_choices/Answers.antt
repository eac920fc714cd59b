use Rattle.std.proofs.Common.{ℕ, ◌+◌, List, ◌++◌, arith, sym, ap, ◌∙◌}
use Rattle.rc_rules.specs.Record.{pick_seen, record_seen}
use Rattle.rc_play_spec.specs.Reading.{inside, playing, noted, lines_in, read_from}
use Rattle.rc_text.specs.BoundSeen.{option_seen}
use Rattle.rc_text.specs.PlaceSeen.{open_marks, open_stand}
use Rattle.rc_text.proofs.Choices.{one_choice}
use Rattle.rc_text.proofs.reading.take_choices.Goals as goal

pub loop-pick-preserved : goal.loop-pick-preserved
loop-pick-preserved c =
    let named = c.args.named in
    let loop = c.loop-pick in
    let choice = c.in-Some in
    let found = choice.ensures.found in
    let lines = (lines_in choice.later.now).0 in
    let rest = (lines_in choice.later.now).1 in
    let told = noted (open_marks loop.played) (option_seen choice.bounds) in
    let fits = loop.invariant.fits in
    let within = loop.invariant.shorter in
    let shorter = choice.ensures.shorter in
    record {
      reads = λ before marks.
          loop.invariant.reads before marks
          ∙ ap (λ (ls : List (List ℕ) × List ℕ). read_from named loop.number (open_stand before marks loop.played) ls.0 ls.1)
          found.1
          ∙ one_choice named loop.number before marks (record_seen loop.played.record) (open_marks loop.played)
          found.0 lines rest
          (pick_seen choice.pick) (option_seen choice.bounds) found.2
          ∙ ap (λ r. read_from named (loop.number + 1) (inside (playing before r) (marks ++ told)) lines rest)
          (sym c.in_ok-choose.ensures.record)
          ∙ ap (λ told. read_from named (loop.number + 1)
          (inside (playing before (record_seen c.choose.new.self.record)) (marks ++ told)) lines rest)
          (sym c.in_ok-choose.ensures.marks);
      fits = omega (arith, fits, shorter);
      shorter = omega (arith, within, shorter);
      fit = λ named fit. c.in_ok-choose.ensures.fit (choice.ensures.told named) (loop.invariant.fit named fit);
    }
