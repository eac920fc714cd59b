use Rattle.std.proofs.Common.{◌+◌, ◌<◌, ◌≤◌, ap, sym, ◌∙◌, subst, true≢false, arith}
use Rattle.rc_play_spec.specs.Step.{goes, with_frames, one_turn_more}
use Rattle.rc_play_spec.proofs.CountLemmas.{one_turn_counts}
use Rattle.rc_rules.specs.Control.{frames_seen}
use Rattle.rc_code.specs.Seen.{list_seen}
use Rattle.rc_flat.specs.Flat.{config_of}
use Rattle.rc_flat.specs.State.{flat_of}
use Rattle.rc_flat.proofs.StepCases.{moved, close_leads, round_leads, over_leads}
use Rattle.rc_flat.specs.Places.{IsPlace}
use Rattle.rc_flat.proofs.PlayLemmas.{still}
use Rattle.rc_flat.proofs.PlaceLemmas.{goes_on, closed_place, went_place}
use Rattle.rc_flat.proofs.state.State.round_next.Goals as goal

pub ends-requires-clause-well : goal.ends-requires-clause-well
ends-requires-clause-well c =
    let here = c.requires.here in
    c.requires.implements.ends c.args.place here.0 here.1 c.args.end.now c.args.inside here.2

pub returns-then-ends-clause-leads : goal.returns-then-ends-clause-leads
returns-then-ends-clause-leads c =
    let m = flat_of c.args.about.now (list_seen c.args.code.now) c.args.self.now in
    let here = c.requires.here in
    let frames = frames_seen c.close_frame.new.frames.items in
    λ dealing k.
    close_leads m dealing k c.requires.within.0 c.args.place here.0 here.1 c.args.end.now c.args.inside c.requires.within.1 here.2
    c.behind.result frames c.requires.round c.behind.ensures (sym c.ends.ensures ∙ c.if-ends.true) (sym c.close_frame.ensures)
    ∙ ap (λ path. goes k (config_of (moved m path m.table (with_frames m.control frames)))) (sym c.close.ensures)

pub returns-then-ends-clause-ready : goal.returns-then-ends-clause-ready
returns-then-ends-clause-ready c =
    let m = flat_of c.args.about.now (list_seen c.args.code.now) c.args.self.now in
    let play = c.requires.ready.play in
    record {
      laid = c.requires.ready.laid;
      play = goes_on m play c.close.new.self m.table (with_frames m.control (frames_seen c.close_frame.new.frames.items)) still 0 0
          (subst (IsPlace m.code) (sym c.close.ensures) (closed_place m play c.behind.result)) play.turn play.counts
          (returns-then-ends-clause-leads c still 0);
      current = c.current_now-self.ensures;
      kept = λ site is. absurd (true≢false (sym c.requires.round ∙ (c.requires.ready.kept site is).offered.here));
    }

pub returns-then-self-turns-clause-leads : goal.returns-then-self-turns-clause-leads
returns-then-self-turns-clause-leads c =
    let m = flat_of c.args.about.now (list_seen c.args.code.now) c.args.self.now in
    let here = c.requires.here in
    λ dealing k.
    over_leads m dealing k c.requires.within.0 c.args.place here.0 here.1 c.args.end.now c.args.inside c.requires.within.1 here.2
    c.requires.round (sym c.ends.ensures ∙ c.if-ends.false) (subst (λ n. n ≤ m.control.turn) c.turns.ensures c.if-self-turns.true)

pub returns-clause-leads : goal.returns-clause-leads
returns-clause-leads c =
    let m = flat_of c.args.about.now (list_seen c.args.code.now) c.args.self.now in
    let here = c.requires.here in
    λ dealing k.
    round_leads m dealing k c.requires.within.0 c.args.place here.0 here.1 c.args.end.now c.args.inside c.requires.within.1 here.2
    c.requires.round (sym c.ends.ensures ∙ c.if-ends.false) (subst (λ n. m.control.turn < n) c.turns.ensures c.if-self-turns.false)
    ∙ ap (λ path. goes k (config_of (moved m path m.table (one_turn_more m.control)))) (sym c.go_to.ensures)

pub returns-clause-ready : goal.returns-clause-ready
returns-clause-ready c =
    let m = flat_of c.args.about.now (list_seen c.args.code.now) c.args.self.now in
    let play = c.requires.ready.play in
    let below = subst (λ n. c.args.self.now.control.turn < n) c.turns.ensures c.if-self-turns.false in
    record {
      laid = c.requires.ready.laid;
      play = goes_on m play c.go_to.new.self m.table (one_turn_more m.control) still 0 0
          (subst (IsPlace m.code) (sym c.go_to.ensures) (went_place m play (c.args.place + 1))) (omega (arith, below))
          (one_turn_counts c.args.self.now.control.turn c.args.self.now.control.made.items play.counts) (returns-clause-leads c still 0);
      current = c.requires.ready.current;
      kept = λ site is. absurd (true≢false (sym c.requires.round ∙ (c.requires.ready.kept site is).offered.here));
    }
