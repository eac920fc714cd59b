use Rattle.std.proofs.Common.{◌+◌, [], take, drop, ap, sym, ◌∙◌, subst}
use Rattle.rc_play_spec.specs.Effects.{does}
use Rattle.rc_play_spec.specs.Step.{goes, with_frames}
use Rattle.rc_code.specs.Meaning.{effects_in}
use Rattle.rc_code.specs.Seen.{list_seen}
use Rattle.rc_value.specs.Point.{point_of}
use Rattle.rc_flat.specs.Flat.{config_of}
use Rattle.rc_flat.specs.State.{flat_of}
use Rattle.rc_flat.specs.Places.{IsPlace}
use Rattle.rc_rules.specs.Control.{frames_seen}
use Rattle.rc_flat.proofs.StepCases.{moved, do_leads}
use Rattle.rc_flat.proofs.PlaceLemmas.{goes_on, went_place}
use Rattle.rc_flat.proofs.steps.do_next.Goals as goal

pub returns-clause-leads : goal.returns-clause-leads
returns-clause-leads g c =
    let about = c.args.about.now in
    let m = flat_of about (list_seen c.args.code.now) c.args.state.now in
    let dealing = g.D.Dealer.dealing c.args.dealer.now in
    let k = g.D.Dealer.state c.args.dealer.now in
    let before = point_of c.args.state.now.board.laid c.args.state.now.control.frames.items k in
    let after = point_of c.do_block.new.board.laid c.do_block.new.frames.items (g.D.Dealer.state c.do_block.new.dealer) in
    let inner = c.front-inner.ensures.code ∙ ap (λ code. take c.args.inside code) (c.past.ensures.code ∙ ap (λ n. drop (n + 1) m.code) c.next-next.ensures) in
    do_leads m dealing k c.args.inside c.behind.result after c.requires.round c.requires.here
    (c.behind.ensures ∙ ap (λ n. drop (n + 1 + c.args.inside) m.code) c.next-next.ensures)
    (ap (λ code. does about dealing [] (effects_in code) before) (sym inner)
    ∙ ap (λ vars. does about dealing vars (effects_in (list_seen c.front-inner.result.now)) before) (sym c.empty-scope.ensures)
    ∙ c.in-Ok.ensures.does)
    ∙ ap (λ path. goes after.dealer (config_of (moved m path after.table (with_frames m.control after.frames)))) (sym c.go_to.ensures)

pub returns-clause-ready : goal.returns-clause-ready
returns-clause-ready g c =
    let m = flat_of c.args.about.now (list_seen c.args.code.now) c.args.state.now in
    let play = c.requires.ready.play in
    record {
      laid = c.in-Ok.ensures.keeps.shape ∙ c.requires.ready.laid;
      play = goes_on m play c.go_to.new.self c.do_block.new.board.laid.table (with_frames m.control (frames_seen c.do_block.new.frames.items))
          (g.D.Dealer.dealing c.args.dealer.now) (g.D.Dealer.state c.args.dealer.now) (g.D.Dealer.state c.do_block.new.dealer)
          (subst (IsPlace m.code) (sym c.go_to.ensures) (went_place m play c.behind.result)) play.turn play.counts (returns-clause-leads g c);
      current = c.in-Ok.ensures.stands.1;
      kept = λ site is. absurd (let e = sym (c.requires.ready.kept site is).offered.there ∙ c.requires.here in cc);
    }
