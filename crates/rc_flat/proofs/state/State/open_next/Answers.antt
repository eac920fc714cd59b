use Rattle.std.proofs.Common.{◌+◌, drop, ap, sym, ◌∙◌, subst, arith}
use Rattle.std.proofs.lemmas.List.{length-map}
use Rattle.rc_play_spec.specs.Step.{Stage, goes, with_frames}
use Rattle.rc_rules.specs.Control.{frame_seen, frames_seen}
use Rattle.rc_code.specs.Meaning.{items_in}
use Rattle.rc_code.specs.Seen.{list_seen}
use Rattle.rc_flat.specs.Places.{IsPlace}
use Rattle.rc_flat.specs.Flat.{config_of}
use Rattle.rc_flat.specs.State.{flat_of}
use Rattle.rc_flat.proofs.StepCases.{moved, open_leads}
use Rattle.rc_flat.proofs.PlayLemmas.{still}
use Rattle.rc_flat.proofs.PlaceLemmas.{goes_on, opened_place, few_open}
use Rattle.rc_flat.proofs.state.State.open_next.Goals as goal

pub open_frame-self-requires-clause-room : goal.open_frame-self-requires-clause-room
open_frame-self-requires-clause-room c =
    let m = flat_of c.args.about.now (list_seen c.args.code.now) c.args.self.now in
    let few = (few_open m c.requires.ready.play c.args.number c.args.class c.requires.here.0 c.requires.here.1 c.requires.round c.requires.here.2).0 in
    let same = length-map c.args.self.now.control.frames.items frame_seen in
    omega (arith, few, same)

pub open-requires : goal.open-requires
open-requires c =
    let m = flat_of c.args.about.now (list_seen c.args.code.now) c.args.self.now in
    (few_open m c.requires.ready.play c.args.number c.args.class c.requires.here.0 c.requires.here.1 c.requires.round c.requires.here.2).1

pub returns-clause-leads : goal.returns-clause-leads
returns-clause-leads c =
    let about = c.args.about.now in
    let m = flat_of about (list_seen c.args.code.now) c.args.self.now in
    let here = c.requires.here in
    let frames = frames_seen c.open_frame-self.new.frames.items in
    let s : Stage = record { number = c.args.number; class = c.args.class; end = here.0; body = items_in (drop (m.place.next + 1) m.code) } in
    λ dealing k.
    open_leads m dealing k c.args.number c.args.class here.0 here.1 frames c.requires.round here.2
    (sym c.open_frame-self.ensures.opened)
    ∙ ap (λ path. goes k (config_of (moved m path m.table (with_frames m.control frames)))) (sym c.open.ensures)

pub returns-clause-ready : goal.returns-clause-ready
returns-clause-ready c =
    let m = flat_of c.args.about.now (list_seen c.args.code.now) c.args.self.now in
    let play = c.requires.ready.play in
    let here = c.requires.here in
    record {
      laid = c.requires.ready.laid;
      play = goes_on m play c.open.new.self m.table (with_frames m.control (frames_seen c.open_frame-self.new.frames.items)) still 0 0
          (subst (IsPlace m.code) (sym c.open.ensures) (opened_place m play (c.args.number, c.args.class, here.0, here.1, here.2))) play.turn play.counts
          (returns-clause-leads c still 0);
      current = c.open_frame-self.ensures.current;
      kept = λ site is. absurd (let e = sym (c.requires.ready.kept site is).offered.there ∙ c.requires.here.2 in cc);
    }
