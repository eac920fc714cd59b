use Rattle.std.proofs.Common.{◌≡◌, Some, None, rules, sym, ap, ◌∙◌, subst, arith}
use Rattle.std.proofs.lemmas.List.{length-map}
use Rattle.rc_rules.specs.Plan.{plan_seen}
use Rattle.rc_rules.specs.Record.{score_seen, record_seen}
use Rattle.rc_match.specs.Lane.{MatchLane, ready, lane_seen, phase_seen, stepped}
use Rattle.rc_match.specs.Sound.{IsSoundBy}
use Rattle.rc_match.proofs.PlayLemmas.{decided_in, decided_behind, each_scored}
use Rattle.rc_match.proofs.SoundBy.{begun_sound, sound_step}
use Rattle.rc_match.proofs.WayLemmas.{checked_by, lane_on}
use Rattle.rc_search.specs.Chosen.{Chosen, IsAsked}
use Rattle.rc_search.specs.Rival.{rival_seen}
use Rattle.rc_search.proofs.SoundLemmas.{choices, are_items, sound_chosen, chosen_end, asked_behind, fewer_left, fresh_chosen, fresh_ready}
use Rattle.rc_search.proofs.playing.play_rival.Goals as goal

pub next_item-requires-clause-some : goal.next_item-requires-clause-some
next_item-requires-clause-some g c =
    let is = checked_by c.deref.result.now c.args.job.now.about.value c.deref.ensures c.sheet-sheet.ensures.shape c.sheet-sheet.ensures.well c.sheet-sheet.ensures.sight in
    is.well.limits.some_players

pub next_item-requires-clause-served : goal.next_item-requires-clause-served
next_item-requires-clause-served g c = c.loop-lane.invariant.same c.args.job.now.about.value c.requires.served

pub next_item-requires-clause-asked : goal.next_item-requires-clause-asked
next_item-requires-clause-asked g c =
    let about = c.args.job.now.about.value in
    let plan = plan_seen c.args.job.now.plan.value in
    let m = c.args.job.now.number in
    let rival = rival_seen c.args.rival.now in
    let is = checked_by c.deref.result.now about c.deref.ensures c.sheet-sheet.ensures.shape c.sheet-sheet.ensures.well c.sheet-sheet.ensures.sight in
    let lane = lane_seen g.M.Machine.config c.loop-lane.lane in
    let pick = c.loop-lane.invariant.ready.0 in
    let same : lane ≡ lane_on lane.config lane.shuffles lane.notes (ready pick) = ap (lane_on lane.config lane.shuffles lane.notes) c.loop-lane.invariant.ready.1 in
    let made = c.in_ok-lane_step.ensures in
    let taken : c.lane_step.new.state.phase ≡ c.replace-phase.result = search rules in
    subst (λ ph. IsAsked about plan m (phase_seen ph)) taken
    (asked_behind about rival plan m pick lane.config lane.shuffles lane.notes
    (lane_seen g.M.Machine.config c.lane_step.new.state) (ap (stepped about plan m) (sym same) ∙ made.stepped) made.way)

pub loop-lane-preserved : goal.loop-lane-preserved
loop-lane-preserved g c =
    let about = c.args.job.now.about.value in
    let plan = plan_seen c.args.job.now.plan.value in
    let m = c.args.job.now.number in
    let rival = rival_seen c.args.rival.now in
    let is = checked_by c.deref.result.now about c.deref.ensures c.sheet-sheet.ensures.shape c.sheet-sheet.ensures.well c.sheet-sheet.ensures.sight in
    let lane = lane_seen g.M.Machine.config c.loop-lane.lane in
    let pick = c.loop-lane.invariant.ready.0 in
    let same : lane ≡ lane_on lane.config lane.shuffles lane.notes (ready pick) = ap (lane_on lane.config lane.shuffles lane.notes) c.loop-lane.invariant.ready.1 in
    let made = c.in_ok-lane_step.ensures in
    let after = lane_seen g.M.Machine.config c.lane_step.new.state in
    let sound = sound_step about (choices about rival plan m) (are_items about rival plan m) plan m is.shape is.well is.sight pick lane.config lane.shuffles lane.notes after
    (subst (IsSoundBy about (choices about rival plan m) plan m) same c.loop-lane.invariant.sound) (ap (stepped about plan m) (sym same) ∙ made.stepped) made.way in
    let item = c.in-Some.item in
    let taken : c.replace-phase.result ≡ c.lane_step.new.state.phase = search rules in
    let chosen = subst (λ ph. Chosen about rival plan m (phase_seen ph) (Some item)) taken
    (subst (Chosen about rival plan m (phase_seen c.replace-phase.result)) c.in-Some.is c.in_ok-item.ensures.chosen) in
    record {
      own =
          record {
            about = made.own.about;
            deal = made.own.deal;
            fresh = fresh_ready _ _ c.make_ready.ensures (fresh_chosen about rival plan m after.phase _ item chosen made.own.fresh);
          };
      sound = subst (λ ph. IsSoundBy about (choices about rival plan m) plan m (lane_on after.config after.shuffles after.notes ph)) (sym c.make_ready.ensures)
          (sound_chosen about rival plan m is.shape is.well is.sight after.phase after.config after.shuffles after.notes item sound chosen);
      ready = (Some item, c.make_ready.ensures);
      same = λ a served. c.in_ok-item.ensures.same a (c.loop-lane.invariant.same a served);
    }

pub loop-lane-smaller : goal.loop-lane-smaller
loop-lane-smaller g c =
    let about = c.args.job.now.about.value in
    let plan = plan_seen c.args.job.now.plan.value in
    let m = c.args.job.now.number in
    let rival = rival_seen c.args.rival.now in
    let is = checked_by c.deref.result.now about c.deref.ensures c.sheet-sheet.ensures.shape c.sheet-sheet.ensures.well c.sheet-sheet.ensures.sight in
    let lane = lane_seen g.M.Machine.config c.loop-lane.lane in
    let pick = c.loop-lane.invariant.ready.0 in
    let same : lane ≡ lane_on lane.config lane.shuffles lane.notes (ready pick) = ap (lane_on lane.config lane.shuffles lane.notes) c.loop-lane.invariant.ready.1 in
    let made = c.in_ok-lane_step.ensures in
    let after = lane_seen g.M.Machine.config c.lane_step.new.state in
    let step = ap (stepped about plan m) (sym same) ∙ made.stepped in
    let sound = sound_step about (choices about rival plan m) (are_items about rival plan m) plan m is.shape is.well is.sight pick lane.config lane.shuffles lane.notes after
    (subst (IsSoundBy about (choices about rival plan m) plan m) same c.loop-lane.invariant.sound) step made.way in
    let item = c.in-Some.item in
    let taken : c.replace-phase.result ≡ c.lane_step.new.state.phase = search rules in
    let chosen = subst (λ ph. Chosen about rival plan m (phase_seen ph) (Some item)) taken
    (subst (Chosen about rival plan m (phase_seen c.replace-phase.result)) c.in-Some.is c.in_ok-item.ensures.chosen) in
    let fewer = fewer_left about rival plan m is.shape is.well is.sight after.phase (phase_seen c.make_ready.new.phase) after.config after.shuffles after.notes item sound chosen c.make_ready.ensures in
    let still = decided_behind about plan m pick lane.config lane.shuffles lane.notes after step in
    let before = ap decided_in same in
    let more = fewer.0 in
    let less = fewer.1 in
    omega (arith, still, before, more, less)

pub returns-in-None-clause-record : goal.returns-in-None-clause-record
returns-in-None-clause-record g c =
    let about = c.args.job.now.about.value in
    let plan = plan_seen c.args.job.now.plan.value in
    let m = c.args.job.now.number in
    let rival = rival_seen c.args.rival.now in
    let is = checked_by c.deref.result.now about c.deref.ensures c.sheet-sheet.ensures.shape c.sheet-sheet.ensures.well c.sheet-sheet.ensures.sight in
    let lane = lane_seen g.M.Machine.config c.loop-lane.lane in
    let pick = c.loop-lane.invariant.ready.0 in
    let same : lane ≡ lane_on lane.config lane.shuffles lane.notes (ready pick) = ap (lane_on lane.config lane.shuffles lane.notes) c.loop-lane.invariant.ready.1 in
    let made = c.in_ok-lane_step.ensures in
    let after = lane_seen g.M.Machine.config c.lane_step.new.state in
    let sound = sound_step about (choices about rival plan m) (are_items about rival plan m) plan m is.shape is.well is.sight pick lane.config lane.shuffles lane.notes after
    (subst (IsSoundBy about (choices about rival plan m) plan m) same c.loop-lane.invariant.sound) (ap (stepped about plan m) (sym same) ∙ made.stepped) made.way in
    let taken : c.replace-phase.result ≡ c.lane_step.new.state.phase = search rules in
    chosen_end about rival plan m after.phase after.config after.shuffles after.notes sound
    (subst (λ ph. Chosen about rival plan m (phase_seen ph) None) taken
    (subst (Chosen about rival plan m (phase_seen c.replace-phase.result)) c.in-None.is c.in_ok-item.ensures.chosen))

pub returns-in-None-clause-each : goal.returns-in-None-clause-each
returns-in-None-clause-each g c =
    let about = c.args.job.now.about.value in
    let plan = plan_seen c.args.job.now.plan.value in
    let m = c.args.job.now.number in
    sym (length-map c.lane_step.new.state.notes.scores.items score_seen)
    ∙ each_scored about (choices about (rival_seen c.args.rival.now) plan m) plan m (record_seen c.lane_step.new.state.notes) (returns-in-None-clause-record g c)

pub loop-lane-init : goal.loop-lane-init
loop-lane-init g c =
    let about = c.args.job.now.about.value in
    let plan = plan_seen c.args.job.now.plan.value in
    let m = c.args.job.now.number in
    let rival = rival_seen c.args.rival.now in
    record {
      own = c.in_ok-lane.ensures.own;
      sound = subst (IsSoundBy about (choices about rival plan m) plan m) (sym c.in_ok-lane.ensures.begun) (begun_sound about (choices about rival plan m) plan m);
      ready = (None, ap (λ (lane : MatchLane). lane.phase) c.in_ok-lane.ensures.begun);
      same = λ a served. served;
    }

pub returns-in_err-item-clause-same : goal.returns-in_err-item-clause-same
returns-in_err-item-clause-same g c = λ a served. c.next_item.ensures.same a (c.loop-lane.invariant.same a served)

pub returns-in-None-clause-same : goal.returns-in-None-clause-same
returns-in-None-clause-same g c = λ a served. c.next_item.ensures.same a (c.loop-lane.invariant.same a served)
