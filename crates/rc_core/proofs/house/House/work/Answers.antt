use Rattle.std.proofs.Common.{◌≡◌, OnOk, rules, refl, sym, ap, subst}
use Rattle.rc_play_spec.specs.About.{About}
use Rattle.rc_rules.specs.Plan.{plan_seen}
use Rattle.rc_code.specs.Seen.{code_seen}
use Rattle.rc_code.specs.Stands.{StandsFor}
use Rattle.rc_match.specs.Sound.{IsSound as IsSoundMatch}
use Rattle.rc_core.specs.Events.{works, worked}
use Rattle.rc_core.specs.Stored.{lane_in, IsOwn}
use Rattle.rc_core.proofs.HouseSteps.{along, checked_of, known, own_there, own_put, work_kept, work_leaves, work_lacks, work_keeps, named_open}
use Rattle.rc_core.proofs.house.House.work.Goals as goal

pub work-requires-clause-code : goal.work-requires-clause-code
work-requires-clause-code c =
    subst (λ (a : About). StandsFor a.sheet (code_seen c.self.inside.code.value)) (sym c.in_ok-job.ensures.about) c.self.invariant.stands

pub work-requires-clause-own : goal.work-requires-clause-own
work-requires-clause-own c =
    let state = c.index_mut.result.now in
    along (λ a p n. IsOwn a p n state) (sym c.in_ok-job.ensures.about) (sym (ap plan_seen c.in_ok-job.ensures.plan)) (sym c.in_ok-job.ensures.number)
    (own_there c.self.inside c.self.invariant c.args.m state (search rules) c.index_mut.ensures.value)

pub work-requires-clause-sound : goal.work-requires-clause-sound
work-requires-clause-sound c =
    let state = c.index_mut.result.now in
    along (λ a p n. IsSoundMatch a p n (lane_in state))
    (sym c.in_ok-job.ensures.about) (sym (ap plan_seen c.in_ok-job.ensures.plan)) (sym c.in_ok-job.ensures.number)
    (known c.self.inside c.self.invariant c.args.m state (search rules) c.index_mut.ensures.value)

pub invariant_of-self : goal.invariant_of-self
invariant_of-self c =
    let i = c.self.inside in
    let kept = c.self.invariant in
    let state = c.index_mut.result.now in
    let state' = c.work.new.state in
    let plans = ap plan_seen c.in_ok-job.ensures.plan in
    let checked = checked_of c.deref.result.now i.about.value c.deref.ensures c.sheet-sheet.ensures.shape c.sheet-sheet.ensures.well c.sheet-sheet.ensures.sight in
    let is = along (λ a p n. OnOk c.work.result (lane_in state' ≡ worked a p n (lane_in state) (lane_in state).phase))
    c.in_ok-job.ensures.about plans c.in_ok-job.ensures.number c.work.ensures.after in
    record {
      sound = work_kept i kept c.args.m state (search rules) c.index_mut.ensures.value c.work.result checked state' is c.work.ensures.lacking;
      own = own_put i kept c.args.m state (search rules) c.index_mut.ensures.value state'
          (along (λ a p n. IsOwn a p n state') c.in_ok-job.ensures.about plans c.in_ok-job.ensures.number c.work.ensures.own);
      seats = kept.seats;
      some = kept.some;
      stands = kept.stands;
    }

pub returns-clause-after : goal.returns-clause-after
returns-clause-after c =
    let state = c.index_mut.result.now in
    let state' = c.work.new.state in
    let is = along (λ a p n. OnOk c.work.result (lane_in state' ≡ worked a p n (lane_in state) (lane_in state).phase))
    c.in_ok-job.ensures.about (ap plan_seen c.in_ok-job.ensures.plan) c.in_ok-job.ensures.number c.work.ensures.after in
    work_leaves c.self.inside c.self.invariant c.args.m state (search rules) c.index_mut.ensures.value c.work.result c.self.view_is state' is

pub returns-clause-open : goal.returns-clause-open
returns-clause-open c =
    named_open c.self.inside c.self.invariant c.args.m c.index_mut.result.now (search rules) c.index_mut.ensures.value c.work.result c.self.view_is
    (works c.args.m) refl c.work.ensures.open

pub returns-clause-lacking : goal.returns-clause-lacking
returns-clause-lacking c =
    work_lacks c.self.inside c.self.invariant c.args.m c.index_mut.result.now (search rules) c.index_mut.ensures.value c.work.result c.self.view_is
    c.work.new.state c.work.ensures.lacking

pub returns-clause-spent : goal.returns-clause-spent
returns-clause-spent c =
    let state = c.index_mut.result.now in
    let state' = c.work.new.state in
    let is = along (λ a p n. OnOk c.work.result (lane_in state' ≡ worked a p n (lane_in state) (lane_in state).phase))
    c.in_ok-job.ensures.about (ap plan_seen c.in_ok-job.ensures.plan) c.in_ok-job.ensures.number c.work.ensures.after in
    work_keeps c.self.inside c.self.invariant c.args.m state (search rules) c.index_mut.ensures.value c.work.result c.self.view_is state' is
    c.work.ensures.lacking
