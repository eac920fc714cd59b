use Rattle.std.proofs.Common.{◌≡◌, Bool, true, ap, sym, refl, ◌∙◌, subst, rules, Some, IsSome}
use Rattle.rc_play_spec.specs.Stop.{stop_of}
use Rattle.rc_play_spec.proofs.StopLemmas.{steps_less, step_keeps, stop_here}
use Rattle.rc_rules.specs.Control.{stop_seen}
use Rattle.rc_rules.specs.Machine.{IsWhereItStops}
use Rattle.rc_code.specs.Seen.{list_seen}
use Rattle.rc_undo.specs.Undo.{Keeps}
use Rattle.rc_undo.proofs.KeepsLemmas.{keeps_then}
use Rattle.rc_flat.specs.State.{config_at, next_seen}
use Rattle.rc_flat.specs.declared.state.State.{State}
use Rattle.rc_flat.proofs.KeptLemmas.{stands_there}
use Rattle.rc_exec.proofs.ShuffleLemmas.{shuffled_then}
use Rattle.rc_flat.specs.Machine.{Machine, KeepsTables}
use Rattle.rc_flat.specs.MachineSeen.{machine_seen}
use Rattle.rc_flat.specs.declared.machine.FlatMachine.TheInside.{Inside}
use Rattle.rc_flat.proofs.calls.FlatMachineMachine.advance.Given.{Over}
use Rattle.rc_flat.proofs.calls.FlatMachineMachine.advance.Goals as goal

pub loop-next-smaller : goal.loop-next-smaller
loop-next-smaller g c =
    let about = c.self.inside.about in
    let code = list_seen c.deref-code.result.now in
    let after = config_at about code c.one_step.new.state in
    let k = g.D.Dealer.state c.one_step.new.dealer in
    steps_less about (g.D.Dealer.dealing c.loop-next.dealer) (g.D.Dealer.state c.loop-next.dealer) k (config_at about code c.loop-next.state) after
    (c.in-Ok.ensures.leads ∙ ap (λ r. next_seen r after k) c.in-None.is)

pub loop-next-preserved : goal.loop-next-preserved
loop-next-preserved g c =
    let about = c.self.inside.about in
    let code = list_seen c.deref-code.result.now in
    let after = config_at about code c.one_step.new.state in
    let k = g.D.Dealer.state c.one_step.new.dealer in
    record {
      ready = c.in-Ok.ensures.ready;
      keeps = keeps_then _ _ _ c.loop-next.invariant.keeps c.one_step.ensures.keeps;
      dealing = c.one_step.ensures.dealing ∙ c.loop-next.invariant.dealing;
      shuffled = shuffled_then _ _ _ _ _ c.loop-next.invariant.dealing c.loop-next.invariant.shuffled c.one_step.ensures.shuffled;
      stop = c.loop-next.invariant.stop
          ∙ step_keeps about (g.D.Dealer.dealing c.loop-next.dealer) (g.D.Dealer.state c.loop-next.dealer) k (config_at about code c.loop-next.state) after
          (c.in-Ok.ensures.leads ∙ ap (λ r. next_seen r after k) c.in-None.is)
          ∙ ap (λ dealing. stop_of about dealing k after) (sym c.one_step.ensures.dealing);
    }

-- the stop to which its steps lead
leads_there : (g : Over) (c : goal.In-Some g) →
    stop_of c.self.inside.about (g.D.Dealer.dealing c.args.dealer.now) (g.D.Dealer.state c.args.dealer.now)
    (config_at c.self.inside.about (list_seen c.deref-code.result.now) c.self.inside.state)
    ≡ Some (record {
      stop = stop_seen c.in-Some.stop;
      config = config_at c.self.inside.about (list_seen c.deref-code.result.now) c.one_step.new.state;
      dealer = g.D.Dealer.state c.one_step.new.dealer;
    })
leads_there g c =
    let about = c.self.inside.about in
    let code = list_seen c.deref-code.result.now in
    let after = config_at about code c.one_step.new.state in
    let k = g.D.Dealer.state c.one_step.new.dealer in
    let some : IsSome (Some c.in-Some.stop) = refl in
    c.loop-next.invariant.stop
    ∙ stop_here about (g.D.Dealer.dealing c.loop-next.dealer) (g.D.Dealer.state c.loop-next.dealer) (config_at about code c.loop-next.state) (stop_seen c.in-Some.stop) after
    (c.in-Ok.ensures.leads ∙ ap (λ r. next_seen r after k) c.in-Some.is)
    ∙ ap (λ dealer. Some (record { stop = stop_seen c.in-Some.stop; config = after; dealer = dealer })) (sym (c.in-Ok.ensures.kept (subst IsSome (sym c.in-Some.is) some)))

pub returns-in-Some-clause-stands : goal.returns-in-Some-clause-stands
returns-in-Some-clause-stands g c =
    let about = c.self.inside.about in
    let same : c.deref-code.result.now ≡ c.self.inside.code.value.list.items = search rules in
    let state = c.one_step.new.state in
    let stop = stop_seen c.in-Some.stop in
    let code = list_seen c.deref-code.result.now in
    subst (λ a. IsWhereItStops a stop (config_at about (list_seen c.self.inside.code.value.list.items) state)) (ap (λ (m : Machine). m.about) c.self.view_is)
    (subst (λ list. IsWhereItStops about stop (config_at about (list_seen list) state)) same
    (stands_there about code state c.in-Ok.ensures.ready stop
    (c.stops_stay.ensures.there about (g.D.Dealer.dealing c.args.dealer.now) (g.D.Dealer.state c.args.dealer.now) (config_at about code c.self.inside.state)
    (record { stop = stop; config = config_at about code state; dealer = g.D.Dealer.state c.one_step.new.dealer }) (leads_there g c))))

-- a state whose board keeps what the machine's board kept
keeps_tables : (old : Inside) (value : Machine) (state : State) (spent : Bool) → machine_seen old ≡ value → Keeps old.state.board state.board →
    KeepsTables value (machine_seen (record { about = old.about; code = old.code; state = state; spent = spent }))
keeps_tables old value state spent is kept =
    subst (λ m. KeepsTables m (machine_seen (record { about = old.about; code = old.code; state = state; spent = spent }))) is
    (record { about = refl; code = refl; notes = kept.notes; behind = kept.behind; home = kept.home })

pub returns-in-Some-clause-keeps : goal.returns-in-Some-clause-keeps
returns-in-Some-clause-keeps g c =
    keeps_tables c.self.inside c.args.self.now c.one_step.new.state c.self.inside.spent c.self.view_is
    (keeps_then _ _ _ c.loop-next.invariant.keeps c.one_step.ensures.keeps)

pub returns-in-Err-clause-keeps : goal.returns-in-Err-clause-keeps
returns-in-Err-clause-keeps g c =
    keeps_tables c.self.inside c.args.self.now c.one_step.new.state true c.self.view_is
    (keeps_then _ _ _ c.loop-next.invariant.keeps c.one_step.ensures.keeps)

pub returns-in-Err-clause-shuffled : goal.returns-in-Err-clause-shuffled
returns-in-Err-clause-shuffled g c = shuffled_then _ _ _ _ _ c.loop-next.invariant.dealing c.loop-next.invariant.shuffled c.one_step.ensures.shuffled
