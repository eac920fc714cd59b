use Rattle.std.proofs.Common.{ap, sym, subst, refl}
use Rattle.rc_play_spec.specs.Control.{Control}
use Rattle.rc_table.specs.Laid.{Laid}
use Rattle.rc_rules.specs.Control.{control_seen}
use Rattle.rc_value.specs.Current.{IsCurrent}
use Rattle.rc_plain.proofs.MachineLemmas.{start_ready}
use Rattle.rc_plain.proofs.machine.PlainMachine.with_opening.Goals as goal

pub invariant_of-result : goal.invariant_of-result
invariant_of-result c =
    let ready =
    start_ready c.args.about c.start.result c.args.board.laid.table
    (control_seen c.new_control-control.result) c.start.ensures
    (ap (λ (t : Laid). t.table) c.requires.table) c.new_control-control.ensures in
    record {
      laid = ap (λ (t : Laid). t.shape) c.requires.table;
      quiet = c.requires.quiet;
      play = ready.0;
      current = subst
          (λ (control : Control). IsCurrent c.args.about.sheet control.frames (record { player = 0; team = 0 }))
          (sym c.new_control-control.ensures) (refl, refl);
      kept = λ site is. absurd
          (let none = ap (λ (control : Control). control.site) c.new_control-control.ensures in cc);
    }
