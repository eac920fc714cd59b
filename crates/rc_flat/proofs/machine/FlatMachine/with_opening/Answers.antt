use Rattle.std.proofs.Common.{refl, sym, ap, subst}
use Rattle.rc_play_spec.specs.Control.{Control}
use Rattle.rc_table.specs.Laid.{Laid}
use Rattle.rc_rules.specs.Control.{control_seen}
use Rattle.rc_value.specs.Current.{IsCurrent}
use Rattle.rc_code.specs.Seen.{list_seen, code_seen}
use Rattle.rc_code.specs.Implements.{Implements}
use Rattle.rc_flat.proofs.StartLemmas.{start_ready}
use Rattle.rc_flat.proofs.machine.FlatMachine.with_opening.Goals as goal

pub invariant_of-result : goal.invariant_of-result
invariant_of-result c =
    let about = c.args.about in
    let code = list_seen c.args.code.value.list.items in
    let formed = c.sheet-sheet.ensures.well in
    let implements : Implements about.sheet code = c.standing_code_implements.ensures about.sheet (code_seen c.args.code.value) c.requires.stands formed in
    let table = ap (λ (l : Laid). l.table) c.requires.opens in
    record {
      implements = implements;
      laid = ap (λ (l : Laid). l.shape) c.requires.opens;
      ready = λ fresh. record {
        laid = ap (λ (l : Laid). l.shape) c.requires.opens;
        play = (start_ready about code c.start.result c.args.board.laid.table (control_seen c.new_control-control.result) implements
            formed c.start.ensures table c.new_control-control.ensures).0;
        current = subst (λ (control : Control). IsCurrent about.sheet control.frames (record { player = 0; team = 0 })) (sym c.new_control-control.ensures) (refl, refl);
        kept = λ site is. absurd (let none = ap (λ (control : Control). control.site) c.new_control-control.ensures in cc);
      };
    }

pub returns-clause-start : goal.returns-clause-start
returns-clause-start c =
    let about = c.args.about in
    let code = list_seen c.args.code.value.list.items in
    let formed = c.sheet-sheet.ensures.well in
    let implements : Implements about.sheet code = c.standing_code_implements.ensures about.sheet (code_seen c.args.code.value) c.requires.stands formed in
    let table = ap (λ (l : Laid). l.table) c.requires.opens in
    (start_ready about code c.start.result c.args.board.laid.table (control_seen c.new_control-control.result) implements formed c.start.ensures table
    c.new_control-control.ensures).1
