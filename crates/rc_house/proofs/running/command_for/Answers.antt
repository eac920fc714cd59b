use Rattle.std.proofs.Common.{◌≡◌, ◌==◌, Bool, true, false, map, string_bytes, refl, sym, ap, subst, ◌∙◌, rules}
use Rattle.rc_house.specs.Command.{IsCommand, options_of, workers_of}
use Rattle.rc_house.specs.declared.command.Command.{Command}
use Rattle.rc_house.specs.declared.options.Options.{Options}
use Rattle.rc_house.specs.Players.{CanPlay}
use Rattle.rc_house.specs.Running.{too_many}
use Rattle.rc_house.proofs.running.command_for.Goals.{then-several, else-several}
use Rattle.rc_house.proofs.running.command_for.Goals as goal

-- more than one worker can't play where only one can
not_one : (several value : Bool) (command : Command) (options : Options) → several ≡ false → value ≡ (options.workers == 1) → value ≡ false
    → options ≡ options_of command → CanPlay several (workers_of command) → ⊥
not_one several value command options single is off same can =
    let one : workers_of command ≡ 1 = subst (λ several. CanPlay several (workers_of command)) single can in
    let own : options.workers ≡ 1 = ap (λ (options : Options). options.workers) same ∙ one in
    let on : (options.workers == 1) ≡ true = ap (λ n. n == 1) own in
    let out : (options.workers == 1) ≡ false = sym is ∙ off in
    absurd cc

pub returns-else-options-eq1-clause-none : goal.returns-else-options-eq1-clause-none
returns-else-options-eq1-clause-none c =
    let named : IsCommand (map string_bytes c.args.words.now) c.in-Some.command = search rules in
    let off = c.if-options-eq1.false in
    too_many c.in-Some.command named
    (elim c.if-several.branch [
      | then-several w ↦ (let is = w.value-is in let on = w.if-several.true in λ can. absurd cc)
      | else-several w ↦ not_one c.args.several c.if-several.value c.in-Some.command w.options.result w.if-several.false w.value-is off w.options.ensures
    ]) refl
