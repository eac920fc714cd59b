use Rattle.std.proofs.Common.{arith, sym, subst}
use Rattle.rc_play_spec.specs.About.{about_of}
use Rattle.rc_rules.specs.Plan.{plan_seen}
use Rattle.rc_house.specs.Command.{options_of}
use Rattle.rc_house.specs.declared.options.Options.{Options}
use Rattle.rc_house.specs.declared.answer.Prepared.TheVariants.{Playing}
use Rattle.rc_house.specs.Legend.{HasLegend}
use Rattle.rc_house.specs.Port.{port}
use Rattle.rc_house.specs.Running.{AnswersCommand, PreparesCommand}
use Rattle.rc_house.proofs.Exits.{at_err}
use Rattle.rc_house.proofs.PlayingLemmas.{game_prepared, lacking, lacking_text, told}
use Rattle.rc_house.proofs.running.answer_together.Goals as goal

pub play_together-requires-clause-game : goal.play_together-requires-clause-game
play_together-requires-clause-game g c = λ lifetimes outlive.
    let before = port (g.S.Source.left c.args.source.now) (g.S.Source.faults c.args.source.now) in
    let after = port (g.S.Source.left c.prepare_command.new.source) (g.S.Source.faults c.prepare_command.new.source) in
    let game = c.in-Playing.game in
    let prepared : PreparesCommand c.args.command before after (Playing game) = rw c.in-Playing.is at c.in_ok-answer.ensures.prepared in
    game_prepared before after c.args.command game prepared

pub played_answer-requires-clause-played : goal.played_answer-requires-clause-played
played_answer-requires-clause-played g c =
    let game = c.in-Playing.game in
    (about_of game.checked game.plan.turns, plan_seen game.plan, 0, 0, c.in_ok-series-in-Playing.ensures)

pub returns-in_err-legend-in-Playing-clause-answers : goal.returns-in_err-legend-in-Playing-clause-answers
returns-in_err-legend-in-Playing-clause-answers g c =
    let before = port (g.S.Source.left c.args.source.now) (g.S.Source.faults c.args.source.now) in
    let after = port (g.S.Source.left c.prepare_command.new.source) (g.S.Source.faults c.prepare_command.new.source) in
    let game = c.in-Playing.game in
    let prepared : PreparesCommand c.args.command before after (Playing game) = rw c.in-Playing.is at c.in_ok-answer.ensures.prepared in
    at_err (AnswersCommand c.args.command before after 0 0) c.from_residual-in_err-legend-in-Playing.result c.from_residual-in_err-legend-in-Playing.ensures.1
    (λ status lacks. lacking before after c.args.command game 0 0 status prepared (omega arith) lacks)

pub returns-in_err-series-in-Playing-clause-answers : goal.returns-in_err-series-in-Playing-clause-answers
returns-in_err-series-in-Playing-clause-answers g c =
    let before = port (g.S.Source.left c.args.source.now) (g.S.Source.faults c.args.source.now) in
    let after = port (g.S.Source.left c.prepare_command.new.source) (g.S.Source.faults c.prepare_command.new.source) in
    let game = c.in-Playing.game in
    let prepared : PreparesCommand c.args.command before after (Playing game) = rw c.in-Playing.is at c.in_ok-answer.ensures.prepared in
    at_err (AnswersCommand c.args.command before after 0 0) c.from_residual-in_err-series-in-Playing.result c.from_residual-in_err-series-in-Playing.ensures.1
    (λ status lacks. lacking before after c.args.command game 0 0 status prepared (omega arith) lacks)

pub returns-in_err-answer-in-Playing-clause-answers : goal.returns-in_err-answer-in-Playing-clause-answers
returns-in_err-answer-in-Playing-clause-answers g c =
    let before = port (g.S.Source.left c.args.source.now) (g.S.Source.faults c.args.source.now) in
    let after = port (g.S.Source.left c.prepare_command.new.source) (g.S.Source.faults c.prepare_command.new.source) in
    let game = c.in-Playing.game in
    let prepared : PreparesCommand c.args.command before after (Playing game) = rw c.in-Playing.is at c.in_ok-answer.ensures.prepared in
    at_err (AnswersCommand c.args.command before after 0 0) c.from_residual-in_err-answer-in-Playing.result c.from_residual-in_err-answer-in-Playing.ensures.1
    (λ status lacks. lacking_text before after c.args.command game 0 0 c.in_ok-series-in-Playing.series status prepared
    c.in_ok-series-in-Playing.ensures lacks)

pub returns-in_ok-answer-in-Playing-clause-answers : goal.returns-in_ok-answer-in-Playing-clause-answers
returns-in_ok-answer-in-Playing-clause-answers g c =
    let before = port (g.S.Source.left c.args.source.now) (g.S.Source.faults c.args.source.now) in
    let after = port (g.S.Source.left c.prepare_command.new.source) (g.S.Source.faults c.prepare_command.new.source) in
    let game = c.in-Playing.game in
    let prepared : PreparesCommand c.args.command before after (Playing game) = rw c.in-Playing.is at c.in_ok-answer.ensures.prepared in
    let has = subst (λ (options : Options). HasLegend options.format game.checked c.in_ok-legend-in-Playing.legend.items) c.options.ensures
    c.in_ok-legend-in-Playing.ensures.legend in
    told before after c.args.command game 0 0 c.in_ok-series-in-Playing.series c.deref.result.now c.in_ok-answer-in-Playing.answer prepared
    c.in_ok-series-in-Playing.ensures
    (subst (HasLegend (options_of c.args.command).format game.checked) (sym c.deref.ensures.value) has) c.in_ok-answer-in-Playing.ensures
