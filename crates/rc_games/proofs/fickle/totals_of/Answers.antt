use Rattle.std.proofs.Common.{◌∙◌}
use Rattle.rc_redraw.specs.Asking.{ask_seen}
use Rattle.rc_games.proofs.FoundLemmas.{same_totals}
use Rattle.rc_games.proofs.fickle.totals_of.Goals as goal

pub returns : goal.returns
returns c =
    let e = c.tally.ensures ∙ same_totals c.args.key.now.about.value c.args.entry.now.about (ask_seen c.args.key.now.ask.value) c.args.entry.now.ask c.requires.about c.requires.ask in
    rw (← e) c.copy.ensures
