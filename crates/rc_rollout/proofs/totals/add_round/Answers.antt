use Rattle.std.proofs.Common.{◌∙◌}
use Rattle.rc_redraw.specs.Asking.{ask_seen}
use Rattle.rc_rollout.proofs.RoundLemmas.{dealt_for, deals_still}
use Rattle.rc_rollout.proofs.totals.add_round.Goals as goal

pub go_to_round-requires-clause-table : goal.go_to_round-requires-clause-table
go_to_round-requires-clause-table g c =
    c.table.ensures
    ∙ dealt_for c.args.about.now (ask_seen c.args.ask.now) c.args.round c.args.redraws.now c.deal_round.new.redraws c.requires.deals c.deal_round.ensures

pub returns-clause-deals : goal.returns-clause-deals
returns-clause-deals g c =
    deals_still c.args.about.now (ask_seen c.args.ask.now) c.args.round c.args.redraws.now c.deal_round.new.redraws c.requires.deals c.deal_round.ensures
