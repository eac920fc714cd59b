use Rattle.std.proofs.Common.{sym, ap, ◌∙◌}
use Rattle.rc_base.specs.Deck.{points_of}
use Rattle.rc_deck.specs.Points.{entries_of}
use Rattle.rc_rules.proofs.Rows.{no_points}
use Rattle.rc_rules.proofs.lookup.worth_of.Goals as goal

pub returns-in-None : goal.returns-in-None
returns-in-None c = no_points (entries_of c.args.map.now) ∙ ap (points_of (entries_of c.args.map.now)) (sym c.in-None.ensures)
