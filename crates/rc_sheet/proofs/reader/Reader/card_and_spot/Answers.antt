use Rattle.rc_ast.specs.declared.effects.End.{End}
use Rattle.rc_ast.specs.declared.expressions.Loc.{Loc}
use Rattle.rc_ast.specs.Names.{loc_seen}
use Rattle.rc_ast.specs.Expressions.{card_seen}
use Rattle.rc_ast.specs.Effects.{end_seen}
use Rattle.rc_sheet.proofs.MadeLemmas.{both_gives}
use Rattle.rc_sheet.proofs.reader.Reader.card_and_spot.Goals as goal

pub returns : goal.returns
returns c =
    both_gives card_seen (λ (spot : End × Loc). (end_seen spot.0, loc_seen spot.1)) c.card-card.result c.spot-spot.result c.both_read.result _ _ c.both_read.ensures c.card-card.ensures c.spot-spot.ensures
