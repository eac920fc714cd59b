use Rattle.rc_ast.specs.Names.{who_seen}
use Rattle.rc_ast.specs.Expressions.{coll_seen}
use Rattle.rc_sheet.proofs.MadeLemmas.{both_gives}
use Rattle.rc_sheet.proofs.reader.Reader.cards_and_owner.Goals as goal

pub returns : goal.returns
returns c =
    both_gives coll_seen who_seen c.collection-cards.result c.owner_at-owner.result c.both_read.result _ _
    c.both_read.ensures c.collection-cards.ensures c.owner_at-owner.ensures
