use Rattle.std.proofs.Common.{[], arith, ◌∙◌, rules, SFits, w64}
use Rattle.std.proofs.lemmas.Int.{to_z-of_z}
use Rattle.rc_base.specs.Deck.{points_of}
use Rattle.rc_deck.specs.Points.{entries_of}
use Rattle.rc_rules.proofs.Rows.{row_more}
use Rattle.rc_rules.proofs.lookup.worths_of.Goals as goal

pub loop-id-preserved : goal.loop-id-preserved
loop-id-preserved c =
    let fits : SFits w64 c.worth_of.result = search (rules, c.worth_of.type_inv) in
    row_more (points_of (entries_of c.args.map.now)) [] c.args.shape.now.faces c.loop-id.row.items _ c.loop-id.id _
    (omega (arith, c.loop-id-test.true, c.cards-id-end.ensures))
    (to_z-of_z w64 c.worth_of.result fits ∙ c.worth_of.ensures) c.in_ok-push.ensures.items c.loop-id.invariant
