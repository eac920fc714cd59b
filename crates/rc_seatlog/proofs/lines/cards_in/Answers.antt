use Rattle.std.proofs.Common.{[], ◌∷◌, false, length, ap, ◌∙◌, arith}
use Rattle.std.proofs.lemmas.List.{length-append}
use Rattle.rc_log_spec.proofs.Parts.{card_shorter}
use Rattle.rc_seatlog.proofs.RowLemmas.{cards_more}
use Rattle.rc_seatlog.proofs.lines.cards_in.Goals as goal

pub loop-rest-smaller : goal.loop-rest-smaller
loop-rest-smaller c = card_shorter c.args.shape.now false c.loop-rest.rest.now c.in-Some.card c.in-Some.later.now c.in-Some.ensures

pub loop-rest-preserved : goal.loop-rest-preserved
loop-rest-preserved c =
    let inv = c.loop-rest.invariant in
    let items = c.in_ok-push-in-Some.ensures.items in
    let less = card_shorter c.args.shape.now false c.loop-rest.rest.now c.in-Some.card c.in-Some.later.now c.in-Some.ensures in
    let long = ap length items ∙ length-append c.loop-rest.cards.items (c.in-Some.card ∷ []) in
    record {
      reads = cards_more c.args.shape.now false (length c.args.bytes.now) c.loop-rest.rest.now c.in-Some.card c.in-Some.later.now c.loop-rest.cards.items c.push.new.self.items
          (omega (arith, less)) inv.shorter c.in-Some.ensures items (omega (arith, long)) ∙ inv.reads;
      shorter = omega (arith, less, long, inv.shorter);
    }
