use Rattle.std.proofs.Common.{◌≡◌, ℕ, [], ◌∷◌, ◌++◌, true, length, Some, ap, ◌∙◌, arith}
use Rattle.std.proofs.lemmas.List.{length-append, map_push}
use Rattle.rc_log_spec.proofs.Parts.{card_shorter}
use Rattle.rc_seatlog.proofs.RowLemmas.{known, cards_more}
use Rattle.rc_seatlog.proofs.lines.faces_in.Goals as goal

pub loop-rest-smaller : goal.loop-rest-smaller
loop-rest-smaller c = card_shorter c.args.shape.now true c.loop-rest.rest.now (Some c.in-Some.face) c.in-Some.later.now c.in-Some.ensures

pub loop-rest-preserved : goal.loop-rest-preserved
loop-rest-preserved c =
    let inv = c.loop-rest.invariant in
    let front = known c.loop-rest.faces.items in
    let items : known c.push.new.self.items ≡ front ++ Some c.in-Some.face ∷ [] =
    ap known c.in_ok-push-in-Some.ensures.items ∙ map_push (λ (n : ℕ). Some n) c.loop-rest.faces.items c.in-Some.face in
    let less = card_shorter c.args.shape.now true c.loop-rest.rest.now (Some c.in-Some.face) c.in-Some.later.now c.in-Some.ensures in
    let long = ap length items ∙ length-append front (Some c.in-Some.face ∷ []) in
    record {
      reads = cards_more c.args.shape.now true (length c.args.bytes.now) c.loop-rest.rest.now (Some c.in-Some.face) c.in-Some.later.now front (known c.push.new.self.items)
          (omega (arith, less)) inv.shorter c.in-Some.ensures items (omega (arith, long)) ∙ inv.reads;
      shorter = omega (arith, less, long, inv.shorter);
    }
