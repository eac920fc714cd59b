use Rattle.std.proofs.Common.{◌≡◌, ◌+◌, length, map, ap, ◌∙◌, subst, arith}
use Rattle.std.proofs.lemmas.List.{length-map}
use Rattle.rc_play_spec.specs.Tally.{tally as tally_of}
use Rattle.rc_redraw.specs.Asking.{key_seen}
use Rattle.rc_redraw.specs.Counts.{looked}
use Rattle.rc_redraw.specs.Reply.{IfHit}
use Rattle.rc_cache.specs.Book.{lane_call_seen}
use Rattle.rc_cache.proofs.KeptLemmas.{few, lane_call_of, log_seen, looked_push, own_key}
use Rattle.rc_cache.proofs.book.Book.look.Goals as goal

pub look-requires-clause-looks : goal.look-requires-clause-looks
look-requires-clause-looks g c =
    let f = few (map lane_call_seen c.self.inside.journal.items) in
    let n = length-map c.self.inside.journal.items lane_call_seen in
    let m = c.write-made.ensures.made ∙ ap (λ xs. length xs + 1) c.reserve.ensures.items in
    omega (arith, f.0, n, m, c.self.invariant.1.looked)

pub look-requires-clause-hits : goal.look-requires-clause-hits
look-requires-clause-hits g c =
    let f = few (map lane_call_seen c.self.inside.journal.items) in
    let n = length-map c.self.inside.journal.items lane_call_seen in
    let m = c.write-made.ensures.made ∙ ap (λ xs. length xs + 1) c.reserve.ensures.items in
    omega (arith, f.1, n, m, c.self.invariant.1.hit)

pub invariant_of-self-2 : goal.invariant_of-self-2
invariant_of-self-2 g c =
    let line = log_seen _ _ _ _ _ c.write-made.ensures.items c.reserve.ensures.items
    (ap (λ key. lane_call_of c.lane.inside.number (looked key c.is_hit-hit.result)) c.in_ok-known.ensures) in
    rw line (
      c.self.invariant.0,
      looked_push g.N.BookNaming.about g.N.BookNaming.capacity c.self.inside.cache c.bring.new.cache (map lane_call_seen c.self.inside.journal.items) _ _ _
          c.lane.inside.number c.self.invariant.1 c.bring.ensures.capacity (key_seen c.args.key.now) _ c.is_hit-hit.result _ _ _ c.requires.served c.in_ok-mark.ensures
          (c.is_hit-hit.ensures ∙ c.in_ok-reply.ensures.hit g.N.BookNaming.about) (c.bring.ensures.own g.N.BookNaming.about c.self.invariant.1.own)
          (c.bring.ensures.keys g.N.BookNaming.about) c.look.ensures.looks c.look.ensures.hits c.look.ensures.keeps,
    )

pub returns-clause-totals : goal.returns-clause-totals
returns-clause-totals g c =
    subst (λ key. IfHit c.in_ok-reply.reply (λ totals. totals ≡ tally_of key.about key.ask))
    (own_key g.N.BookNaming.about (key_seen c.args.key.now) _ c.requires.served c.in_ok-mark.ensures)
    (c.in_ok-reply.ensures.totals g.N.BookNaming.about c.self.invariant.1.own)
