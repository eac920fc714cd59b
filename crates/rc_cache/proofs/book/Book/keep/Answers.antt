use Rattle.std.proofs.Common.{◌+◌, length, map, sym, ap, ◌∙◌, arith}
use Rattle.std.proofs.lemmas.List.{length-map}
use Rattle.rc_redraw.specs.Counts.{kept}
use Rattle.rc_cache.specs.Book.{lane_call_seen}
use Rattle.rc_cache.proofs.KeptLemmas.{few, lane_call_of, log_seen, keep_push, own_key}
use Rattle.rc_cache.proofs.book.Book.keep.Goals as goal

pub keep-requires : goal.keep-requires
keep-requires g c =
    let f = few (map lane_call_seen c.self.inside.journal.items) in
    let n = length-map c.self.inside.journal.items lane_call_seen in
    let m = c.write-made.ensures.made ∙ ap (λ xs. length xs + 1) c.reserve.ensures.items in
    omega (arith, f.2, n, m, c.self.invariant.1.kept)

pub invariant_of-self-2 : goal.invariant_of-self-2
invariant_of-self-2 g c =
    let about = g.N.BookNaming.about in
    let entry = c.args.entry in
    let asked = c.in_ok-mark.ensures ∙ ap (λ key. key.ask) c.key-2.ensures in
    let line = log_seen _ _ _ _ _ c.write-made.ensures.items c.reserve.ensures.items
    (ap (λ key. lane_call_of c.lane.inside.number (kept key)) (c.in_ok-known.ensures ∙ c.key.ensures)) in
    rw line (
      c.self.invariant.0,
      keep_push about g.N.BookNaming.capacity c.self.inside.cache c.put.new.cache (map lane_call_seen c.self.inside.journal.items) _ _ _
          c.lane.inside.number c.self.invariant.1 c.put.ensures.capacity entry _ _ _ _ c.requires.served asked
          (c.in_ok-put.ensures.own about c.self.invariant.1.own (sym (own_key about entry _ c.requires.served asked)))
          (c.in_ok-put.ensures.keys about) c.keep.ensures.looks c.keep.ensures.hits c.keep.ensures.keeps,
    )
