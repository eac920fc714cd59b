use Rattle.std.proofs.Common.{◌≡◌, ℕ, ◌+◌, List, [], ◌∷◌, ◌++◌, map, drop, sym, ap, ◌∙◌, append_assoc, append-nil}
use Rattle.std.proofs.lemmas.List.{at_drop_more, drop_all}
use Rattle.rc_base.specs.Tree.{Tree, printed, printed_behind}
use Rattle.rc_deck.specs.Points.{entries_of}
use Rattle.rc_sheet_spec.specs.Printing.{packed, map_form}
use Rattle.rc_print.specs.Printing.{naming_seen}
use Rattle.rc_print.proofs.Added.{start, then}
use Rattle.rc_print.proofs.MapLemmas.{maps_from, numbered_maps}
use Rattle.rc_print.proofs.setup.push_maps.Goals as goal

pub loop-points-preserved : goal.loop-points-preserved
loop-points-preserved c =
    let naming = naming_seen c.args.sheet.now in
    let maps = c.args.maps.now in
    let old = c.loop-points.out.bytes.items in
    let number = c.loop-points.number in
    let index = c.loop-points.points-index in
    let form : Tree = map_form naming (number, entries_of c.points-item.result) in
    let rest : List ℕ = printed_behind (packed (maps_from naming (number + 1) (map entries_of (drop (index + 1) maps)))) in
    let added = then (printed form) (then (32 ∷ []) (start old) c.in_ok-space.ensures) c.in_ok-push_points.ensures in
    let left : drop index maps ≡ c.points-item.result ∷ drop (index + 1) maps =
    at_drop_more (λ all. all) maps index c.points-item.result c.loop-points-test.true
    ∙ ap (λ points. points ∷ drop (index + 1) maps) (sym c.points-item.is) in
    record {
      place = ap (λ n. n + 1) c.loop-points.invariant.place;
      bytes =
          ap (λ text. text ++ rest) added.is ∙ append_assoc old (32 ∷ printed form) rest
          ∙ ap (λ all. old ++ printed_behind (packed (maps_from naming number (map entries_of all)))) (sym left)
          ∙ c.loop-points.invariant.bytes;
    }

pub returns : goal.returns
returns c =
    let naming = naming_seen c.args.sheet.now in
    let maps = c.args.maps.now in
    let old = c.loop-points.out.bytes.items in
    let done : drop c.loop-points.points-index maps ≡ [] = drop_all c.loop-points.points-index maps c.loop-points-test.false in
    sym (append-nil old)
    ∙ ap (λ all. old ++ printed_behind (packed (maps_from naming c.loop-points.number (map entries_of all)))) (sym done)
    ∙ c.loop-points.invariant.bytes
    ∙ ap (λ forms. c.args.out.now.bytes.items ++ printed_behind (packed forms))
    (sym (numbered_maps naming 0 (map entries_of maps)))
