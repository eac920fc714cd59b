use Rattle.std.proofs.Common.{ap, sym, ◌∙◌, drop, ◌+◌, get_or, map}
use Rattle.std.proofs.lemmas.List.{drop_more}
use Rattle.rc_ast.specs.Items.{item_seen}
use Rattle.rc_play_spec.specs.Path.{body_at}
use Rattle.rc_play_spec.proofs.PathLemmas.{body-more}
use Rattle.rc_plain.proofs.path.innermost.Goals as goal

pub loop-place-preserved : goal.loop-place-preserved
loop-place-preserved c =
    let outer = c.args.outer.now in
    let here = map item_seen c.loop-place.here.now in
    let i = c.loop-place.place-index in
    ap (λ xs. body_at xs (drop (i + 1) outer)) c.body_in-here.ensures
    ∙ sym (body-more here (get_or outer i 0) (drop (i + 1) outer))
    ∙ sym (ap (body_at here) (drop_more outer i 0 c.loop-place-test.true))
    ∙ c.loop-place.invariant
