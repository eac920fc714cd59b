use Rattle.std.proofs.Common.{length, map, ap, ◌∙◌, arith}
use Rattle.rc_play_spec.specs.Menu.{effects_of}
use Rattle.rc_ast.specs.Items.{alt_seen}
use Rattle.rc_code.specs.Compiled.{effects_code}
use Rattle.rc_code.specs.Seen.{block_seen, list_seen}
use Rattle.rc_code.proofs.AltLemmas.{block_more, one_alt, one_block}
use Rattle.rc_code.proofs.ListLemmas.{grown}
use Rattle.rc_code.proofs.items.push_alts.Goals as goal

pub loop-alt-preserved : goal.loop-alt-preserved
loop-alt-preserved c =
    let loop = c.loop-alt in
    let alts = c.deref-alt-items.result.now in
    let alt = c.alt-item.result in
    let more = grown loop.list.items c.push_alt.new.list.items (effects_code (effects_of (alt_seen alt))) c.in-Ok.ensures in
    let blocks = ap (map block_seen) c.in-Ok-push.ensures.items ∙ block_more loop.blocks.items _ in
    let lists = one_alt alts loop.alt-index alt c.loop-alt-test.true c.alt-item.is (list_seen loop.list.items) _ _ loop.invariant.0 c.in-Ok.ensures in
    let kept =
    one_block alts loop.alt-index alt c.loop-alt-test.true c.alt-item.is (map block_seen loop.blocks.items) _ _ c.len-from.result (length loop.list.items)
    (length c.push_alt.new.list.items) c.len.result c.len-in-loop-alt.result (c.len.ensures ∙ loop.list.ok.0)
    (c.len-in-loop-alt.ensures ∙ c.push_alt.new.list.ok.0) more loop.invariant.2 loop.invariant.1 blocks in
    (lists, kept, omega (arith, more, loop.invariant.2))
