use Rattle.std.specs.Prelude.{string_bytes}
use Rattle.std.proofs.Common.{ap, ◌∙◌, ◌++◌, flat_map}
use Rattle.rc_base.specs.Transcript.{line}
use Rattle.rc_view.specs.declared.view.View.{View}
use Rattle.rc_view.specs.Seen.{view_seen}
use Rattle.rc_log_spec.specs.Log.{block_lines}
use Rattle.rc_seatlog.proofs.WriteLemmas.{blocks_step}
use Rattle.rc_seatlog.proofs.write.write_blocks.Goals as goal

pub loop-n-preserved : goal.loop-n-preserved
loop-n-preserved c =
    blocks_step (string_bytes c.args.out.now) (string_bytes c.loop-n.out) (string_bytes c.write_block.new.out) c.args.views.now c.loop-n.n c.index-views-n.result
    c.loop-n-test.true c.loop-n.invariant
    (c.in_ok-write_block.ensures
    ∙ ap (λ (view : View). string_bytes c.loop-n.out ++ flat_map line (block_lines c.loop-n.n (view_seen view))) c.index-views-n.is)
