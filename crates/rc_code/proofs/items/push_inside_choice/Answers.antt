use Rattle.std.proofs.Common.{◌++◌, map, ap, ◌∙◌}
use Rattle.rc_ast.specs.Items.{alts_seen}
use Rattle.rc_code.specs.Instruction.{end_body}
use Rattle.rc_code.specs.Compiled.{alts_code, blocks_from}
use Rattle.rc_code.specs.Seen.{block_seen}
use Rattle.rc_code.proofs.ListLemmas.{enclosed}
use Rattle.rc_code.proofs.items.push_inside_choice.Goals as goal

pub returns-in-Ok-push_alts-clause-code : goal.returns-in-Ok-push_alts-clause-code
returns-in-Ok-push_alts-clause-code c =
    let code = alts_code (alts_seen c.args.alts.now.items) in
    enclosed c.args.list.now.items c.push.new.list.items c.push_alts.new.list.items code end_body c.in-Ok.ensures c.in-Ok-push_alts.ensures.code

pub returns-in-Ok-push_alts-clause-blocks : goal.returns-in-Ok-push_alts-clause-blocks
returns-in-Ok-push_alts-clause-blocks c =
    c.in-Ok-push_alts.ensures.blocks ∙ ap (λ bs. map block_seen bs ++ blocks_from 0 (alts_seen c.args.alts.now.items)) c.new-blocks.ensures.items
