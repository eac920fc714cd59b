use Rattle.std.proofs.Common.{◌≡◌, ◌≤◌, ◌-◌, ◌++◌, drop, length, map}
use Rattle.rc_ast.specs.Items.{alts_seen}
use Rattle.rc_code.specs.Compiled.{alts_code, blocks_from}
use Rattle.rc_code.specs.Seen.{block_seen, list_seen}
use Rattle.rc_code.proofs.items.push_alts.Given as goal

-- with the code of what is left, it is the code of all, and so are the blocks
abbrev pub invariant-loop-alt : goal.invariant-loop-alt
invariant-loop-alt l =
    (list_seen l.list.items ++ alts_code (alts_seen (drop l.alt-index l.alt-items))
    ≡ list_seen l.initial.list.items ++ alts_code (alts_seen l.alt-items))
    × (map block_seen l.blocks.items ++ blocks_from (length l.list.items - l.from) (alts_seen (drop l.alt-index l.alt-items))
    ≡ map block_seen l.initial.blocks.items ++ blocks_from 0 (alts_seen l.alt-items))
    × (l.from ≤ length l.list.items)
