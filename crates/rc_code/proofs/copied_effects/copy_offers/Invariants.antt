use Rattle.std.proofs.Common.{◌≡◌, ◌++◌, drop, map}
use Rattle.rc_ast.specs.Items.{alt_seen}
use Rattle.rc_code.proofs.copied_effects.copy_offers.Given as goal

-- the copies, and what is left to copy, are all of them
abbrev pub invariant-loop-alt : goal.invariant-loop-alt
invariant-loop-alt l =
    l.copies.items ++ map alt_seen (drop l.alt-index l.alt-items) ≡ map alt_seen l.alt-items
