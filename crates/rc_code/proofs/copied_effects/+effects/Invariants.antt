use Rattle.std.proofs.Common.{◌≡◌, ◌++◌, drop, map}
use Rattle.rc_ast.specs.Effects.{effect_seen}
use Rattle.rc_code.proofs.copied_effects.+effects.Given as goal

-- the copies, and what is left to copy, are all of them
abbrev pub invariant-copy_effects-loop-effect : goal.invariant-copy_effects-loop-effect
invariant-copy_effects-loop-effect l =
    map effect_seen l.copies.items ++ map effect_seen (drop l.effect-index l.effect-items) ≡ map effect_seen l.effect-items
