use Rattle.std.proofs.Common.{◌≡◌, ◌++◌, drop}
use Rattle.rc_ast.specs.Effects.{effects_seen}
use Rattle.rc_code.specs.Compiled.{effects_code}
use Rattle.rc_code.specs.Seen.{list_seen}
use Rattle.rc_code.proofs.effects.+compiling.Given as goal

-- with the code of what is left, it is the code of all
abbrev pub invariant-push_effects-loop-effect : goal.invariant-push_effects-loop-effect
invariant-push_effects-loop-effect l =
    list_seen l.list.items ++ effects_code (effects_seen (drop l.effect-index l.effect-items))
    ≡ list_seen l.fn.list.items ++ effects_code (effects_seen l.effect-items)
