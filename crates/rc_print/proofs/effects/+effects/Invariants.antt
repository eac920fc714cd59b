use Rattle.std.proofs.Common.{◌≡◌, ◌++◌, drop}
use Rattle.rc_base.specs.Tree.{printed_behind}
use Rattle.rc_sheet_spec.specs.Printing.{packed, effect_forms}
use Rattle.rc_ast.specs.Effects.{effects_seen}
use Rattle.rc_print.specs.Printing.{naming_seen, bound_seen}
use Rattle.rc_print.proofs.effects.+effects.Given as goal

-- what is printed and what is left are the whole
abbrev pub invariant-push_effects-loop-effect : goal.invariant-push_effects-loop-effect
invariant-push_effects-loop-effect l =
    l.out.bytes.items ++ printed_behind (packed (effect_forms (naming_seen l.sheet) (bound_seen l.sheet l.bound)
    (effects_seen (drop l.effect-index l.effect-items))))
    ≡ l.initial.out.bytes.items ++ printed_behind (packed (effect_forms (naming_seen l.sheet) (bound_seen l.sheet l.bound)
    (effects_seen l.effect-items)))
