use Rattle.std.proofs.Common.{◌≡◌, ◌+◌, ◌*◌}
use Rattle.rc_form.specs.Form.{trees_of, packed}
use Rattle.rc_form.specs.declared.form.Form.{size-Form}
use Rattle.rc_sheet_spec.specs.Sheet.{effect}
use Rattle.rc_ast.specs.Effects.{effect_seen}
use Rattle.rc_sheet.specs.ReadEffects.{effects_at}
use Rattle.rc_sheet.proofs.InTurn.{so_far}
use Rattle.rc_sheet.proofs.Sizes.{largest}
use Rattle.rc_sheet.proofs.reader.Reader.+effects.Given as goal

-- a form is larger than its parts; a list of parts comes before the effects among them, and these before each effect
abbrev pub decreases-effect : goal.decreases-effect
decreases-effect l = 3 * size-Form l.form.now

abbrev pub decreases-effect_list : goal.decreases-effect_list
decreases-effect_list l = 3 * largest l.parts.now + 2

abbrev pub decreases-effects : goal.decreases-effects
decreases-effects l = 3 * largest l.forms.now + 1

-- what is read so far, before what is left to read, is the whole
abbrev pub invariant-effects-loop-form : goal.invariant-effects-loop-form
invariant-effects-loop-form l =
    so_far effect_seen effect (effects_at l.self l.scope) l.all.items l.forms l.form-index
    ≡ effects_at l.self l.scope (packed (trees_of l.forms))
