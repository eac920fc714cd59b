-- Where an effect leads that shuffles nothing, and what the parts of an effect stand for.
use Rattle.std.specs.Prelude.{◌≡◌, ℕ, List, slice_get, Bool, Option, Some, ℤ, ◌+ℤ◌, ◌-ℤ◌}
use Rattle.rc_sheet_spec.specs.Sheet.{Num, IntExpr, Effect, set_to, increase, decrease}
use Rattle.rc_sheet_spec.specs.WellFormed.{is_mem}
use Rattle.rc_play_spec.specs.Shape.{Place, Shape}
use Rattle.rc_play_spec.specs.Effects.{Dealing, does_one}
use Rattle.rc_table.specs.Laid.{Laid}
use Rattle.rc_rules.specs.declared.control.Frame.{Frame}
use Rattle.rc_value.specs.declared.context.Context.{Context}
use Rattle.rc_value.specs.declared.change.Change.{Change}
use Rattle.rc_value.specs.declared.change.Change.TheVariants.{Set, Increase, Decrease}
use Rattle.rc_value.specs.Point.{point_of}

-- to this table and these stages, whoever shuffles
abbrev pub LeadsTo : Context → Effect → Laid → List Frame → Laid → List Frame → Type 0
LeadsTo context e before frames after frames' =
    (dealing : Dealing ℕ) (state : ℕ) →
    does_one context.about.now dealing context.scope.now e (point_of before frames state) ≡ point_of after frames' state

-- a location that holds references or cards, as its name does
abbrev pub HoldsAs : Shape → Option Bool → ℕ → Type 0
HoldsAs shape references loc =
    (place : Place) × (slice_get shape.places loc ≡ Some place) × (references ≡ Some (is_mem place.kind))

-- the effect of a change of a number, and what it makes of the number and a value
abbrev pub effect_by : Change → Num → IntExpr → Effect
effect_by Set num value = set_to num value
effect_by Increase num value = increase num value
effect_by Decrease num value = decrease num value

abbrev pub new_by : Change → ℤ → ℤ → ℤ
new_by Set old value = value
new_by Increase old value = old +ℤ value
new_by Decrease old value = old -ℤ value
