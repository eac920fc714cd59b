-- What effects are done under, and what they start from.
use Rattle.std.specs.Prelude.{◌≡◌, List, All}
use Rattle.rc_play_spec.specs.About.{scene_at}
use Rattle.rc_play_spec.specs.Value.{Scene}
use Rattle.rc_play_spec.specs.Scene.{CardValue, Vars}
use Rattle.rc_sheet_spec.specs.Sheet.{Sheet}
use Rattle.rc_play_spec.specs.Bound.{IsBindOf}
use Rattle.rc_table.specs.Laid.{Laid}
use Rattle.rc_rules.specs.declared.control.Frame.{Frame}
use Rattle.rc_rules.specs.Control.{frames_seen}
use Rattle.rc_value.specs.Current.{IsCurrent}
use Rattle.rc_value.specs.declared.context.Context.{Context}

-- what is said of a sheet and of what its variables stand for, said of a context's
abbrev pub in_scope {ℓ} : {R : Type ℓ} → Context → (Sheet → Vars → R) → R
in_scope context said = said context.about.now.sheet context.scope.now

-- what expressions are read in
abbrev pub scene_in : Context → Laid → List Frame → Scene CardValue
scene_in context laid frames = scene_at context.about.now laid.table (frames_seen frames)

-- the table is laid for the shape, the context knows who is current in the open stages, and variables stand for what the shape has
abbrev pub IsContextOf : Context → Laid → List Frame → Type 0
IsContextOf context laid frames =
    (laid.shape ≡ context.about.now.shape) × IsCurrent context.about.now.sheet (frames_seen frames) context.current
    × All (IsBindOf context.about.now.shape) context.scope.now
