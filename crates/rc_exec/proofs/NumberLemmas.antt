-- What a change of a number leads to.
use Rattle.std.proofs.Common.{◌≡◌, ℕ, Some, ℤ, refl, sym, ap, ◌∙◌}
use Rattle.rc_sheet_spec.specs.Sheet.{Num, IntExpr}
use Rattle.rc_play_spec.specs.About.{About}
use Rattle.rc_play_spec.specs.Scene.{Vars}
use Rattle.rc_play_spec.specs.Table.{Table}
use Rattle.rc_play_spec.specs.Value.{num_place, int_value}
use Rattle.rc_play_spec.specs.Effects.{Dealing, Point, scene_now, if_some, change, with_table, does_one}
use Rattle.rc_value.specs.Leads.{effect_by, new_by}
use Rattle.rc_value.specs.declared.change.Change.{Change}
use Rattle.rc_value.specs.declared.change.Change.TheVariants.{Set, Increase, Decrease}

module _ (about : About) (dealing : Dealing ℕ) (vars : Vars) (num : Num) (value : IntExpr) (now : Point ℕ) where
  does_change : (how : Change) → does_one about dealing vars (effect_by how num value) now
      ≡ with_table now (if_some (change (new_by how) (int_value (scene_now about now) vars value)) (num_place (scene_now about now).known vars num) now.table)
  does_change Set = refl
  does_change Increase = refl
  does_change Decrease = refl

  pub number_leads : (how : Change) (at : ℕ) (new : ℤ) (table : Table) → num_place (scene_now about now).known vars num ≡ Some at →
      new ≡ int_value (scene_now about now) vars value → table ≡ change (new_by how) new at now.table →
      does_one about dealing vars (effect_by how num value) now ≡ with_table now table
  number_leads how at new table is worth same =
      does_change how
      ∙ ap (λ o. with_table now (if_some (change (new_by how) (int_value (scene_now about now) vars value)) o now.table)) is
      ∙ ap (λ n. with_table now (change (new_by how) n at now.table)) (sym worth)
      ∙ ap (with_table now) (sym same)
