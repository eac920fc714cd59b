-- Points that are read are within the clamp.
use Rattle.std.proofs.Common.{◌≡◌, Option, Some, None, ℤ, inl, inr, sym, subst, ◌∙◌}
use Rattle.std.specs.Option.{option_and_then}
use Rattle.std.specs.Int.Signed.{le_z_yes}
use Rattle.std.proofs.lemmas.Bool.{cases_Bool, and_parts, cond-true, cond-false}
use Rattle.std.proofs.lemmas.Float.{T_from_true}
use Rattle.std.proofs.lemmas.Option.{same_Some}
use Rattle.rc_base.specs.Tree.{Tree, word, list}
use Rattle.rc_base.specs.Literal.{integer}
use Rattle.rc_base.specs.Clamp.{IsWithinClamp, is_within_clamp}
use Rattle.rc_resolve.specs.Reading.{unclamped, read_points}

unclamped_within : (found points : ℤ) → unclamped found ≡ Some points → IsWithinClamp points
unclamped_within found points e =
    elim (cases_Bool (is_within_clamp found)) [
      | inl within ↦
          let same : found ≡ points = same_Some _ _ (sym (cond-true _ _ _ within) ∙ e) in
          let parts = and_parts _ _ within in
          subst IsWithinClamp same (le_z_yes (T_from_true _ parts.0), le_z_yes (T_from_true _ parts.1))
      | inr past ↦ let none = sym (cond-false _ _ _ past) ∙ e in absurd cc
    ]

pub points_within : (points : ℤ) (tree : Tree) → read_points tree ≡ Some points → IsWithinClamp points
points_within points (list parts from to) e = absurd cc
points_within points (word bytes from to) e = go (integer bytes) e
  where
    go : (found : Option ℤ) → option_and_then unclamped found ≡ Some points → IsWithinClamp points
    go None none = absurd cc
    go (Some found) some = unclamped_within found points some
