-- Lists of what each number below another has, and a player's score.
use Rattle.std.proofs.Common.{◌≡◌, ℕ, [], ◌∷◌, map, length, ap, ◌∙◌}
use Rattle.std.proofs.lemmas.List.{length-map}
use Rattle.std.proofs.lemmas.List.FromFn.{length-range_with_len}
use Rattle.rc_base.specs.Numbers.{below}
use Rattle.rc_sheet_spec.specs.Sheet.{IntExpr}
use Rattle.rc_play_spec.specs.Value.{Scene, player_bound, int_value}
use Rattle.rc_play_spec.specs.Scene.{CardValue, Vars}
use Rattle.rc_play_spec.specs.Control.{Control}
use Rattle.rc_play_spec.specs.Table.{Table}
use Rattle.rc_play_spec.specs.About.{About, scene_at}
use Rattle.rc_play_spec.specs.Scores.{score_of}

pub below_count : {A : Type 0} (f : ℕ → A) (n : ℕ) → length (map f (below n)) ≡ n
below_count f n = length-map (below n) f ∙ length-range_with_len 0 n

-- what the sheet's score is worth where the one variable is the player
pub score_is : (about : About) (table : Table) (control : Control) (player : ℕ) (scene : Scene CardValue) (vars : Vars) (score : IntExpr) →
    scene ≡ scene_at about table control.frames → vars ≡ player_bound player ∷ [] → score ≡ about.sheet.score →
    int_value scene vars score ≡ score_of about table control player
score_is about table control player scene vars score here one same =
    ap (λ s. int_value s vars score) here ∙ ap (λ v. int_value (scene_at about table control.frames) v score) one
    ∙ ap (λ x. int_value (scene_at about table control.frames) (player_bound player ∷ []) x) same
