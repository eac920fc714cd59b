-- Effects seen as what they are.
use Rattle.std.proofs.Common.{◌≡◌, ℕ, ap, ◌∙◌}
use Rattle.rc_sheet_spec.specs.Sheet.{Effect as PureEffect}
use Rattle.rc_play_spec.specs.About.{About}
use Rattle.rc_play_spec.specs.Scene.{Vars}
use Rattle.rc_play_spec.specs.Effects.{Dealing, Point, does_one}

-- the same effect
pub same_effect : (about : About) (dealing : Dealing ℕ) (vars : Vars) (e f : PureEffect) (now then' : Point ℕ) → e ≡ f →
    does_one about dealing vars f now ≡ then' → does_one about dealing vars e now ≡ then'
same_effect about dealing vars e f now then' is does = ap (λ e. does_one about dealing vars e now) is ∙ does
