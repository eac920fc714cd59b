-- Statements of laws on the judge.
use Rattle.std.specs.Prelude.{◌≡◌, ℕ, Bool, List, ◌++◌, None, ◌↔◌}
use Rattle.rc_play_spec.specs.HouseText.{NamedText, IsText}
use Rattle.rc_play_spec.specs.About.{About}
use Rattle.rc_play_spec.specs.Effects.{Dealing}
use Rattle.rc_play_spec.specs.Play.{from_stop, follow, reached}
use Rattle.rc_play_spec.specs.Plan.{Plan}
use Rattle.rc_play_spec.specs.Judged.{first_illegal}
use Rattle.rc_play_spec.specs.Along.{judged}
use Rattle.rc_play_spec.specs.Legal.{IsLegalText}

-- a play goes on from where its first items lead
abbrev pub PlayGoesOn : Type 0
PlayGoesOn =
    (about : About) (dealing : Dealing ℕ) (items more : List ℕ) (k : ℕ) →
    reached about dealing (items ++ more) k ≡ from_stop (follow about dealing more) (reached about dealing items k)

-- one pass finds the first illegal line
abbrev pub OnePassJudges : Type 0
OnePassJudges =
    (about : About) (dealing : ℕ → Dealing ℕ) (plan : Plan) (named : Bool) (head : ℕ) (n : NamedText) → IsText named n →
    judged about dealing plan head n ≡ first_illegal about dealing plan head n

-- no line is illegal exactly where the text is legal
abbrev pub LegalExactly : Type 0
LegalExactly =
    (about : About) (dealing : ℕ → Dealing ℕ) (plan : Plan) (named : Bool) (head : ℕ) (n : NamedText) → IsText named n →
    (first_illegal about dealing plan head n ≡ None) ↔ IsLegalText about dealing plan named n
