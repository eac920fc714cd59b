-- Statements of laws: what an expression is worth doesn't hang on a variable that it doesn't read.
use Rattle.std.specs.Prelude.{◌≡◌, false, List, ◌∷◌, ◌++◌, length}
use Rattle.rc_sheet_spec.specs.Sheet.{Test, CardExpr}
use Rattle.rc_play_spec.specs.Value.{Scene, Bind, test_value, card_value}
use Rattle.rc_play_spec.specs.Scene.{CardValue}
use Rattle.rc_flow.specs.Reads.{reads_test, reads_card}

abbrev pub UnreadInTests : Type 0
UnreadInTests =
    (scene : Scene CardValue) (outer inner : List (Bind CardValue)) (m m' : Bind CardValue) (t : Test) →
    reads_test (length outer) t ≡ false → test_value scene (outer ++ m ∷ inner) t
    ≡ test_value scene (outer ++ m' ∷ inner) t

abbrev pub UnreadInCards : Type 0
UnreadInCards =
    (scene : Scene CardValue) (outer inner : List (Bind CardValue)) (m m' : Bind CardValue) (e : CardExpr) →
    reads_card (length outer) e ≡ false → card_value scene (outer ++ m ∷ inner) e
    ≡ card_value scene (outer ++ m' ∷ inner) e
