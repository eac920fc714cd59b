-- Comparisons of what two numbers are.
use Rattle.std.proofs.Common.{◌≡◌, refl, List}
use Rattle.rc_sheet_spec.specs.Sheet.{IntExpr}
use Rattle.rc_play_spec.specs.Value.{Scene as PureScene, Bind as PureBind, int_value, test_value}
use Rattle.rc_play_spec.specs.Scene.{CardValue}
use Rattle.rc_code.specs.declared.atoms.Comparator.{Comparator}
use Rattle.rc_code.specs.declared.atoms.Comparator.TheVariants.{Equal, Less, AtMost, More, AtLeast}
use Rattle.rc_code.specs.FlatMeaning.{compared}
use Rattle.rc_value.specs.Comparing.{compare}

pub compared_is : (s : PureScene CardValue) (vars : List (PureBind CardValue)) (how : Comparator) (a b : IntExpr) →
    compare how (int_value s vars a) (int_value s vars b) ≡ test_value s vars (compared how a b)
compared_is s vars Equal a b = refl
compared_is s vars Less a b = refl
compared_is s vars AtMost a b = refl
compared_is s vars More a b = refl
compared_is s vars AtLeast a b = refl
