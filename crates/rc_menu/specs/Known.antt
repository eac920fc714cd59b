-- What is the same whatever variables stand for, as far as it is known.
use Rattle.std.specs.Prelude.{◌≡◌, ℕ, ◌+◌, Bool, not, if◌then◌else◌, List, length}
use Rattle.rc_sheet_spec.specs.Sheet.{IntExpr, Test, Domain, all_of, any_of}
use Rattle.rc_play_spec.specs.Value.{Scene as PureScene, Bind as PureBind, int_value, test_value}
use Rattle.rc_play_spec.specs.Scene.{CardValue}
use Rattle.rc_menu.specs.declared.known.AtHand.{AtHand}
use Rattle.rc_menu.specs.declared.known.AtHand.TheVariants.{OfCard, Holds, Unclear}
use Rattle.rc_code.specs.declared.atoms.Comparator.{Comparator}
use Rattle.rc_value.specs.declared.wanted.SoughtValue.{SoughtValue}
use Rattle.rc_value.specs.Comparing.{compare}
use Rattle.rc_value.specs.Wanted.{IsWanted}

-- a number that no variable owns
abbrev pub IsFixedNumber : IntExpr → Type 0
IsFixedNumber e =
    (s : PureScene CardValue) (vars vars' : List (PureBind CardValue)) → int_value s vars e ≡ int_value s vars' e

-- whether two numbers compare so in all scopes
abbrev pub IsKnownPair : PureScene CardValue → Comparator → IntExpr → IntExpr → Bool → Type 0
IsKnownPair s how a b is =
    (vars : List (PureBind CardValue)) → compare how (int_value s vars a) (int_value s vars b) ≡ is

-- whether a test holds in all scopes of so many variables
abbrev pub IsKnownAt : PureScene CardValue → ℕ → Test → Bool → Type 0
IsKnownAt s count t is = (vars : List (PureBind CardValue)) → length vars ≡ count → test_value s vars t ≡ is

-- whether one of a domain, or each, passes a test, whatever the variable's word
abbrev pub IsKnownOver : PureScene CardValue → ℕ → Bool → Domain → Test → Bool → Type 0
IsKnownOver s count any domain t is =
    (bound : ℕ) → IsKnownAt s count (if any then any_of domain bound t else all_of domain bound t) is

-- the opposite, or the same
abbrev pub turned : Bool → Bool → Bool
turned opposite holds = if opposite then not holds else holds

abbrev pub IsTurned : Bool → Test → Test → Type 0
IsTurned opposite t t' = (s : PureScene CardValue) (vars : List (PureBind CardValue)) →
    test_value s vars t' ≡ turned opposite (test_value s vars t)

-- what is at hand of a test of the innermost variable's card
abbrev pub IsAtHand : PureScene CardValue → List (PureBind CardValue) → Test → AtHand → Type 0
IsAtHand s vars t (OfCard wanted) = IsWanted s vars t wanted
IsAtHand s vars t (Holds holds) = IsKnownAt s (length vars + 1) t holds
IsAtHand s vars t Unclear = Unit {0}

abbrev pub wanted_turned : Bool → SoughtValue → SoughtValue
wanted_turned opposite wanted =
    record { name = wanted.name; value = wanted.value; equal = turned opposite wanted.equal }

abbrev pub hand_turned : Bool → AtHand → AtHand
hand_turned opposite (OfCard wanted) = OfCard (wanted_turned opposite wanted)
hand_turned opposite (Holds holds) = Holds (turned opposite holds)
hand_turned opposite Unclear = Unclear
