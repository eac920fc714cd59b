-- Tests of all players that compare what each has with a number that is the same for all.
use Rattle.std.specs.Prelude.{◌≡◌, ℕ, ℤ, pos, int_lt, int_le, ◌++◌, ◌∷◌, [], Bool, List, Option, length, map}
use Rattle.std.specs.Ordering.{int_eq}
use Rattle.rc_sheet_spec.specs.Sheet.{player_class, IntExpr, Sheet, Test}
use Rattle.rc_play_spec.specs.Owners.{place_among}
use Rattle.rc_play_spec.specs.Value.{Scene as PureScene, Bind as PureBind, player_bound, number_there, cards_there, cut, int_value, test_value}
use Rattle.rc_play_spec.specs.Scene.{CardValue}
use Rattle.rc_code.specs.declared.atoms.Comparator.{Comparator}
use Rattle.rc_code.specs.declared.atoms.Comparator.TheVariants.{Equal, Less, AtMost, More, AtLeast}
use Rattle.rc_value.specs.declared.comparing.Own.{Own}
use Rattle.rc_value.specs.declared.comparing.Own.TheVariants.{Number, Size}
use Rattle.rc_value.specs.declared.comparing.SoughtNumber.{SoughtNumber}

-- whether a number compares so with another
abbrev pub compare : Comparator → ℤ → ℤ → Bool
compare Equal one other = int_eq one other
compare Less one other = int_lt one other
compare AtMost one other = int_le one other
compare More one other = int_lt other one
compare AtLeast one other = int_le other one

-- the same comparison, told of the other number
abbrev pub turned : Comparator → Comparator
turned Equal = Equal
turned Less = More
turned AtMost = AtLeast
turned More = Less
turned AtLeast = AtMost

-- the place of what a player has of a name: of a number, or of a location
abbrev pub place_held : Sheet → Own → ℕ → Option ℕ
place_held sheet (Number name) player = place_among sheet player_class (map (λ n. n.class) sheet.nums) name player
place_held sheet (Size name) player = place_among sheet player_class (map (λ l. l.class) sheet.locs) name player

-- what stands at a place: a number, or so many cards, and 0 where there is no place
abbrev pub held_at : PureScene CardValue → Own → Option ℕ → ℤ
held_at s (Number name) at = number_there s.known.numbers at
held_at s (Size name) at = pos (length (cut (cards_there s at)))

-- what he has of a name
abbrev pub held : PureScene CardValue → Own → ℕ → ℤ
held s own player = held_at s own (place_held s.known.sheet own player)

-- whether it compares as it is to
abbrev pub suits : PureScene CardValue → SoughtNumber → ℕ → Bool
suits s w player = compare w.how (held s w.own player) w.against

-- a number that is what the player has that the innermost variable stands for, inside so many others
abbrev pub IsHisOwn : ℕ → IntExpr → Own → Type 0
IsHisOwn place e own =
    (s : PureScene CardValue) (vars : List (PureBind CardValue)) (player : ℕ) → length vars ≡ place →
    int_value s (vars ++ player_bound player ∷ []) e ≡ held s own player

-- a test that compares one number so with another
abbrev pub IsComparison : IntExpr → Comparator → IntExpr → Test → Type 0
IsComparison a how b t =
    (s : PureScene CardValue) (vars : List (PureBind CardValue)) →
    test_value s vars t ≡ compare how (int_value s vars a) (int_value s vars b)

-- a number that is the same whatever the innermost variable stands for
abbrev pub IsSameForAll : PureScene CardValue → List (PureBind CardValue) → IntExpr → ℤ → Type 0
IsSameForAll s vars e n = (m : PureBind CardValue) → int_value s (vars ++ m ∷ []) e ≡ n

-- two numbers, which compare so where his number is as it is to be
abbrev pub ArePaired : PureScene CardValue → List (PureBind CardValue) → IntExpr → Comparator →
    IntExpr → SoughtNumber → Type 0
ArePaired s vars a how b w =
    (player : ℕ) →
    compare how (int_value s (vars ++ player_bound player ∷ []) a)
    (int_value s (vars ++ player_bound player ∷ []) b) ≡ suits s w player

-- a test that asks this of him
abbrev pub IsSuited : PureScene CardValue → List (PureBind CardValue) → Test → SoughtNumber → Type 0
IsSuited s vars t w = (player : ℕ) → test_value s (vars ++ player_bound player ∷ []) t ≡ suits s w player
