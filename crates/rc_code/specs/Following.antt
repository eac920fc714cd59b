-- Guards as those of games in which a suit is followed: their last two parts say that a card passes a test, or that
-- none of the location's cards does.
use Rattle.std.specs.Prelude.{◌≡◌, ◌++◌, ◌∷◌, [], true, List}
use Rattle.rc_sheet_spec.specs.Sheet.{Loc}
use Rattle.rc_ast.specs.Names.{loc_seen}
use Rattle.rc_code.specs.declared.guards.Sense.{Sense}
use Rattle.rc_code.specs.declared.guards.Sense.TheVariants.{Plain, Not}
use Rattle.rc_code.specs.declared.guards.CardTest.{CardTest}
use Rattle.rc_code.specs.declared.guards.CardTest.TheVariants.{Value, Against}
use Rattle.rc_code.specs.declared.guards.GuardTest.{GuardTest}
use Rattle.rc_code.specs.declared.guards.GuardTest.TheVariants.{OfCard, Among}
use Rattle.rc_code.specs.declared.guards.GuardPart.{GuardPart}
use Rattle.rc_code.specs.declared.guards.Joint.{Joint}
use Rattle.rc_code.specs.declared.guards.Joint.TheVariants.{Any}

-- two locations that are one, wherever their forms stand
abbrev pub AreSamePlaces : Loc → Loc → Type 0
AreSamePlaces one other = (one.who ≡ other.who) × (one.name ≡ other.name)

-- tests that ask the same of a card
abbrev pub AskTheSame : CardTest → CardTest → Type 0
AskTheSame (Value name value) (Value name' value') = (name ≡ name') × (value ≡ value')
AskTheSame (Against name against other) (Against name' against' other') =
    (name ≡ name') × AreSamePlaces (loc_seen against) (loc_seen against') × (other ≡ other')
AskTheSame one other = ⊥

-- that none of a location's cards passes a test
abbrev pub SaysNone : Loc → CardTest → Sense → GuardTest → Type 0
SaysNone loc card_test Not (Among true among bound Plain asked) =
    AreSamePlaces loc (loc_seen among) × AskTheSame card_test asked
SaysNone loc card_test sense guard_test = ⊥

-- one part is enough, and the last two are such ones
abbrev pub Follows : Loc → Joint → List GuardPart → Type 0
Follows loc joint parts =
    (joint ≡ Any)
    × (first : List GuardPart) × (card_test : CardTest) × (last : GuardPart)
    × (parts ≡ first ++ record { sense = Plain; guard_test = OfCard card_test } ∷ last ∷ [])
    × SaysNone loc card_test last.sense last.guard_test
