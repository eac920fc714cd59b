-- What the parts of a guard stand for, and of which alternatives a guard in parts is the guard.
use Rattle.std.specs.Prelude.{◌≡◌, ℕ, List, [], ◌∷◌, map, Bool, true, All, ⊤, if◌then◌else◌}
use Rattle.rc_sheet_spec.specs.Sheet.{Alt, Effects, Test, Who, game, current_player, current_team, team_of_current, team_of_var, who_var, Loc, card_var, top_card, cards_in, eq_attr, all_of, any_of, Domain, each_card, has_value, ne, not_of, and_of, or_of, any_alt, if_alt}
use Rattle.rc_sheet_spec.specs.Lists.{tests_from}
use Rattle.rc_ast.specs.Names.{loc_seen, num_seen}
use Rattle.rc_code.specs.declared.amounts.Amount.{Amount}
use Rattle.rc_code.specs.declared.amounts.Amount.TheVariants.{Literal, Number, Size, Worth}
use Rattle.rc_code.specs.declared.atoms.Comparison.{Comparison}
use Rattle.rc_code.specs.declared.atoms.Comparison.TheVariants.{Compare, Same}
use Rattle.rc_code.specs.FlatMeaning.{comparison_meant}
use Rattle.rc_code.specs.Following.{Follows}
use Rattle.rc_code.specs.declared.guards.Sense.{Sense}
use Rattle.rc_code.specs.declared.guards.Sense.TheVariants.{Plain, Ne, Not}
use Rattle.rc_code.specs.declared.guards.CardTest.{CardTest}
use Rattle.rc_code.specs.declared.guards.CardTest.TheVariants.{Value, Against}
use Rattle.rc_code.specs.declared.guards.GuardTest.{GuardTest}
use Rattle.rc_code.specs.declared.guards.GuardTest.TheVariants.{Known, OfCard, Top, Among}
use Rattle.rc_code.specs.declared.guards.GuardPart.{GuardPart}
use Rattle.rc_code.specs.declared.guards.Joint.{Joint}
use Rattle.rc_code.specs.declared.guards.Joint.TheVariants.{Sole, All as AllOfThem, Any}
use Rattle.rc_code.specs.declared.guards.Guard.{Guard}

-- the test of the card of the variable at a place
abbrev pub card_test_meant : ℕ → CardTest → Test
card_test_meant place (Value name value) = has_value (card_var place) name value
card_test_meant place (Against name against other) =
    eq_attr (card_var place) name (top_card (cards_in (loc_seen against))) other

abbrev pub in_sense : Sense → Test → Test
in_sense Plain t = t
in_sense Ne t = ne t
in_sense Not t = not_of t

-- one of a domain passes a test, or each does
abbrev pub over_domain : Bool → Domain → ℕ → Test → Test
over_domain any domain bound t = if any then any_of domain bound t else all_of domain bound t

abbrev pub guard_test_meant : GuardTest → Test
guard_test_meant (Known comparison) = comparison_meant comparison
guard_test_meant (OfCard card_test) = card_test_meant 0 card_test
guard_test_meant (Top at name value) = has_value (top_card (cards_in (loc_seen at))) name value
guard_test_meant (Among any among bound sense card_test) =
    over_domain any (each_card (cards_in (loc_seen among))) bound (in_sense sense (card_test_meant 1 card_test))

abbrev pub part_meant : GuardPart → Test
part_meant part = in_sense part.sense (guard_test_meant part.guard_test)

-- Tests in one. A sole one stands for itself; where there are more of them, or none, all are to hold.
abbrev pub joined_tests : Joint → List Test → Test
joined_tests Any ts = or_of (tests_from ts)
joined_tests AllOfThem ts = and_of (tests_from ts)
joined_tests Sole (t ∷ []) = t
joined_tests Sole ts = and_of (tests_from ts)

abbrev pub guard_meant : Guard → Test
guard_meant guard = joined_tests guard.joint (map part_meant guard.parts.items)

-- an owner that no variable stands for, and a location of such an owner
abbrev pub IsFixedWho : Who → Type 0
IsFixedWho game = ⊤
IsFixedWho current_player = ⊤
IsFixedWho current_team = ⊤
IsFixedWho team_of_current = ⊤
IsFixedWho (team_of_var var) = ⊥
IsFixedWho (who_var var) = ⊥

abbrev pub IsFixedLoc : Loc → Type 0
IsFixedLoc loc = IsFixedWho loc.who

-- that no variable owns any location or number of what is asked
abbrev pub IsFixedAmount : Amount → Type 0
IsFixedAmount (Literal value) = ⊤
IsFixedAmount (Number num) = IsFixedWho (num_seen num).who
IsFixedAmount (Size loc) = IsFixedLoc (loc_seen loc)
IsFixedAmount (Worth loc map) = IsFixedLoc (loc_seen loc)

abbrev pub IsFixedComparison : Comparison → Type 0
IsFixedComparison (Compare how one other) = IsFixedAmount one × IsFixedAmount other
IsFixedComparison (Same one name other other_name) = IsFixedLoc (loc_seen one) × IsFixedLoc (loc_seen other)

abbrev pub IsFixedCardTest : CardTest → Type 0
IsFixedCardTest (Value name value) = ⊤
IsFixedCardTest (Against name against other) = IsFixedLoc (loc_seen against)

abbrev pub IsFixedGuardTest : GuardTest → Type 0
IsFixedGuardTest (Known comparison) = IsFixedComparison comparison
IsFixedGuardTest (OfCard card_test) = IsFixedCardTest card_test
IsFixedGuardTest (Top at name value) = IsFixedLoc (loc_seen at)
IsFixedGuardTest (Among any among bound sense card_test) = IsFixedLoc (loc_seen among) × IsFixedCardTest card_test

abbrev pub IsFixedPart : GuardPart → Type 0
IsFixedPart part = IsFixedGuardTest part.guard_test

-- a test of a card, a test of a guard and a part that stand for a test, and of which no variable owns any location
abbrev pub IsCardTestOf : ℕ → Test → CardTest → Type 0
IsCardTestOf place t card_test = (card_test_meant place card_test ≡ t) × IsFixedCardTest card_test

abbrev pub IsGuardTestOf : Test → GuardTest → Type 0
IsGuardTestOf t guard_test = (guard_test_meant guard_test ≡ t) × IsFixedGuardTest guard_test

abbrev pub IsPartOf : Test → GuardPart → Type 0
IsPartOf t part = (part_meant part ≡ t) × IsFixedPart part

-- a guard of which no variable owns any location, and which is known to follow only where it does
abbrev pub IsFixedGuard : Guard → Type 0
IsFixedGuard guard =
    IsFixedLoc (loc_seen guard.loc) × All IsFixedPart guard.parts.items
    × (guard.follows ≡ true → Follows (loc_seen guard.loc) guard.joint guard.parts.items)

-- Whether an alternative outside all binders offers the cards of a location for which this guard holds. The number of the
-- variable's word and the effects are those of the alternative.
abbrev pub IsGuardOf : Alt → Guard → Type 0
IsGuardOf alt guard =
    (bound : ℕ) × (effects : Effects)
    × (alt ≡ any_alt (each_card (cards_in (loc_seen guard.loc))) bound (if_alt (guard_meant guard) effects))
    × IsFixedGuard guard
