-- Guards that a card meets which passes a test, or each card where none passes it: so a suit is followed.
use Rattle.std.specs.Prelude.{◌≡◌, ℕ, ◌||◌, ◌++◌, ◌∷◌, [], not, Bool, true, List, Option, Some, None, slice_index_or, MatchOption}
use Rattle.std.specs.List.{list_any}
use Rattle.rc_sheet_spec.specs.Sheet.{cards_in}
use Rattle.rc_play_spec.specs.Scene.{CardValue}
use Rattle.rc_play_spec.specs.Value.{Scene as PureScene, coll_value, both, nat_same}
use Rattle.rc_ast.specs.Names.{loc_seen}
use Rattle.rc_code.specs.declared.guards.CardTest.{CardTest}
use Rattle.rc_code.specs.declared.guards.Guard.{Guard}
use Rattle.rc_code.specs.declared.guards.GuardPart.{GuardPart}
use Rattle.rc_code.specs.Guards.{card_test_meant, guard_meant}
use Rattle.rc_menu.specs.declared.following.Split.{Split}
use Rattle.rc_menu.specs.Asks.{joined, one_suffices, parts_told, told_of}

-- whether a member passes, or none of all
abbrev pub passes_or_none : {M : Type 0} → (M → Bool) → List M → M → Bool
passes_or_none passes members m = passes m || not (list_any passes members)

-- whether the card with an id has this value
abbrev pub has_value_in : List (Option ℕ) → ℕ → ℕ → Bool
has_value_in row value id = both nat_same (slice_index_or row id None) (Some value)

-- whether a card passes a test, outside all binders
abbrev pub passes_test : PureScene CardValue → CardTest → CardValue → Bool
passes_test s card_test c = told_of s [] (card_test_meant 0 card_test) c

-- a guard that a card meets where one of these parts holds, or it passes a test, or none of the cards does
abbrev pub Follows : Guard → List GuardPart → CardTest → Type 0
Follows guard parts card_test =
    (one_suffices guard.joint ≡ true)
    × ((s : PureScene CardValue) (c : CardValue) →
    told_of s [] (guard_meant guard) c
    ≡ joined true (parts_told s [] parts c
    ++ passes_or_none (passes_test s card_test) (coll_value s [] (cards_in (loc_seen guard.loc))) c ∷ []))

-- the parts of a guard that are asked first: all of it, or all but such a test
abbrev pub IsSplit : Guard → Split → Type 0
IsSplit guard split = MatchOption split.then (split.parts.now ≡ guard.parts.items)
    (λ card_test. Follows guard split.parts.now card_test.now)
