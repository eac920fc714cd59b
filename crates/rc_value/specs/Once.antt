-- What is read once for all cards that a variable runs over: it is the same whatever the variable stands for.
use Rattle.std.specs.Prelude.{◌≡◌, ℕ, ◌++◌, ◌∷◌, [], true, List, length, Option, option_map}
use Rattle.rc_sheet_spec.specs.Sheet.{Who, CardExpr, CollExpr, IntExpr, Test}
use Rattle.rc_play_spec.specs.Ends.{last_of}
use Rattle.rc_play_spec.specs.Scene.{CardValue}
use Rattle.rc_play_spec.specs.Value.{Scene as PureScene, Bind as PureBind, Known, who_value, attr_of_any, card_value}
use Rattle.rc_play_spec.specs.Value.{card_bound, coll_value, int_value, test_value, worth}
use Rattle.rc_code.specs.declared.atoms.Comparator.{Comparator}
use Rattle.rc_value.specs.Cards.{value_seen}
use Rattle.rc_value.specs.Comparing.{compare}
use Rattle.rc_value.specs.declared.cards.Card.{Card}
use Rattle.rc_value.specs.declared.sought.Sought.{Sought}
use Rattle.rc_value.specs.declared.sought.Sought.TheVariants.{Value, Face}

-- an owner, a card, and the card at the top of a collection
abbrev pub IsOuterOwner : ℕ → Who → Type 0
IsOuterOwner count who =
    (known : Known) (vars : List (PureBind CardValue)) (m : PureBind CardValue) → length vars ≡ count →
    who_value known (vars ++ m ∷ []) who ≡ who_value known vars who

abbrev pub IsCardOnce : PureScene CardValue → List (PureBind CardValue) → CardExpr → Option Card → Type 0
IsCardOnce s vars e card = (m : PureBind CardValue) → option_map value_seen card ≡ card_value s (vars ++ m ∷ []) e

abbrev pub IsTopOnce : PureScene CardValue → List (PureBind CardValue) → CollExpr → Option Card → Type 0
IsTopOnce s vars cards card =
    (m : PureBind CardValue) → option_map value_seen card ≡ last_of (coll_value s (vars ++ m ∷ []) cards)

-- a test that compares what the card of the variable at a place is worth so with a number
abbrev pub IsWorthCompared : ℕ → Test → ℕ → Comparator → IntExpr → Type 0
IsWorthCompared place t map how other =
    (s : PureScene CardValue) (vars : List (PureBind CardValue)) (c : CardValue) → length vars ≡ place →
    test_value s (vars ++ card_bound c ∷ []) t
    ≡ compare how (worth s map c) (int_value s (vars ++ card_bound c ∷ []) other)

-- to have a card's value, or its face
abbrev pub valued : PureScene CardValue → ℕ → ℕ → Option Card → Sought
valued s name other card =
    Value (record { name = name; value = attr_of_any s other (option_map value_seen card); equal = true })

abbrev pub alike : Option Card → Sought
alike card = Face (record { card = card; equal = true })
