-- Guards of one domain, in parts.
use Rattle.std.specs.Prelude.{◌≡◌, ℕ, ◌+◌, ◌≤◌, ◌++◌, ◌∷◌, [], map, Bool, true, false, if◌then◌else◌, List, length, slice_index_or, Some, None, All}
use Rattle.std.specs.List.{list_any, list_all}
use Rattle.rc_sheet_spec.specs.Sheet.{Test}
use Rattle.rc_play_spec.specs.Value.{Scene as PureScene, Bind as PureBind, card_bound, both, nat_same, test_value}
use Rattle.rc_play_spec.specs.Scene.{CardValue, id_of}
use Rattle.rc_ast.specs.Expressions.{test_seen}
use Rattle.rc_code.specs.Guards.{part_meant}
use Rattle.rc_code.specs.declared.guards.GuardPart.{GuardPart}
use Rattle.rc_code.specs.declared.guards.Joint.{Joint}
use Rattle.rc_code.specs.declared.guards.Joint.TheVariants.{Any}
use Rattle.rc_menu.specs.declared.asks.SoughtCard.{SoughtCard}
use Rattle.rc_menu.specs.declared.asks.SoughtCard.TheVariants.{Worth, Whole, Value, CardTest}
use Rattle.rc_menu.specs.declared.asks.Parts.{Parts}
use Rattle.rc_value.specs.Depth.{test_depth}
use Rattle.rc_value.specs.Sought.{worth_value}
use Rattle.rc_value.specs.Wanted.{compares}

-- the answer for a card that the innermost variable stands for
abbrev pub ask_value : PureScene CardValue → List (PureBind CardValue) → CardValue → SoughtCard → Bool
ask_value s vars c (Worth w) = worth_value s w c
ask_value s vars c (Value value row) = both nat_same (slice_index_or row.now (id_of c) None) (Some value)
ask_value s vars c (CardTest equal value row) = compares equal value (slice_index_or row.now (id_of c) None)
ask_value s vars c (Whole t) = test_value s (vars ++ card_bound c ∷ []) (test_seen t.now)

-- whether a card's value is all that is asked, and then the answer for the card with an id
abbrev pub asks_value : SoughtCard → Bool
asks_value (Value value row) = true
asks_value (CardTest equal value row) = true
asks_value (Worth w) = false
asks_value (Whole t) = false

abbrev pub met_value : ℕ → SoughtCard → Bool
met_value id (Value value row) = both nat_same (slice_index_or row.now id None) (Some value)
met_value id (CardTest equal value row) = compares equal value (slice_index_or row.now id None)
met_value id (Worth w) = false
met_value id (Whole t) = false

-- how many variables it binds, the innermost one counted
abbrev pub ask_depth : SoughtCard → ℕ
ask_depth (Worth w) = 0
ask_depth (Value value row) = 0
ask_depth (CardTest equal value row) = 0
ask_depth (Whole t) = 1 + test_depth (test_seen t.now)

-- whether a scope has room for all of them
abbrev pub AllFit : List (PureBind CardValue) → List SoughtCard → Type 0
AllFit vars asks = All (λ ask. length vars + ask_depth ask ≤ 5) asks

-- whether one of the answers is yes, or all are
abbrev pub joined : Bool → List Bool → Bool
joined any answers = if any then list_any (λ b. b) answers else list_all (λ b. b) answers

-- what a test says, of each card
abbrev pub told_of : PureScene CardValue → List (PureBind CardValue) → Test → CardValue → Bool
told_of s vars t c = test_value s (vars ++ card_bound c ∷ []) t

-- whether one part of a guard is enough
abbrev pub one_suffices : Joint → Bool
one_suffices Any = true
one_suffices joint = false

-- what parts of a guard say, of each card
abbrev pub parts_told : PureScene CardValue → List (PureBind CardValue) → List GuardPart → CardValue → List Bool
parts_told s vars parts c = map (λ part. told_of s vars (part_meant part) c) parts

-- a test joined to what was asked before it, and whatever is asked behind it: it settles all, or it is asked
abbrev pub IsJoined : PureScene CardValue → List (PureBind CardValue) → Test → Bool → Bool → List SoughtCard →
    List SoughtCard → Type 0
IsJoined s vars t any settled old new =
    (c : CardValue) (more : List Bool) → joined any (map (ask_value s vars c) old ++ told_of s vars t c ∷ more)
    ≡ (if settled then any else joined any (map (ask_value s vars c) new ++ more))

-- a guard in parts: what doesn't read the variable settles it, or the rest is asked
abbrev pub IsInParts : PureScene CardValue → List (PureBind CardValue) → Test → Parts → List SoughtCard → Type 0
IsInParts s vars t parts asks =
    (c : CardValue) →
    told_of s vars t c ≡ (if parts.settled then parts.any else joined parts.any (map (ask_value s vars c) asks))
