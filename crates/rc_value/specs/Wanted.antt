-- Values that cards are to have.
use Rattle.std.specs.Prelude.{◌≡◌, ℕ, ◌++◌, ◌∷◌, [], not, Bool, if◌then◌else◌, List, length, Option}
use Rattle.rc_sheet_spec.specs.Sheet.{Who, CardExpr, CollExpr, Test}
use Rattle.rc_play_spec.specs.Value.{Scene as PureScene, Bind as PureBind, card_bound, attr_of, both, nat_same, who_value, card_value, coll_value, test_value, Known}
use Rattle.rc_play_spec.specs.Scene.{CardValue}
use Rattle.rc_value.specs.declared.wanted.SoughtValue.{SoughtValue}

-- whether a value for the attribute is the one that is wanted, or isn't
abbrev pub compares : Bool → Option ℕ → Option ℕ → Bool
compares equal wanted value = if equal then both nat_same value wanted else not (both nat_same value wanted)

abbrev pub meets : SoughtValue → Option ℕ → Bool
meets w value = compares w.equal w.value value

-- whether a card's value is so
abbrev pub wanted_value : PureScene CardValue → SoughtValue → CardValue → Bool
wanted_value s w c = meets w (attr_of s w.name c)

-- the opposite
abbrev pub turned : SoughtValue → SoughtValue
turned w = record { name = w.name; value = w.value; equal = not w.equal }

-- whether it is what a test says of the card that the innermost variable stands for
abbrev pub IsWanted : PureScene CardValue → List (PureBind CardValue) → Test → SoughtValue → Type 0
IsWanted s vars t w = (c : CardValue) → test_value s (vars ++ card_bound c ∷ []) t ≡ wanted_value s w c

-- the same in all scopes of so many variables
abbrev pub IsWantedAt : PureScene CardValue → ℕ → Test → SoughtValue → Type 0
IsWantedAt s place t w = (vars : List (PureBind CardValue)) → length vars ≡ place → IsWanted s vars t w

-- what is the same whatever variables stand for: an owner, a collection, a card
abbrev pub IsFixedOwner : Who → Type 0
IsFixedOwner who =
    (known : Known) (vars vars' : List (PureBind CardValue)) → who_value known vars who ≡ who_value known vars' who

abbrev pub IsFixedCollection : CollExpr → Type 0
IsFixedCollection cards = (s : PureScene CardValue) (vars vars' : List (PureBind CardValue)) →
    coll_value s vars cards ≡ coll_value s vars' cards

abbrev pub IsFixed : CardExpr → Type 0
IsFixed card = (s : PureScene CardValue) (vars vars' : List (PureBind CardValue)) →
    card_value s vars card ≡ card_value s vars' card
