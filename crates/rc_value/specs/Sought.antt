-- What is sought in cards.
use Rattle.std.specs.Prelude.{◌≡◌, ◌++◌, ◌∷◌, [], not, Bool, if◌then◌else◌, List, Option, Some, option_map}
use Rattle.rc_sheet_spec.specs.Sheet.{Test}
use Rattle.rc_play_spec.specs.Shape.{face_eq}
use Rattle.rc_play_spec.specs.Value.{Scene as PureScene, Bind as PureBind, card_bound, both, worth, test_value}
use Rattle.rc_play_spec.specs.Scene.{CardValue}
use Rattle.rc_value.specs.Cards.{value_seen}
use Rattle.rc_value.specs.Comparing.{compare}
use Rattle.rc_value.specs.Wanted.{wanted_value, turned}
use Rattle.rc_value.specs.declared.sought.SoughtFace.{SoughtFace}
use Rattle.rc_value.specs.declared.sought.Sought.{Sought}
use Rattle.rc_value.specs.declared.sought.Sought.TheVariants.{Value, Face, Worth}
use Rattle.rc_value.specs.declared.sought.SoughtWorth.{SoughtWorth}

-- whether a card has the face of another one, if there is one
abbrev pub has_face : PureScene CardValue → Option CardValue → CardValue → Bool
has_face s other c = both face_eq (Some (s.face c)) (option_map s.face other)

-- whether its face is as it is sought
abbrev pub face_value : PureScene CardValue → SoughtFace → CardValue → Bool
face_value s l c =
    if l.equal then has_face s (option_map value_seen l.card) c else not (has_face s (option_map value_seen l.card) c)

-- whether what it is worth compares as it is to
abbrev pub worth_value : PureScene CardValue → SoughtWorth → CardValue → Bool
worth_value s w c =
    if w.equal then compare w.how (worth s w.map c) w.against else not (compare w.how (worth s w.map c) w.against)

-- whether a card is as it is sought
abbrev pub sought_value : PureScene CardValue → Sought → CardValue → Bool
sought_value s (Value wanted) c = wanted_value s wanted c
sought_value s (Face likeness) c = face_value s likeness c
sought_value s (Worth w) c = worth_value s w c

-- the opposite
abbrev pub reversed : Sought → Sought
reversed (Value wanted) = Value (turned wanted)
reversed (Face likeness) = Face (record { card = likeness.card; equal = not likeness.equal })
reversed (Worth w) = Worth (record { map = w.map; how = w.how; against = w.against; equal = not w.equal })

-- whether it is what a test says of the card that the innermost variable stands for
abbrev pub IsSought : PureScene CardValue → List (PureBind CardValue) → Test → Sought → Type 0
IsSought s vars t sought = (c : CardValue) → test_value s (vars ++ card_bound c ∷ []) t ≡ sought_value s sought c
