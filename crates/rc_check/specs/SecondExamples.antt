-- Texts whose first fault is known, to try the definitions on. A `^` marks the byte behind it, and is no byte of the form.
use Prim.Native.String.{String}
use Rattle.std.specs.Prelude.{◌≡◌, ℕ, ◌+◌, ◌-◌, ◌==◌, nat_lt, Bool, true, false, not, if◌then◌else◌, List, [], ◌∷◌, ◌++◌, filter, map, position, unwrap_or, codes, Some, None}
use Rattle.rc_base.specs.Tree.{word, list, Trees, nil, cons}
use Rattle.rc_sheet_spec.specs.Examples.{form_of}
use Rattle.rc_base.specs.Numbers.{below}
use Rattle.rc_check.specs.SecondParts.{given_value, standing_alone, Part, atom, form}
use Rattle.rc_check.specs.SecondFaults.{is_too_many, second_faults, sheet_fault}
use Rattle.rc_check.specs.declared.grammar.Rule.{Rule}
use Rattle.rc_check.specs.declared.grammar.Rule.TheVariants as rule
use Rattle.rc_check.specs.declared.fault.SheetKind.{SheetKind}

abbrev pub unmarked : List ℕ → List ℕ
unmarked text = filter (λ b. not (b == 94)) text

abbrev pub mark : List ℕ → ℕ
mark text = unwrap_or (position (λ b. b == 94) text) 0

-- the form of the text has this fault first, at the mark
abbrev pub Refused : SheetKind → List ℕ → Type 0
Refused kind text = sheet_fault (form_of (unmarked text)) ≡ Some (record { kind = kind; at = mark text })

-- the form of the text has no fault
abbrev pub Accepted : List ℕ → Type 0
Accepted text = sheet_fault (form_of text) ≡ None

-- all faults of the second round in the form of the text are of these kinds
abbrev pub AllFaults : List SheetKind → List ℕ → Type 0
AllFaults kinds text = map (λ fault. fault.kind) (second_faults (form_of text)) ≡ kinds

-- a text with these setup lines, items and score
abbrev pub whole : List ℕ → List ℕ → List ℕ → List ℕ
whole lines items score = codes "(game (setup " ++ lines ++ codes ") " ++ items ++ codes " (scoring max " ++ score ++ codes "))"

-- two players, a deck and a point map
abbrev pub setup : List ℕ
setup = codes "(create players 2) (create deck (game hloc S) (deck (R (1 2)))) (put points W ((R (1) 1)))"

-- something in a stage of players
abbrev pub in_stage : List ℕ → List ℕ
in_stage text = codes "(stage player (end (= 0 0)) " ++ text ++ codes ")"

-- these lines; these items; this item, this effect, this test and this alternative in a stage of players; this score
abbrev pub lines_of : List ℕ → List ℕ
lines_of text = whole text (in_stage (codes "(do (cycle reverse))")) (codes "0")

abbrev pub lines : String → List ℕ
lines text = lines_of (codes text)

-- these lines and then a deck, and a deck of these groups
abbrev pub decked : String → List ℕ
decked text = lines_of (codes text ++ codes " (create deck (game hloc S) (deck (R (1))))")

abbrev pub groups : String → List ℕ
groups text = lines_of (codes "(create players 2) (create deck (game hloc S) (deck " ++ codes text ++ codes "))")

-- these lines alone, of which the setup list is marked
abbrev pub bare : String → List ℕ
bare text = codes "(game ^(setup " ++ codes text ++ codes ") (do (shuffle (game vloc X))) (scoring max 0))"

abbrev pub items : String → List ℕ
items text = whole setup (codes text) (codes "0")

abbrev pub item : String → List ℕ
item text = whole setup (in_stage (codes text)) (codes "0")

abbrev pub effect : String → List ℕ
effect text = whole setup (in_stage (codes "(do " ++ codes text ++ codes ")")) (codes "0")

abbrev pub test : String → List ℕ
test text = whole setup (in_stage (codes "(do (if " ++ codes text ++ codes " (cycle reverse)))")) (codes "0")

abbrev pub alternative : String → List ℕ
alternative text = whole setup (in_stage (codes "(choice " ++ codes text ++ codes ")")) (codes "0")

abbrev pub score : String → List ℕ
score text = whole setup (codes "(do (shuffle (game hloc S)))") (codes text)

-- Parts that are made and not read. Their names are numbers, so that there may be many of them.
abbrev pub atoms : List (List ℕ) → Trees
atoms [] = nil
atoms (bytes ∷ others) = cons (word bytes 0 0) (atoms others)

abbrev pub made : Rule → List (List ℕ) → Part
made rule words = form standing_alone rule (atoms words) 0

-- a location or a number of this owner, and a point map; a location of a team; a group or an entry; a value; a stage or a
-- choice
abbrev pub third_named : Rule → String → ℕ → Part
third_named rule owner n = made rule (codes owner ∷ codes "vloc" ∷ (n ∷ []) ∷ [])

abbrev pub of_team : ℕ → Part
of_team n =
    form standing_alone rule.Location (cons (list (atoms (codes "current" ∷ codes "team" ∷ [])) 0 0) (atoms (codes "vloc" ∷ (n ∷ []) ∷ []))) 0

abbrev pub first_named : Rule → ℕ → Part
first_named rule n = made rule ((n ∷ []) ∷ [])

abbrev pub value : ℕ → Part
value n = atom (record standing_alone { role = given_value }) (n ∷ []) 0

abbrev pub plain : Rule → ℕ → Part
plain rule n = made rule []

-- a location of references that is the game's
abbrev pub references : ℕ → Part
references n = made rule.Location (codes "game" ∷ codes "mem" ∷ (n ∷ []) ∷ [])

-- the first parts below a number, and the second from it on
abbrev pub switched : ℕ → (ℕ → Part) → (ℕ → Part) → ℕ → Part
switched at first second n = if nat_lt n at then first n else second n

-- eight players, and two teams of them
abbrev pub eight : List Part
eight = made rule.CreatePlayers (codes "create" ∷ codes "players" ∷ codes "8" ∷ []) ∷ []

abbrev pub two_teams : List Part
two_teams = made rule.CreateTeams (codes "create" ∷ codes "teams" ∷ [] ∷ [] ∷ []) ∷ eight

-- In a form of these parts, the part of this number passes a limit, behind those of smaller numbers.
abbrev pub passes_at : List Part → (ℕ → Part) → ℕ → Bool
passes_at all part n = is_too_many all (map part (below n)) (part n)

-- It is the one that does, of those about it.
abbrev pub FirstAt : List Part → (ℕ → Part) → ℕ → Type 0
FirstAt all part n =
    (passes_at all part (n - 1) ≡ false) × (passes_at all part n ≡ true) × (passes_at all part (n + 1) ≡ false)

-- a part behind so many doesn't pass a limit, which is reached
abbrev pub Fits : List Part → (ℕ → Part) → ℕ → Part → Type 0
Fits all part n last = is_too_many all (map part (below n)) last ≡ false
