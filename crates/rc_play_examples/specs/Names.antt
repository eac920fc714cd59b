-- Sheets whose names are numbered by hand, and words by their text.
use Prim.Native.String.{String}
use Rattle.std.specs.Prelude.{ℕ, List, [], ◌∷◌, codes}
use Rattle.rc_base.specs.Token.{Token, opening, closing, atom, odd, tokens}
use Rattle.rc_sheet_spec.specs.Sheet.{LocKind, Class, LocName, NumName}

abbrev atoms : List Token → List (List ℕ)
atoms [] = []
atoms (atom at bytes ∷ ts) = bytes ∷ atoms ts
atoms (opening at ∷ ts) = atoms ts
atoms (closing at ∷ ts) = atoms ts
atoms (odd at ∷ ts) = atoms ts

-- the words of a text
abbrev pub words : String → List (List ℕ)
words text = atoms (tokens (codes text))

abbrev pub loc : ℕ → LocKind → Class → LocName
loc name kind class = record { name = name; kind = kind; class = class }

abbrev pub num : ℕ → Class → NumName
num name class = record { name = name; class = class }

-- decks come before points, wherever their lines stand
abbrev pub decks_first : List ℕ
decks_first =
    codes "(game (setup (put points M ((B (y) 1))) (create players 2) (create deck (game hloc S) (deck (A (x))))) (do (shuffle (game hloc S))) (scoring max 0))"

-- lines of one kind stay in their order
abbrev pub lines_in_order : List ℕ
lines_in_order =
    codes "(game (setup (put points M ((C (z) 1))) (create deck (game hloc S) (deck (B (y)))) (put points L ((D (w) 1))) (create deck (game vloc R) (deck (A (x)))) (create players 2)) (do (shuffle (game hloc S))) (scoring max 0))"

-- a value comes before the groups below it, and an attribute before its branches
abbrev pub branches_in_order : List ℕ
branches_in_order =
    codes "(game (setup (create deck (game hloc S) (deck (A (x (y (B (z w)) (C (v))) u)) (D (t)))) (create players 2)) (do (shuffle (game hloc S))) (scoring max 0))"

-- each word is numbered once
abbrev pub words_once : List ℕ
words_once =
    codes "(game (setup (create deck (game hloc S) (deck (A (x y x)) (B (y z)))) (create deck (game hloc S) (deck (B (x)) (A (w)))) (put points M ((A (w x) 1) (C (x q) 1))) (create players 2)) (do (shuffle (game hloc S))) (scoring max 0))"

-- each kind of names has numbers of its own
abbrev pub kinds_apart : List ℕ
kinds_apart =
    codes "(game (setup (create deck (game hloc A) (deck (B (A)) (A (B)))) (put points A ((A (A) 1))) (create players 2)) (do (inc (game sto A) 1)) (scoring max 0))"

-- fixed words may be names
abbrev pub fixed_words : List ℕ
fixed_words =
    codes "(game (setup (create deck (game hloc deck) (deck (deck (deck)))) (put points points ((game (setup) 1))) (create players 2)) (do (shuffle (game hloc deck))) (scoring max 0))"

-- stages with their ends first; each kind of locations and each class
abbrev pub stages_and_owners : List ℕ
stages_and_owners =
    codes "(game (setup (create players 2) (create deck (game hloc S) (deck (A (x))))) (stage player (end (= (size (game vloc B)) 0)) (do (shuffle (game vloc A)) (shuffle ((current player) iloc C)) (all player 'P (shuffle ((team of 'P) hloc D)) (set ('P sto M) (game sto O))) (set ((team of (current player)) sto N) 0) (remember (top (game hloc S)) (top (game mem E))))) (scoring max 0))"

-- a domain's variables come before the binder's own, and those of the body behind it; the score comes last
abbrev pub domains_first : List ℕ
domains_first =
    codes "(game (setup (create players 2) (create deck (game hloc S) (deck (A (x)))) (put points L ((A (x) 1)))) (stage player (end (= 0 0)) (do (all (filter (game hloc S) 'A (any player 'B (is 'A A x))) 'D (all player 'E (cycle reverse))) (all player 'A (cycle reverse)) (inc (game sto N) (size (game vloc T))))) (scoring min (+ ('SELF sto M) (sum ('SELF vloc R) using L))))"
