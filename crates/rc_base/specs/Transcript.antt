-- The text of a transcript. Every line ends with LF, parts are separated by one space, and each value has one spelling.
use Rattle.std.specs.Prelude.{ℕ, ◌==◌, if◌then◌else◌, List, [], ◌∷◌, ◌++◌, ℤ, codes, decimal, flat_map}
use Rattle.std.specs.Fmt.{signed_decimal}

-- a choice: the seat, the choice site, and the item out of a menu of this size
pub record Pick : Type 0 where
  pub seat : ℕ
  pub site : ℕ
  pub item : ℕ
  pub size : ℕ

-- how a match ends: nothing is left to run, or the turn limit is met
pub data Ending : Type 0 where
  done : Ending
  limit : Ending

-- a player's score, and the rank points for it
pub record Score : Type 0 where
  pub player : ℕ
  pub score : ℤ
  pub points : ℕ

-- one match: its number, the seeds of its shuffles and of its seats, and how it was played
pub record Record : Type 0 where
  pub number : ℕ
  pub deal : ℕ
  pub seats : ℕ
  pub picks : List Pick
  pub shuffles : ℕ
  pub ending : Ending
  pub turn : ℕ
  pub scores : List Score

-- a strategy's place among the strategies, and its rank points over all matches
pub record Standing : Type 0 where
  pub place : ℕ
  pub strategy : ℕ
  pub points : ℕ

-- a line ends with LF
abbrev pub line : List ℕ → List ℕ
line text = text ++ 10 ∷ []

abbrev pub match_line : Record → List ℕ
match_line r = line (codes "match " ++ decimal r.number ++ codes " deal " ++ decimal r.deal ++ codes " seats " ++ decimal r.seats)

abbrev pub choose_line : Pick → List ℕ
choose_line p =
    line (codes "choose " ++ decimal p.seat ++ codes " " ++ decimal p.site
    ++ codes " " ++ decimal p.item ++ codes " " ++ decimal p.size)

-- no line where there was no shuffle
abbrev pub shuffles_line : ℕ → List ℕ
shuffles_line n = if n == 0 then [] else line (codes "shuffles " ++ decimal n)

abbrev pub ending_word : Ending → List ℕ
ending_word done = codes "done"
ending_word limit = codes "limit"

abbrev pub end_line : Ending → ℕ → List ℕ
end_line ending turn = line (codes "end " ++ ending_word ending ++ codes " " ++ decimal turn)

abbrev pub score_line : Score → List ℕ
score_line s = line (codes "score " ++ decimal s.player ++ codes " " ++ signed_decimal s.score ++ codes " " ++ decimal s.points)

abbrev pub standing_line : Standing → List ℕ
standing_line s =
    line (codes "standing " ++ decimal s.place ++ codes " strategy " ++ decimal s.strategy
    ++ codes " points " ++ decimal s.points)

-- a match: its line, its choices, its shuffles, its end, and each player's score
abbrev pub record_text : Record → List ℕ
record_text r =
    match_line r ++ flat_map choose_line r.picks ++ shuffles_line r.shuffles
    ++ end_line r.ending r.turn ++ flat_map score_line r.scores

-- a house text: the format's line, the matches in order, and the standings
abbrev pub house_text : List Record → List Standing → List ℕ
house_text matches standings = line (codes "house 1") ++ flat_map record_text matches ++ flat_map standing_line standings
