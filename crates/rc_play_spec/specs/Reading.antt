-- Reading a house text, line by line.
use Rattle.std.specs.Prelude.{ℕ, Bool, List, [], ◌∷◌, ◌++◌, Option, Some, None, Result}
use Rattle.rc_base.specs.Transcript.{Pick, Ending, done, Score, Record, Standing}
use Rattle.rc_play_spec.specs.Fields.{◌>>=◌, behind, last}
use Rattle.rc_play_spec.specs.ItemBounds.{Bound}
use Rattle.rc_play_spec.specs.Lines.{Line, opening, chosen, shuffled, ending, scored, ranked, Marked, line_of}
use Rattle.rc_play_spec.specs.HouseText.{Format, NamedText}
use Rattle.rc_play_spec.specs.LineGrammar
use Rattle.rc_play_spec.specs.LineGrammar.{Grammar, read_by}
pub use Rattle.rc_play_spec.specs.LineGrammar.{onto_line, lines_in, or_at}

-- Where a text stands: behind its head, in a match or behind its shuffles, behind its end, behind a score, or behind a standing.
pub data Place : Type 0 where
  headed : Place
  playing : (before : List Record) (r : Record) → Place
  told : (before : List Record) (r : Record) → Place
  stopped : (before : List Record) (r : Record) → Place
  scoring : (before : List Record) (r : Record) → Place
  ranking : (matches : List Record) (standings : List Standing) → Place

abbrev pub opened : (number deal seats : ℕ) → Record
opened n deal seats =
    record { number = n; deal = deal; seats = seats; picks = []; shuffles = 0; ending = done; turn = 0; scores = [] }

abbrev pub with_pick : Record → Pick → Record
with_pick r p =
    record {
      number = r.number;
      deal = r.deal;
      seats = r.seats;
      picks = r.picks ++ p ∷ [];
      shuffles = r.shuffles;
      ending = r.ending;
      turn = r.turn;
      scores = r.scores;
    }

abbrev pub with_shuffles : Record → ℕ → Record
with_shuffles r n =
    record {
      number = r.number;
      deal = r.deal;
      seats = r.seats;
      picks = r.picks;
      shuffles = n;
      ending = r.ending;
      turn =
          r.turn;
      scores = r.scores;
    }

abbrev pub with_end : Record → Ending → ℕ → Record
with_end r e turn =
    record {
      number = r.number;
      deal = r.deal;
      seats = r.seats;
      picks = r.picks;
      shuffles = r.shuffles;
      ending = e;
      turn = turn;
      scores = r.scores;
    }

abbrev pub with_score : Record → Score → Record
with_score r s =
    record {
      number = r.number;
      deal = r.deal;
      seats = r.seats;
      picks = r.picks;
      shuffles = r.shuffles;
      ending =
          r.ending;
      turn = r.turn;
      scores = r.scores ++ s ∷ [];
    }

-- which line may stand where, and where the text stands behind it
abbrev pub take_line : Place → Line → Option Place
take_line headed (opening n deal seats) = Some (playing [] (opened n deal seats))
take_line (playing before r) (chosen p) = Some (playing before (with_pick r p))
take_line (playing before r) (shuffled n) = Some (told before (with_shuffles r n))
take_line (playing before r) (ending e turn) = Some (stopped before (with_end r e turn))
take_line (told before r) (ending e turn) = Some (stopped before (with_end r e turn))
take_line (stopped before r) (scored s) = Some (scoring before (with_score r s))
take_line (scoring before r) (scored s) = Some (scoring before (with_score r s))
take_line (scoring before r) (opening n deal seats) = Some (playing (before ++ r ∷ []) (opened n deal seats))
take_line (scoring before r) (ranked s) = Some (ranking (before ++ r ∷ []) (s ∷ []))
take_line (ranking matches standings) (ranked s) = Some (ranking matches (standings ++ s ∷ []))
take_line _ _ = None

-- Where reading stands: before this line of the head and these behind it; or behind the head, with the marks so far.
pub data Stand : Type 0 where
  outside : (first : List ℕ) (later : List (List ℕ)) → Stand
  inside : (place : Place) (marks : List (List Bound)) → Stand

-- before these lines of the head
abbrev pub before : List (List ℕ) → Stand
before [] = inside headed []
before (first ∷ later) = outside first later

abbrev pub noted : List (List Bound) → Option (List Bound) → List (List Bound)
noted marks None = marks
noted marks (Some m) = marks ++ m ∷ []

abbrev pub take_marked : Place → List (List Bound) → Marked → Option Stand
take_marked place marks m = take_line place m.0 >>= λ next. Some (inside next (noted marks m.1))

-- one more line of bytes
abbrev pub take_bytes : (named : Bool) → Stand → List ℕ → Option Stand
take_bytes named (outside first later) bytes = behind first bytes >>= last (before later)
take_bytes named (inside place marks) bytes = line_of named bytes >>= take_marked place marks

-- the text that ends here
abbrev pub whole_at : Place → List (List Bound) → Option NamedText
whole_at (ranking matches standings) marks =
    Some (record { text = record { matches = matches; standings = standings }; marks = marks })
whole_at _ marks = None

abbrev pub whole : Stand → Option NamedText
whole (outside first later) = None
whole (inside place marks) = whole_at place marks

abbrev pub grammar : Format → Grammar Stand NamedText
grammar f = record { start = before f.head; takes = take_bytes f.named; whole = whole }

-- the lines from the n-th on: the text, or the first line that can't stand where it is
abbrev pub read_from : (named : Bool) → ℕ → Stand → List (List ℕ) → List ℕ → Result NamedText ℕ
read_from named n stand lines rest = LineGrammar.read_from (take_bytes named) whole n stand lines rest

-- the text of this format that bytes spell, or the first line that no such text goes on with
abbrev pub read_in : Format → List ℕ → Result NamedText ℕ
read_in f bytes = read_by (grammar f) bytes
