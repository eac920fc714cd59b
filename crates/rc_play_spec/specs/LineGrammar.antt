-- Texts that are read line by line. What a grammar tells is where a text stands behind one more line, and which text is
-- whole there.
use Rattle.std.specs.Prelude.{◌≡◌, ◌≢◌, ℕ, ◌+◌, ◌-◌, ◌≤◌, ◌==◌, if◌then◌else◌, List, [], ◌∷◌, ◌++◌, length, take, flat_map, Option, Some, None, Result, Ok, Err}
use Rattle.rc_base.specs.Transcript.{line}
use Rattle.rc_play_spec.specs.Fields.{◌>>=◌}

-- The lines that LF ends, each without it, and the bytes behind the last LF.
abbrev pub onto_line : ℕ → List (List ℕ) × List ℕ → List (List ℕ) × List ℕ
onto_line b ([], rest) = ([], b ∷ rest)
onto_line b (l ∷ lines, rest) = ((b ∷ l) ∷ lines, rest)

abbrev pub lines_in : List ℕ → List (List ℕ) × List ℕ
lines_in [] = ([], [])
lines_in (b ∷ bytes) = if b == 10 then ([] ∷ (lines_in bytes).0, (lines_in bytes).1) else onto_line b (lines_in bytes)

-- where a text stands behind these lines; nothing where one of them can't stand where it is
abbrev pub run : {P L : Type 0} → (P → L → Option P) → P → List L → Option P
run takes p [] = Some p
run takes p (l ∷ lines) = takes p l >>= λ q. run takes q lines

-- ---- what is read

abbrev pub or_fault : {A : Type 0} → ℕ → Option A → Result A ℕ
or_fault n None = Err n
or_fault n (Some x) = Ok x

abbrev pub or_at : {A B : Type 0} → ℕ → Option A → (A → Result B ℕ) → Result B ℕ
or_at n None follow = Err n
or_at n (Some x) follow = follow x

module _ {P T : Type 0} (takes : P → List ℕ → Option P) (whole : P → Option T) where
  -- the end, behind n - 1 lines: bytes that no LF ends are a faulty line, and where a line is wanted it is missing
  abbrev pub at_end : ℕ → P → List ℕ → Result T ℕ
  at_end n p [] = or_fault n (whole p)
  at_end n p (b ∷ bytes) = Err n

  -- the lines from the n-th on: the text, or the first line that can't stand where it is
  abbrev pub read_from : ℕ → P → List (List ℕ) → List ℕ → Result T ℕ
  read_from n p [] rest = at_end n p rest
  read_from n p (l ∷ lines) rest = or_at n (takes p l) (λ q. read_from (n + 1) q lines rest)

pub record Grammar (P T : Type 0) : Type 0 where
  pub start : P
  pub takes : P → List ℕ → Option P
  pub whole : P → Option T

abbrev pub read_by : {P T : Type 0} → Grammar P T → List ℕ → Result T ℕ
read_by g bytes = read_from g.takes g.whole 1 g.start (lines_in bytes).0 (lines_in bytes).1

-- ---- which texts there are

module _ {T : Type 0} (IsText : T → Type 0) (text_of : T → List ℕ) where
  -- some text begins with these lines
  abbrev pub Begins : List (List ℕ) → Type 0
  Begins lines = (t : T) × (rest : List ℕ) × IsText t × (text_of t ≡ flat_map line lines ++ rest)

  -- The lines before the n-th begin a text, and with the n-th they begin none. Where the n-th lacks its LF or isn't
  -- there, the bytes are no text.
  pub record IsFirstFault (bytes : List ℕ) (n : ℕ) : Type 0 where
    pub before : Begins (take (n - 1) (lines_in bytes).0)
    pub there : (1 ≤ n) × (n ≤ length (lines_in bytes).0 + 1)
    pub fault : n ≤ length (lines_in bytes).0 → Begins (take n (lines_in bytes).0) → ⊥
    pub none : (t : T) → IsText t → bytes ≢ text_of t
