-- The fields of a word: its bytes, with zeros behind them.
use Rattle.std.specs.Prelude.{◌≡◌, ℕ, ◌-◌, ◌≤◌, List, ◌++◌, length, take, drop, replicate, IsTrue}
use Rattle.std.specs.List.{list_all}
use Rattle.std.proofs.Common.{ap, ◌∙◌, arith}
use Rattle.std.proofs.lemmas.List.{length-take-le, take-append-drop}
use Rattle.rc_base.specs.Token.{is_part}
use Rattle.rc_base.specs.declared.word.Word.TheInside.{Inside}

-- 1 to 64 bytes that may stand in an atom, and zeros
pub record IsWord (word : Inside) : Type 0 where
  pub some : 1 ≤ word.count
  pub short : word.count ≤ 64
  pub whole : length word.bytes ≡ 64
  pub parts : IsTrue (list_all is_part (take word.count word.bytes))
  pub zeros : drop word.count word.bytes ≡ replicate (64 - word.count) 0

-- so many bytes, and zeros behind them
abbrev padded : List ℕ → ℕ → Inside
padded bytes count = record { bytes = bytes ++ replicate (64 - count) 0; count = count }

-- the fields that a word of these bytes has
abbrev pub fields_of : List ℕ → Inside
fields_of bytes = padded bytes (length bytes)

-- a word's bytes give its fields back
pub fields_of-take : (word : Inside) → IsWord word → fields_of (take word.count word.bytes) ≡ word
fields_of-take word is_word =
    let count : length (take word.count word.bytes) ≡ word.count = length-take-le word.count word.bytes (omega arith) in
    let bytes : take word.count word.bytes ++ replicate (64 - word.count) 0 ≡ word.bytes =
    rw (← is_word.zeros) (take-append-drop word.count word.bytes) in
    ap (padded (take word.count word.bytes)) count ∙ ap (λ all. record { bytes = all; count = word.count }) bytes
