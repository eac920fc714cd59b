-- Numbered keys.
use Rattle.std.specs.Prelude.{ℕ, ◌+◌, ◌*◌, List}
use Rattle.rc_play_spec.specs.Draws.{key32}

-- The keys of four numbers whose last has this upper half. Its lower half numbers them.
pub record Sequence : Type 0 where
  pub a : ℕ
  pub b : ℕ
  pub c : ℕ
  pub upper : ℕ

-- the key of a number
abbrev pub key_at : Sequence → ℕ → List ℕ
key_at s number = key32 s.a s.b s.c (s.upper * 4294967296 + number)
