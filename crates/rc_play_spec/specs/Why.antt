-- Why a line of a transcript is illegal.
use Rattle.std.specs.Prelude.{ℕ}

pub data Why : Type 0 where
  by_match : Why
  by_shuffle : Why
  by_seat : Why
  by_menu : Why
  by_item : Why
  by_name : Why
  by_end : Why
  by_score : Why
  by_standing : Why

-- an illegal line, by its number from 1, and why
pub record Illegal : Type 0 where
  pub line : ℕ
  pub why : Why
