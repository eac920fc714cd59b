-- The memo that forgets, as contracts see it.
use Rattle.std.specs.Prelude.{ℕ, List, None}
use Rattle.rc_play_spec.specs.About.{About}
use Rattle.rc_redraw.specs.Asking.{Key}
use Rattle.rc_redraw.specs.Counts.{Counts}

-- the about that it serves, its entries, at which looks it loses them, and how many looks it answered, hits among them, and keeps
pub record Fickle : Type 0 where
  pub about : About
  pub entries : List Key
  pub loses : List ℕ
  pub looks : ℕ
  pub hits : ℕ
  pub keeps : ℕ

-- its calls aren't told
abbrev pub counts_of : Fickle → Counts
counts_of f = record { looks = f.looks; hits = f.hits; keeps = f.keeps; calls = None }
