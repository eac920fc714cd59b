-- What a memo was asked: how many looks were answered, how many of them hit, how many entries were kept, and, where it tells them,
-- its calls in order.
use Rattle.std.specs.Prelude.{◌≡◌, ℕ, ◌+◌, Bool, true, false, List, [], ◌∷◌, ◌++◌, Option, option_map, IfSome}
use Rattle.rc_play_spec.specs.About.{About}
use Rattle.rc_redraw.specs.Asking.{Key}

pub data Call : Type 0 where
  looked : (key : Key) (hit : Bool) → Call
  kept : (key : Key) → Call

pub record Counts : Type 0 where
  pub looks : ℕ
  pub hits : ℕ
  pub keeps : ℕ
  pub calls : Option (List Call)

abbrev pub one_if : Bool → ℕ
one_if true = 1
one_if false = 0

-- one call more, where calls are told
abbrev pub with_call : Call → Option (List Call) → Option (List Call)
with_call call calls = option_map (λ earlier. earlier ++ call ∷ []) calls

-- behind a look that is answered
abbrev pub looked_up : Key → Bool → Counts → Counts
looked_up key hit c =
    record {
      looks = c.looks + 1;
      hits = c.hits + one_if hit;
      keeps = c.keeps;
      calls =
          with_call (looked key hit) c.calls;
    }

-- behind a keep that is answered
abbrev pub kept_once : Key → Counts → Counts
kept_once key c = record { looks = c.looks; hits = c.hits; keeps = c.keeps + 1; calls = with_call (kept key) c.calls }

-- what serves one about serves that; none stands for what serves every about
abbrev pub Serves : Option About → About → Type 0
Serves served about = IfSome served (λ own. own ≡ about)
