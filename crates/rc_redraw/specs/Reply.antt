-- What a memo answers.
use Rattle.std.specs.Prelude.{ℕ, Bool, true, false, List}
use Rattle.rc_redraw.specs.declared.memo.Reply.{Reply}
use Rattle.rc_redraw.specs.declared.memo.Reply.TheVariants.{Hit, Miss}

abbrev pub is_hit : Reply → Bool
is_hit (Hit tally) = true
is_hit Miss = false

-- what holds of the totals of a hit
abbrev pub IfHit : Reply → (List ℕ → Type 0) → Type 0
IfHit (Hit tally) P = P tally.totals.items
IfHit Miss P = Unit {0}
