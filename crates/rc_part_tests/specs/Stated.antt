-- The orders of the dealer of tests.
use Rattle.std.specs.Prelude.{ℕ, zero, suc, Bool, ◌==◌, if◌then◌else◌, List, [], ◌∷◌}
use Rattle.rc_base.specs.Numbers.{below}
use Rattle.rc_play_spec.specs.Effects.{Dealing}

-- of four items the first list goes by one order, and each later one by another
abbrev pub order_of_four : ℕ → List ℕ
order_of_four zero = 2 ∷ 0 ∷ 3 ∷ 1 ∷ []
order_of_four (suc k) = 1 ∷ 2 ∷ 0 ∷ 3 ∷ []

-- other lists stay
abbrev pub stated : Dealing ℕ
stated = record { order = λ k size. if size == 4 then order_of_four k else below size; next = λ k size. 1 }

-- the state before the first list, and behind it
abbrev pub after_first : Bool → ℕ
after_first later = if later then 1 else 0
