-- What passes know of the word that they draw from, and the rule of that word.
use Rattle.std.specs.Prelude.{◌≡◌, ℕ, ◌≤◌, List, [], ◌∷◌, ◌++◌, length, take, drop, leb, count_by, flat_map}
use Rattle.std.specs.List.{AllByRecursion}
use Rattle.std.specs.List.Sorted.{IsPermutation}
use Rattle.atomic_table.specs.Table.{State, Me, Step}
use Rattle.rc_base.specs.Numbers.{below}
use Rattle.rc_claims.specs.declared.views.PassView.{PassView}
use Rattle.rc_claims.specs.declared.views.Limits.{Limits}

abbrev pub pass_view : List ℕ → List ℕ → PassView
pass_view holders numbers = record { holders = holders; numbers = numbers }

-- all numbers that the views have, and all their holders
abbrev pub numbers_in : List PassView → List ℕ
numbers_in views = flat_map (λ v. v.numbers) views

abbrev pub holders_in : List PassView → List ℕ
holders_in views = flat_map (λ v. v.holders) views

-- how many of the numbers aren't below the count
abbrev pub beyond : ℕ → List ℕ → ℕ
beyond count numbers = count_by (λ n. leb count n) numbers

-- a view without holders has no numbers
abbrev pub IsIdle : PassView → Type 0
IsIdle v = v.holders ≡ [] → v.numbers ≡ []

-- At most as many of its numbers aren't below the count as it has holders: who has drawn one claims no more.
abbrev pub HasFew : ℕ → PassView → Type 0
HasFew count v = beyond count v.numbers ≤ length v.holders

-- The rule: the numbers below the word stand in the views, each in one view and once, and no others; and so do the holders, which are
-- the numbers below the passes.
pub record IsClaimedOnce (limits : Limits) (word : ℕ) (views : List PassView) : Type 0 where
  pub numbers : IsPermutation (below word) (numbers_in views)
  pub holders : IsPermutation (below limits.passes) (holders_in views)
  pub idle : AllByRecursion IsIdle views
  pub few : AllByRecursion (HasFew limits.count) views

-- of a table with this one word
abbrev pub IsKept : Limits → State (Unit {0}) PassView → Type 0
IsKept limits s = (word : ℕ) × (s.words ≡ word ∷ []) × IsClaimedOnce limits word s.views

-- A claim adds the number found, which is at least as large as there were numbers in the view.
abbrev pub Draws : Step (Unit {0}) → Me (Unit {0}) PassView → ℕ → Me (Unit {0}) PassView → Type 0
Draws s me found after =
    (after ≡ (pass_view me.0.holders (me.0.numbers ++ found ∷ []), me.1)) × (length me.0.numbers ≤ found)

-- A split gives the first holder to a new view, which has claimed nothing.
abbrev pub behind_first : PassView → PassView
behind_first v = pass_view (drop 1 v.holders) v.numbers

abbrev pub first_alone : PassView → PassView
first_alone v = pass_view (take 1 v.holders) []

-- A join gives all of one view to the other. The first one has nothing then.
abbrev pub both_views : PassView → PassView → PassView
both_views v w = pass_view (v.holders ++ w.holders) (v.numbers ++ w.numbers)

abbrev pub no_view : PassView
no_view = pass_view [] []
