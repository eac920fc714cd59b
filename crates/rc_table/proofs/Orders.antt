-- Lists in another order.
use Rattle.std.proofs.Common.{◌≡◌, ℕ, ◌+◌, ◌<◌, ◌==◌, ◌++◌, List, [], ◌∷◌, length, take, set, slice_index, get_or, sym, ap, ◌∙◌, arith}
use Rattle.std.specs.Prelude.{All}
use Rattle.std.proofs.lemmas.Bool.{cond-true}
use Rattle.std.proofs.lemmas.Bool.Decides.{Decides-eqb}
use Rattle.std.specs.List.Sorted.{IsPermutation}
use Rattle.std.proofs.lemmas.List.{take_more, take_more_set, map-append, length-map}
use Rattle.std.proofs.lemmas.List.Elements.{All-from_recursion}
use Rattle.std.proofs.lemmas.List.FromFn.{length-range_with_len}
use Rattle.std.proofs.lemmas.List.Sorted.{All-permutation, length_permutation}
use Rattle.rc_base.specs.Numbers.{below}
use Rattle.rc_play_spec.specs.Table.{Table, list_at, with_list, taken, reorder, cleared}
use Rattle.rc_table.specs.Restored.{relisted}
use Rattle.rc_play_spec.proofs.CardLemmas.{numbers_below}

pub order_within : (n : ℕ) (order : List ℕ) → IsPermutation (below n) order → All (λ i. i < n) order
order_within n order permutes =
    All-permutation (λ i. i < n) (below n) order permutes (All-from_recursion (λ i. i < n) (below n) (numbers_below 0 n n (omega arith)))

pub order_long : (n : ℕ) (order : List ℕ) → IsPermutation (below n) order → length order ≡ n
order_long n order permutes = length_permutation (below n) order permutes ∙ length-range_with_len 0 n

-- one more item put into its place
pub taken_more : (list order room : List ℕ) (at : ℕ) → at < length order → at < length room → take at room ≡ taken (take at order) list →
    take (at + 1) (set room at (get_or list (get_or order at 0) 0)) ≡ taken (take (at + 1) order) list
taken_more list order room at within within' before =
    take_more_set room at (get_or list (get_or order at 0) 0) within'
    ∙ ap (λ items. items ++ get_or list (get_or order at 0) 0 ∷ []) before
    ∙ sym (ap (λ places. taken places list) (take_more order at 0 within) ∙ map-append (slice_index list) (take at order) (get_or order at 0 ∷ []))

-- the table without the marks of these cards
abbrev pub unmarked : List ℕ → Table → Table
unmarked ids table = record { lists = table.lists; numbers = table.numbers; marks = cleared ids table.marks }

-- a list in another order, unmarked, is one as long in its place
pub relisted_is : (table : Table) (loc : ℕ) (order list : List ℕ) → IsPermutation (below (length (list_at table loc))) order →
    list ≡ taken order (list_at table loc) → relisted loc list (unmarked (list_at table loc) table) ≡ reorder loc order table
relisted_is table loc order list permutes is =
    let long = ap length is ∙ length-map order (slice_index (list_at table loc)) ∙ order_long (length (list_at table loc)) order permutes in
    let quiet = unmarked (list_at table loc) table in
    cond-true (length list == length (list_at table loc)) (with_list quiet loc list) quiet ((Decides-eqb (length list) (length (list_at table loc))).1 long)
    ∙ ap (with_list quiet loc) is
