-- Parts of lists, and players in teams.
use Rattle.std.proofs.Common.{◌≡◌, ℕ, suc, zero, ◌+◌, ◌-◌, ◌<◌, ◌≤◌, ◌||◌, ◌&&◌, Bool, nat_eq, List, [], ◌∷◌, ◌++◌, length, get_or, Option, Some, None, refl, sym, ap, ◌∙◌, arith}
use Rattle.std.specs.Borrow.{Bor}
use Rattle.std.specs.Option.{IfSome, MatchOption}
use Rattle.std.specs.List.{list_all, range_with_len, HoldsAt}
use Rattle.std.proofs.lemmas.List.Folds.{list_any-append}
use Rattle.rc_sheet_spec.specs.WellFormed.{is_among}
use Rattle.rc_base.specs.Tree.{list, nil}
use Rattle.rc_form.specs.Form.{tree_of, trees_of, packed}
use Rattle.rc_form.specs.declared.form.Form.{Form}
use Rattle.rc_check.specs.SecondParts.{part_at}
use Rattle.rc_check.specs.Seen.{part_seen}

-- a part that is there
pub part_there : (parts : List Form) (index : ℕ) (d : Form) → index < length parts
    → part_at index (packed (trees_of parts)) ≡ tree_of (get_or parts index d)
part_there [] index d lt = absurd (omega arith)
part_there (part ∷ parts) zero d lt = refl
part_there (part ∷ parts) (suc index) d lt = part_there parts index d (omega arith)

-- a part that isn't
pub part_past : (parts : List Form) (index : ℕ) → length parts ≤ index → part_at index (packed (trees_of parts)) ≡ list nil 0 0
part_past [] index le = refl
part_past (part ∷ parts) zero le = absurd (omega arith)
part_past (part ∷ parts) (suc index) le = part_past parts index (omega arith)

-- what `get` gives
pub part_found : (parts : List Form) (index : ℕ) (found : Option (Bor Form))
    → IfSome found (λ part. part.now ≡ get_or parts index part.now)
    → MatchOption found (length parts ≤ index) (λ part. (index < length parts) × HoldsAt (λ y. part.now ≡ y) parts index)
    → part_seen found ≡ part_at index (packed (trees_of parts))
part_found parts index None some cases = sym (part_past parts index cases)
part_found parts index (Some part) some cases = ap tree_of some ∙ sym (part_there parts index part.now cases.0)

-- a player among these or those
pub among_both : (player : ℕ) (these those : List ℕ) → is_among player (these ++ those)
    ≡ (is_among player these || is_among player those)
among_both player these those = list_any-append (nat_eq player) these those

-- a test of all numbers from this one on
pub all_from : (test : ℕ → Bool) (a n : ℕ) → a < n
    → list_all test (range_with_len a (n - a)) ≡ (test a && list_all test (range_with_len (a + 1) (n - (a + 1))))
all_from test a n lt = let less : n - a ≡ suc (n - (a + 1)) = omega arith in rw less refl

-- and at the end
pub all_past : (test : ℕ → Bool) (a n : ℕ) → n ≤ a → list_all test (range_with_len a (n - a)) ≡ list_all test []
all_past test a n le = let none : n - a ≡ 0 = omega arith in rw none refl
