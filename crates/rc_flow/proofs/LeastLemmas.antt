-- Going over lists of locations.
use Rattle.std.proofs.Common.{◌≡◌, ℕ, ◌+◌, ◌<◌, List, [], ◌∷◌, ◌++◌, length, get_or, drop, Option, refl, ap, sym, ◌∙◌}
use Rattle.std.proofs.lemmas.List.{at_drop_more}
use Rattle.rc_sheet_spec.specs.Sheet.{LocName, Loc}
use Rattle.rc_flow.specs.Least.{with_loc, least_with}

-- one list after the other
pub least_append : (names : List LocName) (found : Option ℕ) (xs ys : List Loc) →
    least_with names found (xs ++ ys) ≡ least_with names (least_with names found xs) ys
least_append names found [] ys = refl
least_append names found (x ∷ xs) ys = least_append names (with_loc names found x) xs ys

-- The locations of what is left from a place on are those of the item there and those of what is behind it.
pub least_drop : {X : Type 0} (names : List LocName) (found : Option ℕ) (all : List X → List Loc) (one : X → List Loc)
    → ((x : X) (xs : List X) → all (x ∷ xs) ≡ one x ++ all xs)
    → (xs : List X) (i : ℕ) (x : X) → i < length xs → x ≡ get_or xs i x
    → least_with names (least_with names found (one x)) (all (drop (i + 1) xs)) ≡ least_with names found (all (drop i xs))
least_drop names found all one step xs i x lt is =
    sym (
    ap (least_with names found) (
    at_drop_more all xs i x lt ∙ ap (λ y. all (y ∷ drop (i + 1) xs)) (sym is) ∙ step x (drop (i + 1) xs))
    ∙ least_append names found (one x) (all (drop (i + 1) xs)))
