-- Where locations are filled anew, all others stay as they are.
use Rattle.std.proofs.Common.{◌≡◌, ℕ, List, [], ◌∷◌, length, get_or, set, take, drop, refl, sym, ◌∙◌, arith}
use Rattle.std.specs.Prelude.{Contains}
use Rattle.std.proofs.lemmas.List.{get_or-set_other}
use Rattle.std.proofs.lemmas.List.Elements.{Contains-append_right}
use Rattle.rc_table.specs.Refilled.{lists_refilled}

pub others_stay : (locs ids : List ℕ) (lists : List (List ℕ)) (loc : ℕ) → (Contains locs loc → ⊥) →
    get_or (lists_refilled locs ids lists) loc [] ≡ get_or lists loc []
others_stay [] ids lists loc never = refl
others_stay (first ∷ locs) ids lists loc never =
    let n = length (get_or lists first []) in
    others_stay locs (drop n ids) (set lists first (take n ids)) loc (λ c. never (Contains-append_right (first ∷ []) locs loc c))
    ∙ get_or-set_other lists first loc (take n ids) [] (λ same. never (0, omega arith, sym same))
