use Rattle.std.proofs.Common.{ℕ, ◌≤◌, [], ◌∷◌, refl, arith}
use Rattle.std.proofs.lemmas.List.Elements.{All-nil, All-cons}
use Rattle.rc_sheet_spec.proofs.sight_examples.first_by_offset.Goals as goal

pub returns-clause-least : goal.returns-clause-least
returns-clause-least c =
    let P = λ (a : ℕ). 40 ≤ a in
    record { stands = (1, omega arith, refl); first = All-cons P 60 (40 ∷ []) (omega arith) (All-cons P 40 [] (omega arith) (All-nil P)) }
