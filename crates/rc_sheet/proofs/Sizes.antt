-- How large the largest of several forms is, as the kit measures forms.
use Rattle.std.proofs.Common.{ℕ, zero, suc, ◌≤◌, List, [], ◌∷◌, length, ◌-◌, take, drop, arith}
use denote.Param.Weighed.{most}
use Rattle.rc_form.specs.declared.form.Form.{Form}
use Rattle.rc_form.specs.declared.form.Form.{size-Form}

abbrev pub largest : List Form → ℕ
largest forms = most (λ form. size-Form form) forms

largest-take : (forms : List Form) (n : ℕ) → largest (take n forms) ≤ largest forms
largest-take [] zero = omega arith
largest-take [] (suc n) = omega arith
largest-take (form ∷ forms) zero = omega arith
largest-take (form ∷ forms) (suc n) = let less = largest-take forms n in omega arith

largest-drop : (forms : List Form) (n : ℕ) → largest (drop n forms) ≤ largest forms
largest-drop [] zero = omega arith
largest-drop [] (suc n) = omega arith
largest-drop (form ∷ forms) zero = omega arith
largest-drop (form ∷ forms) (suc n) = let less = largest-drop forms n in omega arith

-- of the parts from an index on
pub largest-rest : (k : ℕ) (parts : List Form) → largest (take (length parts - k) (drop k parts)) ≤ largest parts
largest-rest k parts =
    let taken = largest-take (drop k parts) (length parts - k) in
    let dropped = largest-drop parts k in
    omega arith
