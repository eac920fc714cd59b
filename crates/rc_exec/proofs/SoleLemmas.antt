-- A block that is one effect with all that is inside it.
use Rattle.std.proofs.Common.{◌≡◌, ℕ, ◌≤◌, List, ◌∷◌, length, drop, ap, ◌∙◌}
use Rattle.std.proofs.lemmas.List.{take_all, drop_all}
use Rattle.rc_sheet_spec.specs.Sheet.{Test, effect, no_effect, when}
use Rattle.rc_code.specs.Instruction.{Instruction, if_true}
use Rattle.rc_code.specs.Meaning.{effects_in}
use Rattle.rc_code.proofs.MeaningLemmas.{first_and_rest}

pub one_if : (test : Test) (inside : ℕ) (code : List Instruction) → length code ≤ inside →
    effects_in (if_true test inside ∷ code) ≡ effect (when test (effects_in code)) no_effect
one_if test inside code le =
    first_and_rest (if_true test inside) code
    ∙ ap (λ code'. effect (when test (effects_in code')) (effects_in (drop inside code))) (take_all inside code le)
    ∙ ap (λ code'. effect (when test (effects_in code)) (effects_in code')) (drop_all inside code le)
