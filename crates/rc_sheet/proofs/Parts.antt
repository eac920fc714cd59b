-- The parts of a list: those that stand before others, and the others.
use Rattle.std.proofs.Common.{◌≡◌, ◌∙◌, ℕ, ◌<◌, ◌-◌, List, [], ◌∷◌, length, get_or, take, drop, sym, ap, arith}
use Rattle.std.proofs.lemmas.List.{take_rest}
use Rattle.rc_base.specs.Tree.{Trees, nil, cons}
use Rattle.rc_form.specs.Form.{tree_of, trees_of, packed}
use Rattle.rc_form.specs.declared.form.Form.{Form}

-- the trees of the parts from an index on
abbrev pub rest : ℕ → List Form → Trees
rest k parts = packed (trees_of (take (length parts - k) (drop k parts)))

rest_is : (k : ℕ) (parts : List Form) → packed (trees_of (drop k parts)) ≡ rest k parts
rest_is k parts = ap (λ left. packed (trees_of left)) (sym (take_rest parts k))

pub behind_two : (parts : List Form) (second : Form) → 1 < length parts → second ≡ get_or parts 1 second
    → packed (trees_of parts) ≡ cons (tree_of (get_or parts 0 second)) (cons (tree_of second) (rest 2 parts))
behind_two [] second few is = absurd (omega arith)
behind_two (first ∷ []) second few is = absurd (omega arith)
behind_two (first ∷ next ∷ parts) second few is =
    ap (λ form. cons (tree_of first) (cons (tree_of form) (packed (trees_of parts)))) (sym is)
    ∙ ap (λ left. cons (tree_of first) (cons (tree_of second) left)) (rest_is 2 (first ∷ next ∷ parts))

pub behind_three : (parts : List Form) (second third : Form) → 2 < length parts
    → second ≡ get_or parts 1 second → third ≡ get_or parts 2 third
    → packed (trees_of parts)
    ≡ cons (tree_of (get_or parts 0 second)) (cons (tree_of second) (cons (tree_of third) (rest 3 parts)))
behind_three [] second third few is also = absurd (omega arith)
behind_three (first ∷ []) second third few is also = absurd (omega arith)
behind_three (first ∷ next ∷ []) second third few is also = absurd (omega arith)
behind_three (first ∷ next ∷ last ∷ parts) second third few is also =
    ap (λ form. cons (tree_of first) (cons (tree_of form) (cons (tree_of last) (packed (trees_of parts))))) (sym is)
    ∙ ap (λ form. cons (tree_of first) (cons (tree_of second) (cons (tree_of form) (packed (trees_of parts))))) (sym also)
    ∙ ap (λ left. cons (tree_of first) (cons (tree_of second) (cons (tree_of third) left)))
    (rest_is 3 (first ∷ next ∷ last ∷ parts))

pub four_parts : (parts : List Form) (second third fourth : Form) → length parts ≡ 4
    → second ≡ get_or parts 1 second → third ≡ get_or parts 2 third → fourth ≡ get_or parts 3 fourth
    → packed (trees_of parts)
    ≡ cons (tree_of (get_or parts 0 second)) (cons (tree_of second) (cons (tree_of third) (cons (tree_of fourth) nil)))
four_parts [] second third fourth count is also last = absurd (omega arith)
four_parts (a ∷ []) second third fourth count is also last = absurd (omega arith)
four_parts (a ∷ b ∷ []) second third fourth count is also last = absurd (omega arith)
four_parts (a ∷ b ∷ c ∷ []) second third fourth count is also last = absurd (omega arith)
four_parts (a ∷ b ∷ c ∷ d ∷ []) second third fourth count is also last =
    ap (λ form. cons (tree_of a) (cons (tree_of form) (cons (tree_of c) (cons (tree_of d) nil)))) (sym is)
    ∙ ap (λ form. cons (tree_of a) (cons (tree_of second) (cons (tree_of form) (cons (tree_of d) nil)))) (sym also)
    ∙ ap (λ form. cons (tree_of a) (cons (tree_of second) (cons (tree_of third) (cons (tree_of form) nil)))) (sym last)
four_parts (a ∷ b ∷ c ∷ d ∷ e ∷ parts) second third fourth count is also last = absurd (omega arith)

pub behind_third : (parts : List Form) (third : Form) → 2 < length parts → third ≡ get_or parts 2 third
    → packed (trees_of parts)
    ≡ cons (tree_of (get_or parts 0 third)) (cons (tree_of (get_or parts 1 third)) (cons (tree_of third) (rest 3 parts)))
behind_third [] third few is = absurd (omega arith)
behind_third (first ∷ []) third few is = absurd (omega arith)
behind_third (first ∷ next ∷ []) third few is = absurd (omega arith)
behind_third (first ∷ next ∷ last ∷ parts) third few is =
    ap (λ form. cons (tree_of first) (cons (tree_of next) (cons (tree_of form) (packed (trees_of parts))))) (sym is)
    ∙ ap (λ left. cons (tree_of first) (cons (tree_of next) (cons (tree_of third) left)))
    (rest_is 3 (first ∷ next ∷ last ∷ parts))
