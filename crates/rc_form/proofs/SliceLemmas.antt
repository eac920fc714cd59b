-- Slices of three parts.
use Rattle.std.proofs.Common.{◌≡◌, List, [], ◌∷◌, length, get_or, sym, ap, ◌∙◌, arith}

pub three : {X : Type 0} (xs : List X) (a b c : X) → length xs ≡ 3 → a ≡ get_or xs 0 a → b ≡ get_or xs 1 b →
    c ≡ get_or xs 2 c → xs ≡ a ∷ b ∷ c ∷ []
three [] a b c long is-a is-b is-c = absurd (omega arith)
three (x ∷ []) a b c long is-a is-b is-c = absurd (omega arith)
three (x ∷ y ∷ []) a b c long is-a is-b is-c = absurd (omega arith)
three (x ∷ y ∷ z ∷ []) a b c long is-a is-b is-c =
    ap (λ w. w ∷ y ∷ z ∷ []) (sym is-a) ∙ ap (λ w. a ∷ w ∷ z ∷ []) (sym is-b) ∙ ap (λ w. a ∷ b ∷ w ∷ []) (sym is-c)
three (x ∷ y ∷ z ∷ w ∷ ws) a b c long is-a is-b is-c = absurd (omega arith)
