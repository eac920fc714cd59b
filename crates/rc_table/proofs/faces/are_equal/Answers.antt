use Rattle.std.proofs.Common.{◌≡◌, ℕ, Bool, true, false, ◌&&◌, ◌==◌, [], ◌∷◌, refl, ap, ◌∙◌}
use Rattle.std.specs.Cmp.Lexicographic.{pointwise}
use Rattle.rc_base.specs.Deck.{Face}
use Rattle.rc_play_spec.specs.Shape.{face_eq}
use Rattle.rc_table.proofs.faces.are_equal.Goals as goal

abbrev pair_eq : ℕ × ℕ → ℕ × ℕ → Bool
pair_eq x y = (x.0 == y.0) && (x.1 == y.1)

regrouped : (a b c : Bool) → ((a && b) && c) ≡ (a && (b && c))
regrouped true b c = refl
regrouped false b c = refl

pair_by_pair : (left right : Face) → pointwise pair_eq left right ≡ face_eq left right
pair_by_pair [] [] = refl
pair_by_pair [] (q ∷ right) = refl
pair_by_pair (p ∷ left) [] = refl
pair_by_pair (p ∷ left) (q ∷ right) =
    ap (λ b. pair_eq p q && b) (pair_by_pair left right) ∙ regrouped (p.0 == q.0) (p.1 == q.1) (face_eq left right)

pub returns : goal.returns
returns c = c.eq.ensures ∙ pair_by_pair c.args.left.now c.args.right.now
