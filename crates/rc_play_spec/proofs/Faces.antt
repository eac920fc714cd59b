-- A card and the first card with its face have one face.
use Rattle.std.proofs.Common.{◌≡◌, ℕ, zero, suc, ◌+◌, ◌==◌, Bool, true, false, ◌&&◌, not, if◌then◌else◌, List, [], ◌∷◌, get_or, refl, sym, ap, ap₂, ◌∙◌, true≢false, arith}
use Rattle.std.specs.List.{position_or_len}
use Rattle.std.proofs.lemmas.Bool.Decides.{Decides-eqb}
use Rattle.rc_base.specs.Deck.{Face}
use Rattle.rc_play_spec.specs.Shape.{Shape, face_at, face_eq, face_number}

pub both_true : (a b : Bool) → (a && b) ≡ true → (a ≡ true) × (b ≡ true)
both_true true b e = (refl, e)
both_true false b e = absurd (true≢false (sym e))

pub face_eq_self : (x : Face) → face_eq x x ≡ true
face_eq_self [] = refl
face_eq_self (p ∷ x) = ap₂ ◌&&◌ ((Decides-eqb p.0 p.0).1 refl) (ap₂ ◌&&◌ ((Decides-eqb p.1 p.1).1 refl) (face_eq_self x))

face_eq_equal : (x y : Face) → face_eq x y ≡ true → x ≡ y
face_eq_equal [] [] e = refl
face_eq_equal [] (q ∷ y) e = absurd (true≢false (sym e))
face_eq_equal (p ∷ x) [] e = absurd (true≢false (sym e))
face_eq_equal (p ∷ x) (q ∷ y) e =
    let h = both_true (p.0 == q.0) ((p.1 == q.1) && face_eq x y) e in
    let k = both_true (p.1 == q.1) (face_eq x y) h.1 in
    ap₂ ◌∷◌ (ap₂ (λ a b. (a, b)) ((Decides-eqb p.0 q.0).0 h.0) ((Decides-eqb p.1 q.1).0 k.0)) (face_eq_equal x y k.1)

-- the rest of the faces by `rest`
found_at : (x y : Face) (ys : List Face) → ((id : ℕ) → get_or ys id [] ≡ x → get_or ys (position_or_len (face_eq x) ys) [] ≡ x) →
    (id : ℕ) → get_or (y ∷ ys) id [] ≡ x → (b : Bool) → face_eq x y ≡ b →
    get_or (y ∷ ys) (if not b then 1 + position_or_len (face_eq x) ys else zero) [] ≡ x
found_at x y ys rest id e true is = sym (face_eq_equal x y is)
found_at x y ys rest zero e false is = absurd (true≢false (sym (face_eq_self x) ∙ ap (face_eq x) (sym e) ∙ is))
found_at x y ys rest (suc id) e false is =
    let next : 1 + position_or_len (face_eq x) ys ≡ suc (position_or_len (face_eq x) ys) = omega arith in
    ap (λ k. get_or (y ∷ ys) k []) next ∙ rest id e

found_face : (x : Face) (all : List Face) (id : ℕ) → get_or all id [] ≡ x → get_or all (position_or_len (face_eq x) all) [] ≡ x
found_face x [] id e = e
found_face x (y ∷ ys) id e = found_at x y ys (found_face x ys) id e (face_eq x y) refl

pub same_face : (shape : Shape) (id : ℕ) → face_at shape (face_number shape id) ≡ face_at shape id
same_face shape id = found_face (face_at shape id) shape.faces id refl
