-- What two keys of one kind tell where more bytes follow each: the items are equal, and so are the bytes behind them.
use Rattle.std.proofs.Common.{◌≡◌, ℕ, ◌<◌, ◌^◌, Bool, true, false, List, [], ◌∷◌, ◌++◌, length, take, drop, Option, Some, None, ℤ, SFits, to_z, of_z, w16, w32, refl, sym, ap, ap₂, ◌∙◌, arith}
use Rattle.std.specs.Prelude.{flat_map, IfSome}
use Rattle.std.specs.Int.{to_le_bytes, from_le_bytes}
use Rattle.std.specs.List.{AllByRecursion}
use Rattle.std.proofs.lemmas.Int.{ints, to_z-of_z}
use Rattle.std.proofs.lemmas.List.{append_assoc}
use Rattle.std.proofs.lemmas.Nat.{from_le_bytes-to_le_bytes_2, from_le_bytes-to_le_bytes_4}
use Rattle.std.proofs.Math.Facts.{Fits-of_z}
use Rattle.rc_base.specs.Clamp.{IsWithinClamp}
use Rattle.rc_view.specs.Key.{or_none, direction, number_key}

abbrev pub Tells : {X : Type 0} → (X → List ℕ) → X → X → Type 0
Tells key x y = (r s : List ℕ) → key x ++ r ≡ key y ++ s → (x ≡ y) × (r ≡ s)

pub two_tell : (m n : ℕ) → m < 2 ^ 16 → n < 2 ^ 16 → Tells (to_le_bytes w16) m n
two_tell m n less less' r s e = (
  sym (from_le_bytes-to_le_bytes_2 m less) ∙ ap (λ bytes. from_le_bytes w16 (take 2 bytes)) e ∙ from_le_bytes-to_le_bytes_2 n less',
  ap (drop 2) e,
)

pub four_tell : (m n : ℕ) → m < 2 ^ 32 → n < 2 ^ 32 → Tells (to_le_bytes w32) m n
four_tell m n less less' r s e = (
  sym (from_le_bytes-to_le_bytes_4 m less) ∙ ap (λ bytes. from_le_bytes w32 (take 4 bytes)) e ∙ from_le_bytes-to_le_bytes_4 n less',
  ap (drop 4) e,
)

fits_four : (z : ℤ) → IsWithinClamp z → SFits w32 z
fits_four z (least, most) = omega (arith, ints, least, most)

pub numbers_tell : (z z' : ℤ) → IsWithinClamp z → IsWithinClamp z' → Tells number_key z z'
numbers_tell z z' within within' r s e =
    let fits = fits_four z within in
    let fits' = fits_four z' within' in
    let h = four_tell (of_z w32 z) (of_z w32 z') ((Fits-of_z {w = w32} {z = z} fits).fits) ((Fits-of_z {w = w32} {z = z'} fits').fits) r s e in
    (sym (to_z-of_z w32 z fits) ∙ ap (to_z w32) h.0 ∙ to_z-of_z w32 z' fits', h.1)

-- lists of one length, when their items do
module _ {X : Type 0} (key : X → List ℕ) (P : X → Type 0) (one : (x y : X) → P x → P y → Tells key x y) where
  pub lists_tell : (xs ys : List X) → length xs ≡ length ys → AllByRecursion P xs → AllByRecursion P ys → Tells (flat_map key) xs ys
  lists_tell [] [] same all all' r s e = (refl, e)
  lists_tell [] (y ∷ ys) same all all' r s e = absurd (omega (arith, same))
  lists_tell (x ∷ xs) [] same all all' r s e = absurd (omega (arith, same))
  lists_tell (x ∷ xs) (y ∷ ys) same all all' r s e =
      let first = one x y all.0 all'.0 (flat_map key xs ++ r) (flat_map key ys ++ s)
      (sym (append_assoc (key x) (flat_map key xs) r) ∙ e ∙ append_assoc (key y) (flat_map key ys) s) in
      let rest = lists_tell xs ys (omega (arith, same)) all.1 all'.1 r s first.1 in
      (ap₂ ◌∷◌ first.0 rest.0, rest.1)

pub none_told : (a b : Option ℕ) → IfSome a (λ n. n < 255) → IfSome b (λ n. n < 255) → or_none a ≡ or_none b → a ≡ b
none_told None None less less' e = refl
none_told None (Some n) less less' e = absurd (omega (arith, less', e))
none_told (Some m) None less less' e = absurd (omega (arith, less, e))
none_told (Some m) (Some n) less less' e = ap Some e

pub direction_told : (a b : Bool) → direction a ≡ direction b → a ≡ b
direction_told true true e = refl
direction_told true false e = absurd (omega (arith, e))
direction_told false true e = absurd (omega (arith, e))
direction_told false false e = refl
