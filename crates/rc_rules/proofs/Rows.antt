-- Rows of what cards have.
use Rattle.std.proofs.Common.{◌≡◌, ℕ, zero, suc, ◌+◌, ◌<◌, List, [], ◌∷◌, ◌++◌, length, get_or, take, map, Some, None, slice_get, arith, refl, sym, ap, ◌∙◌, pos, ◌+ℤ◌, cond}
use Rattle.std.specs.List.{fold, range_with_len}
use Rattle.std.proofs.lemmas.List.{take_more, map-append}
use Rattle.rc_base.specs.Numbers.{below}
use Rattle.rc_base.specs.Clamp.{clamped}
use Rattle.rc_base.specs.Deck.{Entry, fits_entry, points_of}
use Rattle.rc_play_spec.proofs.SiteLemmas.{unwrap}

-- one card more
pub row_more : {A B : Type 0} (f : A → B) (d : A) (xs : List A) (done done' : List B) (i : ℕ) (b : B) → i < length xs → b ≡ f (get_or xs i d) →
    done' ≡ done ++ b ∷ [] → done ≡ map f (take i xs) → done' ≡ map f (take (i + 1) xs)
row_more f d xs done done' i b lt is grown told =
    grown ∙ ap (λ ys. ys ++ b ∷ []) told ∙ ap (λ y. map f (take i xs) ++ y ∷ []) is
    ∙ sym (ap (map f) (take_more xs i d lt) ∙ map-append f (take i xs) (get_or xs i d ∷ []))

-- what stands in a row
pub in_row : {A B : Type 0} (f : A → B) (d : A) (e : B) → e ≡ f d → (xs : List A) (i : ℕ) → get_or (map f xs) i e ≡ f (get_or xs i d)
in_row f d e same [] i = same
in_row f d e same (x ∷ xs) zero = refl
in_row f d e same (x ∷ xs) (suc i) = in_row f d e same xs i

ranged : {B : Type 0} (f : ℕ → B) (a len n : ℕ) (b : B) → Some b ≡ slice_get (map f (range_with_len a len)) n → b ≡ f (a + n)
ranged f a zero n b is = absurd (cc)
ranged f a (suc len) zero b is = unwrap b (f a) is ∙ ap f (omega arith)
ranged f a (suc len) (suc n) b is = ranged f (a + 1) len n b is ∙ ap f (omega arith)

pub row_below : {B : Type 0} (f : ℕ → B) (len n : ℕ) (b : B) → Some b ≡ slice_get (map f (below len)) n → b ≡ f n
row_below f len n b is = ranged f 0 len n b is ∙ ap f (omega arith)

pub row_found : {A B : Type 0} (f : A → B) (d : A) (xs : List A) (n : ℕ) (b : B) → Some b ≡ slice_get (map f xs) n → b ≡ f (get_or xs n d)
row_found f d [] n b is = absurd (cc)
row_found f d (x ∷ xs) zero b is = unwrap b (f x) is
row_found f d (x ∷ xs) (suc n) b is = row_found f d xs n b is

pub row_missing : {A B : Type 0} (f : A → B) (d : A) (xs : List A) (n : ℕ) → None ≡ slice_get (map f xs) n → d ≡ get_or xs n d
row_missing f d [] n is = refl
row_missing f d (x ∷ xs) zero is = absurd (cc)
row_missing f d (x ∷ xs) (suc n) is = row_missing f d xs n is

-- what has no face is worth nothing
nothing : (entries : List Entry) → fold ◌+ℤ◌ (pos 0) (map (λ e. cond (fits_entry e []) e.points (pos 0)) entries) ≡ pos 0
nothing [] = refl
nothing (e ∷ entries) = nothing entries

pub no_points : (entries : List Entry) → pos 0 ≡ points_of entries []
no_points entries = sym (ap clamped (nothing entries))
