-- A collection has at most 512 cards, and a number is within the clamp.
use Rattle.std.proofs.Common.{ℕ, zero, suc, ◌≤◌, Bool, true, false, cond, if◌then◌else◌, List, [], ◌∷◌, ◌++◌, length, get_or, map, slice_get, ℤ, pos, ◌+ℤ◌, ◌-ℤ◌, ◌*ℤ◌, Option, Some, None, arith}
use Rattle.std.specs.Prelude.{filter, fold, All}
use Rattle.std.specs.List.{AllByRecursion}
use Rattle.std.proofs.lemmas.List.{length-take}
use Rattle.std.proofs.lemmas.List.Elements.{recursion_from_All}
use Rattle.std.proofs.lemmas.Int.{ints, clamps}
use Rattle.rc_base.specs.Clamp.{IsWithinClamp, clamped}
use Rattle.rc_base.specs.Deck.{Entry, Face, fits_entry, points_of}
use Rattle.rc_sheet_spec.specs.Sheet.{CollExpr, group_var, cards_in, filtered, union_of, known_in, IntExpr, literal, number, size_of, sum_of, worth_of, add, subtract, multiply, Sheet}
use Rattle.rc_sheet_spec.specs.WellFormed.{Around, IsInt}
use Rattle.rc_play_spec.specs.Value.{Scene, Bind, cut, group_of, card_bound, cards_there, known_there, loc_place, num_place, number_there, worth, worth_of_any, card_value, coll_value, colls_value, int_value, test_value}

pub cut_within : {C : Type 0} (xs : List C) → length (cut xs) ≤ 512
cut_within xs = let e = length-take 512 xs in omega (arith, e)

kept_fewer : {C : Type 0} (b : Bool) (x : C) (xs : List C) → length (cond b (x ∷ xs) xs) ≤ length (x ∷ xs)
kept_fewer true x xs = omega arith
kept_fewer false x xs = omega arith

pub filter_fewer : {C : Type 0} (p : C → Bool) (xs : List C) → length (filter p xs) ≤ length xs
filter_fewer p [] = omega arith
filter_fewer p (x ∷ xs) = let h = kept_fewer (p x) x (filter p xs) in let k = filter_fewer p xs in omega arith

pub clamped_within : (z : ℤ) → IsWithinClamp (clamped z)
clamped_within z = (omega (arith, ints, clamps), omega (arith, ints, clamps))

pub points_within : (entries : List Entry) (face : Face) → IsWithinClamp (points_of entries face)
points_within entries face = clamped_within (fold ◌+ℤ◌ (pos 0) (map (λ entry. if fits_entry entry face then entry.points else pos 0) entries))

module _ {C : Type 0} (scene : Scene C) where
  pub coll_within : (vars : List (Bind C)) (e : CollExpr) → length (coll_value scene vars e) ≤ 512
  coll_within vars (group_var k) = cut_within (group_of (slice_get vars k))
  coll_within vars (cards_in loc) = cut_within (cards_there scene (loc_place scene.known vars loc))
  coll_within vars (filtered cards bound u) =
      let h = filter_fewer (λ c. test_value scene (vars ++ card_bound c ∷ []) u) (coll_value scene vars cards) in
      let k = coll_within vars cards in omega arith
  coll_within vars (union_of parts) = cut_within (colls_value scene vars parts)
  coll_within vars (known_in loc) = cut_within (known_there scene (loc_place scene.known vars loc))

  zero_within : IsWithinClamp (pos 0)
  zero_within = (omega (arith, ints), omega (arith, ints))

  numbers_within : (numbers : List ℤ) (n : ℕ) → AllByRecursion IsWithinClamp numbers → IsWithinClamp (get_or numbers n (pos 0))
  numbers_within [] n all = zero_within
  numbers_within (z ∷ numbers) zero all = all.0
  numbers_within (z ∷ numbers) (suc n) all = numbers_within numbers n all.1

  number_within : (o : Option ℕ) → AllByRecursion IsWithinClamp scene.known.numbers → IsWithinClamp (number_there scene.known.numbers o)
  number_within None all = zero_within
  number_within (Some n) all = numbers_within scene.known.numbers n all

  worth_within : (points : ℕ) (o : Option C) → IsWithinClamp (worth_of_any scene points o)
  worth_within points None = zero_within
  worth_within points (Some c) = points_within (get_or scene.known.sheet.points points []) (scene.face c)

  size_within : (n : ℕ) → n ≤ 512 → IsWithinClamp (pos n)
  size_within n le = (omega (arith, ints), omega (arith, ints))

  -- where the numbers are, and the literal is if it is one
  abbrev pub IsLiteralWithin : IntExpr → Type 0
  IsLiteralWithin (literal value) = IsWithinClamp value
  IsLiteralWithin e = Unit {0}

  pub int_within : (vars : List (Bind C)) (e : IntExpr) → AllByRecursion IsWithinClamp scene.known.numbers → IsLiteralWithin e → IsWithinClamp (int_value scene vars e)
  int_within vars (literal value) numbers is = is
  int_within vars (number num) numbers is = number_within (num_place scene.known vars num) numbers
  int_within vars (size_of cards) numbers is = size_within (length (coll_value scene vars cards)) (coll_within vars cards)
  int_within vars (sum_of cards points) numbers is =
      clamped_within (fold ◌+ℤ◌ (pos 0) (map (worth scene points) (coll_value scene vars cards)))
  int_within vars (worth_of card points) numbers is = worth_within points (card_value scene vars card)
  int_within vars (add a b) numbers is = clamped_within (int_value scene vars a +ℤ int_value scene vars b)
  int_within vars (subtract a b) numbers is = clamped_within (int_value scene vars a -ℤ int_value scene vars b)
  int_within vars (multiply a b) numbers is = clamped_within (int_value scene vars a *ℤ int_value scene vars b)

  -- a literal of a well formed sheet is
  literal_within : (sheet : Sheet) (around : Around) (e : IntExpr) → IsInt sheet around e → IsLiteralWithin e
  literal_within sheet around (literal value) is = is
  literal_within sheet around (number num) is = tt
  literal_within sheet around (size_of cards) is = tt
  literal_within sheet around (sum_of cards points) is = tt
  literal_within sheet around (worth_of card points) is = tt
  literal_within sheet around (add a b) is = tt
  literal_within sheet around (subtract a b) is = tt
  literal_within sheet around (multiply a b) is = tt

  pub number_bounded : (sheet : Sheet) (around : Around) (vars : List (Bind C)) (e : IntExpr) → IsInt sheet around e →
      All IsWithinClamp scene.known.numbers → IsWithinClamp (int_value scene vars e)
  number_bounded sheet around vars e is within =
      int_within vars e (recursion_from_All IsWithinClamp scene.known.numbers within) (literal_within sheet around e is)
