-- The classes of a sheet's stages: how many there are, and the first of them.
use Rattle.std.proofs.Common.{◌≡◌, ℕ, zero, suc, ◌+◌, ◌≤◌, List, [], ◌∷◌, ◌++◌, length, take, slice_get, Some, None, refl, sym, ap, ◌∙◌, arith, length-append}
use Rattle.rc_sheet_spec.specs.Sheet.{Class, SheetItem, do_item, stage, choice, SheetItems, no_item, item}
use Rattle.rc_sheet_spec.specs.Mentions.{stages_in_item, stages_in}
use Rattle.rc_play_spec.specs.Owners.{classes_in_item, classes_in}

mutual
  item_count : (i : SheetItem) → length (classes_in_item i) ≡ length (stages_in_item i)
  item_count (do_item effects) = refl
  item_count (stage number class end body) = ap suc (class_count body)
  item_count (choice site alts) = refl

  -- as many as stages
  pub class_count : (items : SheetItems) → length (classes_in items) ≡ length (stages_in items)
  class_count no_item = refl
  class_count (item i items) =
      let a = length-append (stages_in_item i) (stages_in items) in
      let b = length-append (classes_in_item i) (classes_in items) in
      let c = item_count i in
      let d = class_count items in
      omega (arith, a, b, c, d)

-- one more of the first
pub one_more : (classes : List Class) (number : ℕ) (class : Class) → Some class ≡ slice_get classes number →
    take (number + 1) classes ≡ take number classes ++ class ∷ []
one_more [] number class is = absurd (cc)
one_more (x ∷ classes) zero class is = let e : class ≡ x = cc in ap (λ y. y ∷ []) (sym e)
one_more (x ∷ classes) (suc number) class is =
    ap (λ n. take n (x ∷ classes)) (let e : suc number + 1 ≡ suc (number + 1) = omega arith in e)
    ∙ ap (λ ys. x ∷ ys) (one_more classes number class is)

pub one_within : (classes : List Class) (number : ℕ) (class : Class) → Some class ≡ slice_get classes number → number + 1 ≤ length classes
one_within [] number class is = absurd (cc)
one_within (x ∷ classes) zero class is = omega arith
one_within (x ∷ classes) (suc number) class is = let h = one_within classes number class is in omega (arith, h)

-- behind the last
pub none_more : (classes : List Class) (number : ℕ) → None ≡ slice_get classes number → take number classes ≡ classes
none_more [] zero is = refl
none_more [] (suc number) is = refl
none_more (x ∷ classes) zero is = absurd (cc)
none_more (x ∷ classes) (suc number) is = ap (λ ys. x ∷ ys) (none_more classes number is)
