-- Where stages are numbered in the order of the text, each stage has the class that its number has.
use Rattle.std.proofs.Common.{◌≡◌, ℕ, zero, suc, ◌+◌, ◌<◌, List, [], ◌∷◌, ◌++◌, length, slice_get, Some, refl, ap, ◌∙◌, arith, length-append}
use Rattle.std.specs.List.{range_with_len}
use Rattle.rc_base.specs.Numbers.{below}
use Rattle.rc_sheet_spec.specs.Sheet.{Class, SheetItem, do_item, stage, choice, SheetItems, no_item, item}
use Rattle.rc_sheet_spec.specs.Mentions.{stages_in_item, stages_in}
use Rattle.rc_play_spec.specs.Owners.{classes_in_item, classes_in}

-- each stage of items has its class in this list, at its number
abbrev mutual
  pub HasStages : List Class → SheetItem → Type 0
  HasStages all (do_item effects) = Unit {0}
  HasStages all (stage number class end body) = (slice_get all number ≡ Some class) × HaveStages all body
  HasStages all (choice site alts) = Unit {0}

  pub HaveStages : List Class → SheetItems → Type 0
  HaveStages all no_item = Unit {0}
  HaveStages all (item i items) = HasStages all i × HaveStages all items

mutual
  item_count : (i : SheetItem) → length (stages_in_item i) ≡ length (classes_in_item i)
  item_count (do_item effects) = refl
  item_count (stage number class end body) = ap suc (items_count body)
  item_count (choice site alts) = refl

  items_count : (items : SheetItems) → length (stages_in items) ≡ length (classes_in items)
  items_count no_item = refl
  items_count (item i items) =
      let a = length-append (stages_in_item i) (stages_in items) in
      let b = length-append (classes_in_item i) (classes_in items) in
      let c = item_count i in
      let d = items_count items in
      omega (arith, a, b, c, d)

-- numbers in order are in order in each part
parted : (ns ms : List ℕ) (a : ℕ) → ns ++ ms ≡ range_with_len a (length (ns ++ ms)) →
    (ns ≡ range_with_len a (length ns)) × (ms ≡ range_with_len (a + length ns) (length ms))
parted [] ms a e = let z : a ≡ a + 0 = omega arith in (refl, e ∙ ap (λ k. range_with_len k (length ms)) z)
parted (n ∷ ns) ms a e =
    let first : n ≡ a = cc in
    let more : ns ++ ms ≡ range_with_len (a + 1) (length (ns ++ ms)) = cc in
    let rest = parted ns ms (a + 1) more in
    let z : a + 1 + length ns ≡ a + suc (length ns) = omega arith in
    (ap (λ k. k ∷ ns) first ∙ ap (λ xs. a ∷ xs) rest.0, rest.1 ∙ ap (λ k. range_with_len k (length ms)) z)

get_front : {X : Type 0} (xs ys : List X) (k : ℕ) → k < length xs → slice_get (xs ++ ys) k ≡ slice_get xs k
get_front [] ys k lt = absurd (omega (arith, lt))
get_front (x ∷ xs) ys zero lt = refl
get_front (x ∷ xs) ys (suc k) lt = get_front xs ys k (omega (arith, lt))

get_back : {X : Type 0} (xs ys : List X) (k m : ℕ) → m ≡ length xs + k → slice_get (xs ++ ys) m ≡ slice_get ys k
get_back [] ys k m e = ap (slice_get ys) (omega (arith, e))
get_back (x ∷ xs) ys k zero e = absurd (omega (arith, e))
get_back (x ∷ xs) ys k (suc m) e = get_back xs ys k m (omega (arith, e))

module _ (all : List Class) where
  -- these classes stand in the list from a place on
  abbrev AreAt : ℕ → List Class → Type 0
  AreAt a classes = (k : ℕ) → k < length classes → slice_get all (a + k) ≡ slice_get classes k

  mutual
    item_stages : (i : SheetItem) (a : ℕ) → stages_in_item i ≡ range_with_len a (length (stages_in_item i)) → AreAt a (classes_in_item i) → HasStages all i
    item_stages (do_item effects) a is at = tt
    item_stages (stage number class end body) a is at =
        let first : number ≡ a + 0 = omega (arith, let e : number ≡ a = cc in e) in
        let more : stages_in body ≡ range_with_len (a + 1) (length (stages_in body)) = cc in (
          ap (slice_get all) first ∙ at 0 (omega arith),
          all_stages body (a + 1) more (λ k lt. let z : a + 1 + k ≡ a + suc k = omega arith in ap (slice_get all) z ∙ at (suc k) (omega (arith, lt))),
        )
    item_stages (choice site alts) a is at = tt

    pub all_stages : (items : SheetItems) (a : ℕ) → stages_in items ≡ range_with_len a (length (stages_in items)) → AreAt a (classes_in items) →
        HaveStages all items
    all_stages no_item a is at = tt
    all_stages (item i items) a is at =
        let parts = parted (stages_in_item i) (stages_in items) a is in
        let count = item_count i in
        let long = length-append (classes_in_item i) (classes_in items) in (
          item_stages i a parts.0 (λ k lt. at k (omega (arith, lt, long)) ∙ get_front (classes_in_item i) (classes_in items) k lt),
          all_stages items (a + length (stages_in_item i)) parts.1 (λ k lt.
              let z : a + length (stages_in_item i) + k ≡ a + (length (classes_in_item i) + k) = omega (arith, count) in
              ap (slice_get all) z ∙ at (length (classes_in_item i) + k) (omega (arith, lt, long))
              ∙ get_back (classes_in_item i) (classes_in items) k (length (classes_in_item i) + k) refl),
        )

pub stages_numbered : (items : SheetItems) → stages_in items ≡ below (length (stages_in items)) → HaveStages (classes_in items) items
stages_numbered items is =
    all_stages (classes_in items) items 0 is (λ k lt. let z : 0 + k ≡ k = omega arith in ap (slice_get (classes_in items)) z)
