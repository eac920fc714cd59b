-- A control that fits a choice site has room in the bytes.
use Rattle.std.proofs.Common.{◌≡◌, ℕ, ◌<◌, ◌≤◌, ◌^◌, ◌==◌, Bool, true, false, if◌then◌else◌, List, [], ◌∷◌, ◌++◌, length, Option, Some, None, refl, sym, subst, arith}
use Rattle.std.specs.Prelude.{IfSome}
use Rattle.std.specs.List.{AllByRecursion, AllZip}
use Rattle.std.proofs.lemmas.List.Elements.{All-from_recursion, recursion_from_All}
use Rattle.rc_base.specs.Numbers.{below}
use Rattle.rc_deck.proofs.EachLemmas.{append_each, parts_of_append}
use Rattle.rc_sheet_spec.specs.Sheet.{SheetItem, do_item, stage, choice, SheetItems, no_item, item, Sheet}
use Rattle.rc_sheet_spec.specs.Lists.{item_list}
use Rattle.rc_sheet_spec.specs.Mentions.{stages_in_item, stages_in}
use Rattle.rc_sheet_spec.specs.WellFormed.{owner_count, IsWellFormed}
use Rattle.rc_play_spec.specs.Control.{Frame}
use Rattle.rc_play_spec.specs.Step.{Stage, Part, todo, round, turn, todos}
use Rattle.rc_play_spec.specs.Decision.{left_in_item, left_in, left_at}
use Rattle.rc_play_spec.specs.Fits.{around, IsFrameOf}
use Rattle.rc_play_spec.proofs.CardLemmas.{numbers_below, get_each}
use Rattle.rc_rules.proofs.ShapeLemmas.{owners_few}
use Rattle.rc_view.specs.Laws.{HasFrameKey, FittingControlsHaveKeys}

-- the open stages around a site are stages of the sheet
module _ (P : ℕ → Type 0) where
  abbrev AreStages : List Part → Type 0
  AreStages left = AllByRecursion (λ (s : Stage). P s.number) (around left)

  before_todos : (items : SheetItems) (rest : List Part) → AreStages rest → AreStages (todos (item_list items) ++ rest)
  before_todos no_item rest are = are
  before_todos (item i items) rest are = before_todos items rest are

  one_if : (b : Bool) (left : List Part) → AreStages left → AllByRecursion AreStages (if b then left ∷ [] else [])
  one_if true left are = (are, tt)
  one_if false left are = tt

  mutual
    item_stages : (site : ℕ) (i : SheetItem) (rest : List Part) → AllByRecursion P (stages_in_item i) → AreStages rest →
        AllByRecursion AreStages (left_in_item site i rest)
    item_stages site (do_item effects) rest all are = tt
    item_stages site (stage number class end body) rest all are =
        let s : Stage = record { number = number; class = class; end = end; body = body } in
        items_stages site body (turn s ∷ round s ∷ rest) all.1 (append_each (λ (s : Stage). P s.number) (around rest) (s ∷ []) are (all.0, tt))
    item_stages site (choice number alts) rest all are = one_if (number == site) (todo (choice number alts) ∷ rest) are

    items_stages : (site : ℕ) (items : SheetItems) (rest : List Part) → AllByRecursion P (stages_in items) → AreStages rest →
        AllByRecursion AreStages (left_in site items rest)
    items_stages site no_item rest all are = tt
    items_stages site (item i items) rest all are =
        let both = parts_of_append P (stages_in_item i) (stages_in items) all in
        append_each AreStages (left_in_item site i (todos (item_list items) ++ rest)) (left_in site items rest)
        (item_stages site i (todos (item_list items) ++ rest) both.0 (before_todos items rest are)) (items_stages site items rest both.1 are)

named_below : (named : Option ℕ) (count : ℕ) → count ≤ 8 → ((n : ℕ) → named ≡ Some n → n < count) → IfSome named (λ n. n < 255)
named_below None count few less = tt
named_below (Some n) count few less = let member = less n refl in omega (arith, member, few)

raised : (n k : ℕ) → n ≤ k → (xs : List ℕ) → AllByRecursion (λ x. x < n) xs → AllByRecursion (λ x. x < k) xs
raised n k most [] all = tt
raised n k most (x ∷ xs) all = (let less = all.0 in omega (arith, less, most), raised n k most xs all.1)

module _ (sheet : Sheet) (formed : IsWellFormed sheet) where
  frame_keys : (stages : List Stage) (frames : List Frame) → AllByRecursion (λ (s : Stage). s.number < 2 ^ 16) stages →
      AllZip (IsFrameOf sheet) stages frames → AllByRecursion HasFrameKey frames
  frame_keys [] [] all are = tt
  frame_keys [] (frame ∷ frames) all are = absurd are
  frame_keys (s ∷ stages) [] all are = absurd are
  frame_keys (s ∷ stages) (frame ∷ frames) all are = (
    record {
      stage = let is = are.0.stage in let less = all.0 in omega (arith, is, less);
      named = named_below frame.named (owner_count sheet s.class) (owners_few sheet formed s.class) are.0.named;
    },
    frame_keys stages frames all.1 are.1,
  )

  stages_few : AllByRecursion (λ n. n < 2 ^ 16) (stages_in sheet.items)
  stages_few =
      let few = formed.limits.stages in
      subst (AllByRecursion (λ n. n < 2 ^ 16)) (sym formed.numbered.stages)
      (raised (length (stages_in sheet.items)) (2 ^ 16) (omega (arith, few)) (below (length (stages_in sheet.items)))
      (numbers_below 0 (length (stages_in sheet.items)) (length (stages_in sheet.items)) (omega arith)))

  around_few : (site : ℕ) → AllByRecursion (λ (s : Stage). s.number < 2 ^ 16) (around (left_at sheet site))
  around_few site =
      get_each (AreStages (λ n. n < 2 ^ 16)) [] tt (left_in site sheet.items []) 0
      (items_stages (λ n. n < 2 ^ 16) site sheet.items [] stages_few tt)

counts_below : (top : ℕ) → top < 2 ^ 32 → (made : List ℕ) → AllByRecursion (λ n. n ≤ top) made → AllByRecursion (λ n. n < 2 ^ 32) made
counts_below top less [] all = tt
counts_below top less (n ∷ made) all = (let most = all.0 in omega (arith, most, less), counts_below top less made all.1)

pub fitting_controls_have_keys : FittingControlsHaveKeys
fitting_controls_have_keys about site control formed fits less = (
  record {
    site = subst (λ o. IfSome o (λ n. n < 255)) (sym fits.stands)
        (let there = fits.there in let few = formed.limits.sites in omega (arith, there, few));
    turn = less;
    made = All-from_recursion (λ n. n < 2 ^ 32) control.made
        (counts_below control.turn less control.made (recursion_from_All (λ n. n ≤ control.turn) control.made fits.counts));
    frames = All-from_recursion HasFrameKey control.frames
        (frame_keys about.sheet formed (around (left_at about.sheet site)) control.frames (around_few about.sheet formed site) fits.frames);
  },
  fits.seats,
)
