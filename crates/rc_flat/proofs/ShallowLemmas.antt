-- Few stages stand inside one another in what is left to run, at the start, at each choice, and wherever steps lead.
use Rattle.std.proofs.Common.{◌≡◌, ℕ, ◌+◌, ◌≤◌, ◌==◌, nat_le, Bool, true, false, if◌then◌else◌, List, [], ◌∷◌, ◌++◌, length, slice_index_or, refl, ap, subst, arith, append-nil, length-append}
use Rattle.std.specs.List.{AllByRecursion}
use Rattle.rc_sheet_spec.specs.Sheet.{Alt, SheetItem, do_item, stage, choice, SheetItems, no_item, item, Sheet}
use Rattle.rc_sheet_spec.specs.Lists.{item_list}
use Rattle.rc_sheet_spec.specs.WellFormed.{IsWellFormed}
use Rattle.rc_play_spec.specs.Control.{Control}
use Rattle.rc_play_spec.specs.Table.{Table}
use Rattle.rc_play_spec.specs.Menu.{Item, menu_from}
use Rattle.rc_play_spec.specs.About.{About, scene_at}
use Rattle.rc_play_spec.specs.Effects.{Dealing}
use Rattle.rc_play_spec.specs.Step.{Stage, Part, todo, round, turn, todos, Config, goes, at_menu, at_round, first_step, step, start}
use Rattle.rc_play_spec.specs.Decision.{left_in_item, left_in, left_at, choose_first, choose}
use Rattle.rc_play_spec.specs.Path.{item_depth, items_depth}
use Rattle.rc_play_spec.specs.Fits.{around}
use Rattle.rc_play_spec.proofs.StopFacts.{Of, Of-if}
use Rattle.rc_play_spec.proofs.DepthLemmas.{few_stages}
use Rattle.rc_flat.specs.Shallow.{AreShallow}

around_items : (items : SheetItems) (parts : List Part) → around (todos (item_list items) ++ parts) ≡ around parts
around_items no_item parts = refl
around_items (item i items) parts = around_items items parts

items_shallow : (items : SheetItems) (parts : List Part) → items_depth items + length (around parts) ≤ 63 → AreShallow parts →
    AreShallow (todos (item_list items) ++ parts)
items_shallow no_item parts le are = are
items_shallow (item i items) parts le are =
    let e = ap length (around_items items parts) in
    (omega (arith, le, e), items_shallow items parts (omega (arith, le)) are)

-- WHEREVER STEPS LEAD

module _ {S : Type 0} (about : About) (dealing : Dealing S) where
  menu_shallow : (k : S) (site : ℕ) (alts : List Alt) (rest : List Part) (table : Table) (control : Control) (items : List Item) →
      AreShallow (todo (choice site alts) ∷ rest) →
      Of (λ c. AreShallow c.left) (λ stop c. AreShallow c.left) (at_menu about dealing k site alts rest table control items)
  menu_shallow k site alts rest table control [] are = are.1
  menu_shallow k site alts rest table control (first ∷ items) are =
      Of-if (λ c. AreShallow c.left) (λ stop c. AreShallow c.left) (nat_le about.turns control.turn) _ _ (λ e. are) (λ e. are)

  round_shallow : (k : S) (s : Stage) (rest : List Part) (table : Table) (control : Control) (b : Bool) → AreShallow (round s ∷ rest) →
      Of (λ c. AreShallow c.left) (λ stop c. AreShallow c.left) (at_round about dealing k s rest table control b)
  round_shallow k s rest table control true are = are.1
  round_shallow k s rest table control false are =
      Of-if (λ c. AreShallow c.left) (λ stop c. AreShallow c.left) (nat_le about.turns control.turn) _ _ (λ e. are) (λ e.
      let h = are.0 in
      let e = length-append (around rest) (s ∷ []) in
      items_shallow s.body (turn s ∷ round s ∷ rest) (omega (arith, h, e)) are)

  first_shallow : (k : S) (left : List Part) (table : Table) (control : Control) → AreShallow left →
      Of (λ c. AreShallow c.left) (λ stop c. AreShallow c.left) (first_step about dealing k left table control)
  first_shallow k [] table control are = tt
  first_shallow k (todo (do_item effects) ∷ rest) table control are = are.1
  first_shallow k (todo (stage number class end body) ∷ rest) table control are = let h = are.0 in (omega (arith, h), are.1)
  first_shallow k (todo (choice site alts) ∷ rest) table control are =
      menu_shallow k site alts rest table control (menu_from (scene_at about table control.frames) alts) are
  first_shallow k (round s ∷ rest) table control are = round_shallow k s rest table control _ are
  first_shallow k (turn s ∷ rest) table control are = are

  pub step_shallow : (k k' : S) (c c' : Config) → AreShallow c.left → step about dealing k c ≡ goes k' c' → AreShallow c'.left
  step_shallow k k' c c' are is =
      subst (Of (λ c. AreShallow c.left) (λ stop c. AreShallow c.left)) is (first_shallow k c.left c.table c.control are)

  choice_first : (k : S) (x : ℕ) (left : List Part) (table : Table) (control : Control) → AreShallow left →
      Of (λ c. AreShallow c.left) (λ stop c. AreShallow c.left) (choose_first about dealing k x left table control)
  choice_first k x [] table control are = are
  choice_first k x (todo (do_item effects) ∷ rest) table control are = are
  choice_first k x (todo (stage number class end body) ∷ rest) table control are = are
  choice_first k x (todo (choice site alts) ∷ rest) table control are = are.1
  choice_first k x (round s ∷ rest) table control are = are
  choice_first k x (turn s ∷ rest) table control are = are

  pub choice_shallow : (k k' : S) (x : ℕ) (c c' : Config) → AreShallow c.left → choose about dealing k x c ≡ goes k' c' → AreShallow c'.left
  choice_shallow k k' x c c' are is =
      subst (Of (λ c. AreShallow c.left) (λ stop c. AreShallow c.left)) is (choice_first k x c.left c.table c.control are)

-- AT THE START

pub start_shallow : (about : About) → IsWellFormed about.sheet → AreShallow (start about).left
start_shallow about formed =
    let items = about.sheet.items in
    let few = few_stages about.sheet formed in
    subst AreShallow (append-nil (todos (item_list items))) (items_shallow items [] (omega (arith, few)) tt)

-- AT A CHOICE

all_both : (xs ys : List (List Part)) → AllByRecursion AreShallow xs → AllByRecursion AreShallow ys → AllByRecursion AreShallow (xs ++ ys)
all_both [] ys are are' = are'
all_both (x ∷ xs) ys are are' = (are.0, all_both xs ys are.1 are')

one_if : (b : Bool) (parts : List Part) → AreShallow parts → AllByRecursion AreShallow (if b then parts ∷ [] else [])
one_if true parts are = (are, tt)
one_if false parts are = tt

mutual
  item_left : (site : ℕ) (i : SheetItem) (rest : List Part) → item_depth i + length (around rest) ≤ 63 → AreShallow rest →
      AllByRecursion AreShallow (left_in_item site i rest)
  item_left site (do_item effects) rest le are = tt
  item_left site (stage number class end body) rest le are =
      let s : Stage = record { number = number; class = class; end = end; body = body } in
      let e = length-append (around rest) (s ∷ []) in
      items_left site body (turn s ∷ round s ∷ rest) (omega (arith, le, e)) (omega (arith, le), are)
  item_left site (choice number alts) rest le are = one_if (number == site) (todo (choice number alts) ∷ rest) (le, are)

  items_left : (site : ℕ) (items : SheetItems) (rest : List Part) → items_depth items + length (around rest) ≤ 63 → AreShallow rest →
      AllByRecursion AreShallow (left_in site items rest)
  items_left site no_item rest le are = tt
  items_left site (item i items) rest le are =
      let e = ap length (around_items items rest) in
      all_both (left_in_item site i (todos (item_list items) ++ rest)) (left_in site items rest)
      (item_left site i (todos (item_list items) ++ rest) (omega (arith, le, e)) (items_shallow items rest (omega (arith, le)) are))
      (items_left site items rest (omega (arith, le)) are)

first_of : (lists : List (List Part)) → AllByRecursion AreShallow lists → AreShallow (slice_index_or lists 0 [])
first_of [] are = tt
first_of (list ∷ lists) are = are.0

pub site_shallow : (sheet : Sheet) (site : ℕ) → IsWellFormed sheet → AreShallow (left_at sheet site)
site_shallow sheet site formed =
    let few = few_stages sheet formed in
    first_of (left_in site sheet.items []) (items_left site sheet.items [] (omega (arith, few)) tt)
