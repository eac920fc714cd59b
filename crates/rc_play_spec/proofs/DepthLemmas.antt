-- A form opens a list for each stage, so that few stages stand inside one another and few are open at one time.
use Rattle.std.proofs.Common.{◌≡◌, ℕ, zero, suc, ◌+◌, ◌-◌, ◌≤◌, nat_le, Bool, true, false, List, [], ◌∷◌, ◌++◌, length, slice_get, Option, Some, None, refl, ap, subst, arith, append-nil, length-append}
use Rattle.std.proofs.lemmas.List.{length-map}
use Rattle.rc_base.specs.Tree.{Tree, word, list, Trees, nil, cons, IsOpenAtMost, AreOpenAtMost}
use Rattle.rc_sheet_spec.specs.Sheet.{Alt, SheetItem, do_item, stage, choice, SheetItems, no_item, item, Sheet}
use Rattle.rc_sheet_spec.specs.Naming.{Naming, sheet_naming}
use Rattle.rc_sheet_spec.specs.Lists.{item_list}
use Rattle.rc_sheet_spec.specs.Rows.{End}
use Rattle.rc_sheet_spec.specs.Stands.{Stands}
use Rattle.rc_sheet_spec.specs.StandsItems.{StandsItem, StandItems}
use Rattle.rc_sheet_spec.specs.WellFormed.{IsWellFormed}
use Rattle.rc_play_spec.specs.Control.{Frame, Control}
use Rattle.rc_play_spec.specs.Table.{Table}
use Rattle.rc_play_spec.specs.Menu.{Item, menu_from}
use Rattle.rc_play_spec.specs.About.{About, scene_at}
use Rattle.rc_play_spec.specs.Effects.{Dealing}
use Rattle.rc_play_spec.specs.Step.{Stage, Part, todo, round, turn, todos, at_menu, at_round, first_step, start}
use Rattle.rc_play_spec.specs.Stop.{Stopped}
use Rattle.rc_play_spec.specs.Decision.{choose_first}
use Rattle.rc_play_spec.specs.Path.{Path, stage_in, body_of, within, next_item, item_depth, items_depth}
use Rattle.rc_play_spec.specs.Play.{reached}
use Rattle.rc_play_spec.specs.Fits.{around, HasFrames}
use Rattle.rc_play_spec.proofs.StopFacts.{Of, Of-if}
use Rattle.rc_play_spec.proofs.KeptLemmas.{reached_holds}
use Rattle.rc_play_spec.proofs.FrameLemmas.{frames_first, choice_first, start_frames}

module _ (naming : Naming) where
  mutual
    item_shallow : (room : ℕ) (i : SheetItem) (form : Tree) → StandsItem naming i form → IsOpenAtMost room form → item_depth i ≤ room
    item_shallow room (do_item effects) form stands open' = omega arith
    item_shallow room (choice site alts) form stands open' = omega arith
    item_shallow room (stage number class end body) (word bytes from to) stands open' = absurd stands
    item_shallow room (stage number class end body) (list nil from to) stands open' = absurd stands
    item_shallow room (stage number class end body) (list (cons head nil) from to) stands open' = absurd stands.1
    item_shallow room (stage number class end body) (list (cons head (cons whose nil)) from to) stands open' = absurd stands.1.1
    item_shallow room (stage number class end body) (list (cons head (cons whose (cons last parts))) from to) stands open' =
        let some = open'.0 in
        let inner = body_shallow (room - 1) body parts stands.1.1.1.1 open'.1.1.1.1 in
        omega (arith, some, inner)

    body_shallow : (room : ℕ) (items : SheetItems) (parts : Trees) → StandItems naming items End parts → AreOpenAtMost room parts → items_depth items ≤ room
    body_shallow room no_item parts stands open' = omega arith
    body_shallow room (item i items) nil stands open' = absurd stands
    body_shallow room (item i items) (cons form parts) stands open' =
        let a = item_shallow room i form stands.0 open'.0 in
        let b = body_shallow room items parts stands.1 open'.1 in
        omega (arith, a, b)

  -- items, whatever follows them
  items_shallow : (Rest : Trees → Type 0) (room : ℕ) (items : SheetItems) (parts : Trees) → StandItems naming items Rest parts → AreOpenAtMost room parts →
      items_depth items ≤ room
  items_shallow Rest room no_item parts stands open' = omega arith
  items_shallow Rest room (item i items) nil stands open' = absurd stands
  items_shallow Rest room (item i items) (cons form parts) stands open' =
      let a = item_shallow room i form stands.0 open'.0 in
      let b = items_shallow Rest room items parts stands.1 open'.1 in
      omega (arith, a, b)

pub few_stages : (sheet : Sheet) → IsWellFormed sheet → items_depth sheet.items ≤ 63
few_stages sheet formed = let h = formed.shallow in in_form h.0 h.1 h.2 where
  in_form : (form : Tree) → Stands sheet form → IsOpenAtMost 64 form → items_depth sheet.items ≤ 63
  in_form (word bytes from to) stands open' = absurd stands
  in_form (list nil from to) stands open' = absurd stands
  in_form (list (cons head nil) from to) stands open' = absurd stands.1
  in_form (list (cons head (cons setup parts)) from to) stands open' =
      items_shallow (sheet_naming sheet) _ 63 sheet.items parts stands.1.1.1 open'.1.1.1

-- an item of a list is no deeper than the list
pub nth_depth : (items : SheetItems) (n : ℕ) (i : SheetItem) → slice_get (item_list items) n ≡ Some i →
    item_depth i ≤ items_depth items
nth_depth no_item n i is = absurd (cc)
nth_depth (item j items) zero i is = let e : item_depth j ≡ item_depth i = ap item_depth (let e : j ≡ i = cc in e) in omega (arith, e)
nth_depth (item j items) (suc n) i is = let h = nth_depth items n i is in omega (arith, h)

pub none_within : (outer : List ℕ) (behind : List Part) (n : ℕ) (i : SheetItem) →
    slice_get (within [] outer behind).0 n ≡ Some i → ⊥
none_within [] behind n i is = absurd (cc)
none_within (k ∷ outer) behind n i is = none_within outer _ n i is

path_at : (k n : ℕ) (outer : List ℕ) (i : SheetItem) →
    ((body : SheetItems) (behind : List Part) → slice_get (within (item_list body) outer behind).0 n ≡ Some i → length outer + item_depth i ≤ items_depth body) →
    (o : Option SheetItem) (items : SheetItems) (behind : List Part) → slice_get (item_list items) k ≡ o →
    slice_get (within (body_of (stage_in o)) outer behind).0 n ≡ Some i → suc (length outer) + item_depth i ≤ items_depth items
path_at k n outer i rest None items behind at is = absurd (none_within outer behind n i is)
path_at k n outer i rest (Some (do_item effects)) items behind at is = absurd (none_within outer behind n i is)
path_at k n outer i rest (Some (choice site alts)) items behind at is = absurd (none_within outer behind n i is)
path_at k n outer i rest (Some (stage number class end body)) items behind at is =
    let inner = rest body behind is in
    let here = nth_depth items k (stage number class end body) at in
    omega (arith, inner, here)

path_depth : (outer : List ℕ) (n : ℕ) (i : SheetItem) (items : SheetItems) (behind : List Part) →
    slice_get (within (item_list items) outer behind).0 n ≡ Some i → length outer + item_depth i ≤ items_depth items
path_depth [] n i items behind is = let h = nth_depth items n i is in omega (arith, h)
path_depth (k ∷ outer) n i items behind is =
    path_at k n outer i (λ body behind is. path_depth outer n i body behind is) (slice_get (item_list items) k) items _ refl is

pub shallow_path : (sheet : Sheet) (path : Path) (i : SheetItem) → IsWellFormed sheet → next_item (item_list sheet.items) path ≡ Some i →
    length path.outer + item_depth i ≤ 63
shallow_path sheet path i formed is =
    let h = path_depth path.outer path.next i sheet.items [] is in
    let few = few_stages sheet formed in
    omega (arith, h, few)

module _ {S : Type 0} (about : About) (dealing : Dealing S) (formed : IsWellFormed about.sheet) where
  -- with those around it each part that is left has at most 63 stages inside one another
  abbrev AreShallow : List Part → Type 0
  AreShallow [] = Unit {0}
  AreShallow (todo i ∷ parts) = (item_depth i + length (around parts) ≤ 63) × AreShallow parts
  AreShallow (round s ∷ parts) = (items_depth s.body + (length (around parts) + 1) ≤ 63) × AreShallow parts
  AreShallow (turn s ∷ parts) = AreShallow parts

  few_around : (parts : List Part) → AreShallow parts → length (around parts) ≤ 63
  few_around [] are = omega arith
  few_around (todo i ∷ parts) are = few_around parts are.1
  few_around (round s ∷ parts) are = let h = are.0 in let e = length-append (around parts) (s ∷ []) in omega (arith, h, e)
  few_around (turn s ∷ parts) are = few_around parts are

  around_items : (items : SheetItems) (parts : List Part) → around (todos (item_list items) ++ parts) ≡ around parts
  around_items no_item parts = refl
  around_items (item i items) parts = around_items items parts

  items_shallow_left : (items : SheetItems) (parts : List Part) → items_depth items + length (around parts) ≤ 63 → AreShallow parts →
      AreShallow (todos (item_list items) ++ parts)
  items_shallow_left no_item parts le are = are
  items_shallow_left (item i items) parts le are =
      let e = ap length (around_items items parts) in
      (omega (arith, le, e), items_shallow_left items parts (omega (arith, le)) are)

  menu_few : (k : S) (site : ℕ) (alts : List Alt) (rest : List Part) (table : Table) (control : Control) (items : List Item) → AreShallow (todo (choice site alts) ∷ rest) →
      Of (λ c. AreShallow c.left) (λ stop c. AreShallow c.left) (at_menu about dealing k site alts rest table control items)
  menu_few k site alts rest table control [] are = are.1
  menu_few k site alts rest table control (first ∷ items) are =
      Of-if (λ c. AreShallow c.left) (λ stop c. AreShallow c.left) (nat_le about.turns control.turn) _ _ (λ e. are) (λ e. are)

  round_few : (k : S) (s : Stage) (rest : List Part) (table : Table) (control : Control) (b : Bool) → AreShallow (round s ∷ rest) →
      Of (λ c. AreShallow c.left) (λ stop c. AreShallow c.left) (at_round about dealing k s rest table control b)
  round_few k s rest table control true are = are.1
  round_few k s rest table control false are =
      Of-if (λ c. AreShallow c.left) (λ stop c. AreShallow c.left) (nat_le about.turns control.turn) _ _ (λ e. are) (λ e.
      let h = are.0 in
      let e = length-append (around rest) (s ∷ []) in
      items_shallow_left s.body (turn s ∷ round s ∷ rest) (omega (arith, h, e)) are)

  first_few : (k : S) (left : List Part) (table : Table) (control : Control) → AreShallow left →
      Of (λ c. AreShallow c.left) (λ stop c. AreShallow c.left) (first_step about dealing k left table control)
  first_few k [] table control are = tt
  first_few k (todo (do_item effects) ∷ rest) table control are = are.1
  first_few k (todo (stage number class end body) ∷ rest) table control are = let h = are.0 in (omega (arith, h), are.1)
  first_few k (todo (choice site alts) ∷ rest) table control are =
      menu_few k site alts rest table control (menu_from (scene_at about table control.frames) alts) are
  first_few k (round s ∷ rest) table control are = round_few k s rest table control _ are
  first_few k (turn s ∷ rest) table control are = are

  choice_few : (k : S) (x : ℕ) (left : List Part) (table : Table) (control : Control) → AreShallow left →
      Of (λ c. AreShallow c.left) (λ stop c. AreShallow c.left) (choose_first about dealing k x left table control)
  choice_few k x [] table control are = are
  choice_few k x (todo (do_item effects) ∷ rest) table control are = are
  choice_few k x (todo (stage number class end body) ∷ rest) table control are = are
  choice_few k x (todo (choice site alts) ∷ rest) table control are = are.1
  choice_few k x (round s ∷ rest) table control are = are
  choice_few k x (turn s ∷ rest) table control are = are

  start_few : AreShallow (start about).left
  start_few =
      let items = about.sheet.items in
      let few = few_stages about.sheet formed in
      subst AreShallow (append-nil (todos (item_list items))) (items_shallow_left items [] (omega (arith, few)) tt)

  pub few_left : (items : List ℕ) (k : S) (at : Stopped S) → reached about dealing items k ≡ Some at → length (around at.config.left) ≤ 63
  few_left items k at is =
      few_around at.config.left
      (reached_holds about dealing (λ c. AreShallow c.left) (λ k c are. first_few k c.left c.table c.control are)
      (λ k x c below are. choice_few k x c.left c.table c.control are) start_few items k at is)

  pub few_frames : (items : List ℕ) (k : S) (at : Stopped S) → reached about dealing items k ≡ Some at → length at.config.control.frames ≤ 63
  few_frames items k at is =
      let has =
      reached_holds about dealing HasFrames (λ k c has. frames_first about dealing k c.left c.table c.control has)
      (λ k x c below has. choice_first about dealing k x c.left c.table c.control has) (start_frames about) items k at is in
      let few = few_left items k at is in
      let a = length-map at.config.control.frames (λ (f : Frame). f.stage) in
      let b = length-map (around at.config.left) (λ (s : Stage). s.number) in
      let e = ap length has in
      omega (arith, few, a, b, e)
