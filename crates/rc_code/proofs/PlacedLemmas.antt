-- Each choice of a sheet has its place in code that stands for the sheet, and what is left there is what the sheet leaves at it.
use Rattle.std.proofs.Common.{◌≡◌, ℕ, zero, suc, ◌+◌, ◌<◌, ◌≤◌, ◌==◌, false, List, [], ◌∷◌, ◌++◌, length, drop, reverse, slice_get, Some, ◌⊎◌, inl, inr, refl, sym, ap, ap₂, ◌∙◌, subst, append_assoc, append-nil, length-append, arith}
use Rattle.std.specs.List.{range_with_len}
use Rattle.std.proofs.lemmas.List.{drop_at, drop-drop, reverse-append, map-append}
use Rattle.std.proofs.lemmas.Bool.{eq-eqb, cond-true}
use Rattle.rc_sheet_spec.specs.Sheet.{Alt, SheetItem, do_item, stage, choice, SheetItems, no_item, item, Sheet}
use Rattle.rc_sheet_spec.specs.Lists.{item_list}
use Rattle.rc_sheet_spec.specs.Mentions.{sites_in, sites_in_item}
use Rattle.rc_sheet_spec.specs.WellFormed.{IsWellFormed}
use Rattle.rc_play_spec.specs.Menu.{alts_at}
use Rattle.rc_play_spec.specs.Step.{Stage, Part, todo, round, turn, todos}
use Rattle.rc_play_spec.specs.Decision.{left_in, left_in_item, left_at}
use Rattle.rc_play_spec.specs.Path.{item_depth, items_depth}
use Rattle.rc_play_spec.proofs.SiteLemmas.{IsIn, IsIn-left, IsIn-right, only_one, times, times-once, count_items, first_alts, alts_at_left}
use Rattle.rc_play_spec.proofs.DepthLemmas.{few_stages}
use Rattle.rc_code.specs.Instruction.{Block, Instruction, begin_stage, offer, end_body, SitePlace, Code}
use Rattle.rc_code.specs.Meaning.{items_in, items_from, first_stage, behind_stage, stage_at, behind_at, left_behind}
use Rattle.rc_code.specs.Meaning.{left_in as left_in_code}
use Rattle.rc_code.specs.Stands.{ItemStands, ItemsStand, StandsFor}
use Rattle.rc_code.specs.Implements.{path_to, IsPlaced}
use Rattle.rc_code.proofs.MeaningLemmas.{items_choice}
use Rattle.rc_code.proofs.CompiledLemmas.{joined_items, joined_items-none, says_before_items}

-- LISTS

in_either : {A : Type 0} (a : A) (bs cs : List A) → IsIn a (bs ++ cs) → IsIn a bs ⊎ IsIn a cs
in_either a [] cs is = inr is
in_either a (b ∷ bs) cs (inl is) = inl (inl is)
in_either a (b ∷ bs) cs (inr is) = behind (in_either a bs cs is) where
  behind : IsIn a bs ⊎ IsIn a cs → IsIn a (b ∷ bs) ⊎ IsIn a cs
  behind (inl is) = inl (inr is)
  behind (inr is) = inr is

in_range : (first many n : ℕ) → n < many → IsIn (first + n) (range_with_len first many)
in_range first zero n less = absurd (omega (arith, less))
in_range first (suc many) zero less = inl (omega arith)
in_range first (suc many) (suc n) less =
    let next : first + 1 + n ≡ first + suc n = omega arith in
    inr (subst (λ k. IsIn k (range_with_len (first + 1) many)) next (in_range (first + 1) many n (omega (arith, less))))

cases : {A B C : Type 0} → A ⊎ B → (A → C) → (B → C) → C
cases (inl a) f g = f a
cases (inr b) f g = g b

first_dropped : (code : List Instruction) (n : ℕ) → slice_get code n ≡ slice_get (drop n code) 0
first_dropped [] zero = refl
first_dropped [] (suc n) = refl
first_dropped (i ∷ code) zero = refl
first_dropped (i ∷ code) (suc n) = first_dropped code n

-- the items of two lists, one behind the other
joined_list : (is js : SheetItems) → item_list (joined_items is js) ≡ item_list is ++ item_list js
joined_list no_item js = refl
joined_list (item i is) js = ap (λ rest. i ∷ rest) (joined_list is js)

-- WHERE CHOICES STAND

module _ (list : List Instruction) (sites : List SitePlace) (site : ℕ) where
  -- The choice with this number stands within so many stages, and what is left at it is among these.
  record Stood (depth : ℕ) (lefts : List (List Part)) : Type 0 where
    at : SitePlace
    has : slice_get sites site ≡ Some at
    alts : List Alt
    blocks : List Block
    inside : ℕ
    there : slice_get list at.place ≡ Some (offer site alts blocks inside)
    rest : List Part
    left : left_in_code list (path_to at) ≡ todo (choice site alts) ∷ rest
    among : IsIn (todo (choice site alts) ∷ rest) lefts
    few : length at.outer ≤ depth

  among_more : {depth deeper : ℕ} {lefts more : List (List Part)} → depth ≤ deeper → ((left : List Part) → IsIn left lefts → IsIn left more) →
      Stood depth lefts → Stood deeper more
  among_more {depth = depth} {deeper = deeper} less through s =
      let few = s.few in
      record {
        at = s.at;
        has = s.has;
        alts = s.alts;
        blocks = s.blocks;
        inside = s.inside;
        there = s.there;
        rest = s.rest;
        left = s.left;
        among = through (todo (choice site s.alts) ∷ s.rest) s.among;
        few = omega (arith, few, less);
      }

  -- the code from a place on, where these stages are open and this is left behind it
  abbrev Leaves : List ℕ → List Instruction → List Part → Type 0
  Leaves outer rest left = todos (items_from rest) ++ left_behind list (reverse outer) ≡ left

  -- behind the first item are the others
  leaves_items : (outer : List ℕ) (at : ℕ) (items : SheetItems) (more rest : List Instruction) (left : List Part) → ItemsStand sites outer at items more →
      Leaves outer rest left → Leaves outer (more ++ rest) (todos (item_list items) ++ left)
  leaves_items outer at items more rest left stands behind =
      let open' = left_behind list (reverse outer) in
      ap (λ is. todos (item_list is) ++ open') (says_before_items sites outer at items more rest stands)
      ∙ ap (λ is. todos is ++ open') (joined_list items (items_in rest))
      ∙ ap (λ parts. parts ++ open') (map-append todo (item_list items) (items_from rest))
      ∙ append_assoc (todos (item_list items)) (todos (items_from rest)) open'
      ∙ ap (λ parts. todos (item_list items) ++ parts) behind

  -- behind a body is the stage's turn
  module _ (outer : List ℕ) (at : ℕ) (s : Stage) (inside rest : List Instruction) (left : List Part)
      (stands : ItemsStand sites (outer ++ at ∷ []) (at + 1) s.body inside)
      (here : drop at list ≡ begin_stage s.number s.class s.end (length inside + 1) ∷ ((inside ++ end_body ∷ []) ++ rest)) (behind : Leaves outer rest left) where
    body_in : items_in ((inside ++ end_body ∷ []) ++ rest) ≡ s.body
    body_in =
        ap items_in (append_assoc inside (end_body ∷ []) rest)
        ∙ says_before_items sites (outer ++ at ∷ []) (at + 1) s.body inside (end_body ∷ rest) stands ∙ joined_items-none s.body

    stage_is : stage_at list at ≡ s
    stage_is = ap first_stage here ∙ ap (λ (b : SheetItems). record { number = s.number; class = s.class; end = s.end; body = b }) body_in

    behind_is : behind_at list at ≡ items_from rest
    behind_is =
        ap (λ (c : List Instruction). items_from (behind_stage c)) here
        ∙ ap items_from (drop_at (inside ++ end_body ∷ []) rest (length inside + 1) (length-append inside (end_body ∷ [])))

    leaves_turn : Leaves (outer ++ at ∷ []) (end_body ∷ rest) (turn s ∷ round s ∷ left)
    leaves_turn =
        ap (left_behind list) (reverse-append outer (at ∷ []))
        ∙ ap₂ (λ (t : Stage) (is : List SheetItem). turn t ∷ round t ∷ (todos is ++ left_behind list (reverse outer))) stage_is behind_is
        ∙ ap (λ parts. turn s ∷ round s ∷ parts) behind

    body_here : drop (at + 1) list ≡ inside ++ (end_body ∷ rest)
    body_here = sym (drop-drop 1 at list) ∙ ap (drop 1) here ∙ append_assoc inside (end_body ∷ []) rest

  mutual
    in_item : (outer : List ℕ) (at : ℕ) (i : SheetItem) (code rest : List Instruction) (left : List Part) → ItemStands sites outer at i code →
        drop at list ≡ code ++ rest → Leaves outer rest left → IsIn site (sites_in_item i) → Stood (length outer + item_depth i) (left_in_item site i left)
    in_item outer at (do_item effects) code rest left stands here behind is = absurd is
    in_item outer at (stage number class end body) code rest left stands here behind is =
        let s : Stage = record { number = number; class = class; end = end; body = body } in
        let inside = stands.0 in
        let begins = here ∙ ap (λ c. c ++ rest) stands.1 in
        let next = leaves_turn outer at s inside rest left stands.2 begins behind in
        let then = body_here outer at s inside rest left stands.2 begins behind in
        let found = in_items (outer ++ at ∷ []) (at + 1) body inside (end_body ∷ rest) (turn s ∷ round s ∷ left) stands.2 then next is in
        let one = length-append outer (at ∷ []) in
        among_more (omega (arith, one)) (λ left is. is) found
    in_item outer at (choice number alts) code rest left stands here behind (inr is) = absurd is
    in_item outer at (choice number alts) code rest left stands here behind (inl same) =
        let inside = stands.0 in
        let blocks = stands.1 in
        let begins : drop at list ≡ offer number alts blocks (length inside) ∷ (inside ++ rest) = here ∙ ap (λ c. c ++ rest) stands.2 in
        let first = todo (choice site alts) ∷ left in
        let lefts : left_in_code list (record { outer = outer; next = at; at_round = false }) ≡ todo (choice number alts) ∷ left =
        ap (λ (c : List Instruction). todos (items_from c) ++ left_behind list (reverse outer)) begins
        ∙ ap (λ (is : SheetItems). todos (item_list is) ++ left_behind list (reverse outer)) (items_choice number alts blocks (length inside) (inside ++ rest))
        ∙ ap (λ (c : List Instruction). todo (choice number alts) ∷ (todos (items_from c) ++ left_behind list (reverse outer))) (drop_at inside rest (length inside) refl)
        ∙ ap (λ parts. todo (choice number alts) ∷ parts) behind in
        let numbered : todo (choice number alts) ∷ left ≡ first = ap (λ n. todo (choice n alts) ∷ left) (sym same) in
        record {
          at = record { outer = outer; place = at };
          has = ap (slice_get sites) same ∙ stands.4;
          alts = alts;
          blocks = blocks;
          inside = length inside;
          there =
              first_dropped list at ∙ ap (λ c. slice_get c 0) begins
              ∙ ap (λ n. Some (offer n alts blocks (length inside))) (sym same);
          rest = left;
          left = lefts ∙ numbered;
          among =
              subst (IsIn first) (sym (cond-true (number == site) ((todo (choice number alts) ∷ left) ∷ []) [] (eq-eqb number site (sym same))))
              (inl (sym numbered));
          few = omega arith;
        }

    in_items : (outer : List ℕ) (at : ℕ) (items : SheetItems) (code rest : List Instruction) (left : List Part) → ItemsStand sites outer at items code →
        drop at list ≡ code ++ rest → Leaves outer rest left → IsIn site (sites_in items) → Stood (length outer + items_depth items) (left_in site items left)
    in_items outer at no_item code rest left stands here behind is = absurd is
    in_items outer at (item i items) code rest left stands here behind is =
        let first = stands.0 in
        let more = stands.1 in
        let next = todos (item_list items) ++ left in
        let begins = here ∙ ap (λ c. c ++ rest) stands.2 ∙ append_assoc first more rest in
        let then = sym (drop-drop (length first) at list) ∙ ap (drop (length first)) begins ∙ drop_at first (more ++ rest) (length first) refl in
        let others = leaves_items outer (at + length first) items more rest left stands.4 behind in
        cases (in_either site (sites_in_item i) (sites_in items) is)
        (λ is. among_more (omega arith) (λ l is. IsIn-left l (left_in_item site i next) (left_in site items left) is)
        (in_item outer at i first (more ++ rest) next stands.3 begins others is))
        (λ is. among_more (omega arith) (λ l is. IsIn-right l (left_in_item site i next) (left_in site items left) is)
        (in_items outer (at + length first) items more rest left stands.4 then behind is))

-- a choice that stands in the code of a well formed sheet is the one that the sheet has at the site
placed : (sheet : Sheet) (code : Code) (site : ℕ) → IsWellFormed sheet →
    Stood code.list code.sites site (0 + items_depth sheet.items) (left_in site sheet.items []) → IsPlaced sheet code site
placed sheet code site formed s =
    let once = times-once site 0 (length (sites_in sheet.items)) in
    let one : length (left_in site sheet.items []) ≤ 1 =
    subst (λ k. k ≤ 1) (sym (count_items site sheet.items [] ∙ ap (times site) formed.numbered.sites)) once in
    let left : left_at sheet site ≡ todo (choice site s.alts) ∷ s.rest = only_one _ [] (left_in site sheet.items []) one s.among in
    let alts : alts_at sheet site ≡ s.alts = alts_at_left sheet site ∙ ap first_alts left in
    let deep = few_stages sheet formed in
    let few = s.few in
    record {
      at = s.at;
      has = s.has;
      blocks = s.blocks;
      inside = s.inside;
      there = s.there ∙ ap (λ these. Some (offer site these s.blocks s.inside)) (sym alts);
      left = s.left ∙ sym left;
      few = omega (arith, few, deep);
    }

pub sites_placed : (sheet : Sheet) (code : Code) (site : ℕ) → StandsFor sheet code → IsWellFormed sheet → site < length (sites_in sheet.items) →
    IsPlaced sheet code site
sites_placed sheet code site stands formed less =
    let many = length (sites_in sheet.items) in
    let plain : 0 + site ≡ site = omega arith in
    let counted : IsIn site (range_with_len 0 many) = subst (λ k. IsIn k (range_with_len 0 many)) plain (in_range 0 many site less) in
    let is = subst (IsIn site) (sym formed.numbered.sites) counted in
    placed sheet code site formed
    (in_items code.list code.sites site [] 0 sheet.items code.list [] [] stands.items (sym (append-nil code.list)) refl is)
