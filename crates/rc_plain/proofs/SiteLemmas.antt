-- A choice that is found among items, and one that isn't there.
use Rattle.std.proofs.Common.{◌≡◌, ℕ, ◌+◌, ◌≤◌, ◌<◌, ◌==◌, true, false, List, [], ◌∷◌, ◌++◌, map, length, drop, get_or, slice_get, take, ◌-◌, Option, Some, None, is_some, option_map, Vec, Global, refl, sym, ap, ◌∙◌, subst, append_assoc, append-nil, length-append, true≢false, arith}
use Rattle.std.proofs.lemmas.Bool.{cond-false, ne_eqb}
use Rattle.std.proofs.Math.Seq.{take-append_seam}
use Rattle.std.proofs.lemmas.List.{drop_more}
use Rattle.std.proofs.lemmas.Option.{slice_get-map, slice_get-get_or}
use Rattle.rc_ast.specs.declared.items.SheetItem.{SheetItem, Choice, Stage}
use Rattle.rc_ast.specs.declared.items.Alt.{Alt}
use Rattle.rc_ast.specs.declared.expressions.Test.{Test}
use Rattle.rc_ast.specs.Expressions.{test_seen}
use Rattle.rc_ast.specs.Items.{item_seen, items_seen, alts_seen}
use Rattle.rc_ast.proofs.ViewLemmas.{stage_seen}
use Rattle.rc_sheet_spec.specs.Sheet.{Class, SheetItems, choice}
use Rattle.rc_sheet_spec.specs.Lists.{item_list}
use Rattle.rc_play_spec.specs.Menu.{alts_in, alts_in_item}
use Rattle.rc_play_spec.specs.Step.{Stage as PureStage}
use Rattle.rc_play_spec.specs.Path.{stage_at, stage_in, body_at, item_depth, items_depth}
use Rattle.rc_play_spec.proofs.DepthLemmas.{nth_depth}
use Rattle.rc_plain.specs.Paths.{ArePlaces, Finds}
use Rattle.rc_plain.proofs.StageLemmas.{item_list-from, stage_is}
use Rattle.rc_plain.proofs.PathLemmas.{within_first}

-- THE ITEM AT A PLACE OF A LIST

pub tree_at : (xs : List SheetItem) (i : ℕ) (x : SheetItem) → i < length xs → x ≡ get_or xs i x →
    slice_get (item_list (items_seen xs)) i ≡ Some (item_seen x)
tree_at xs i x lt is =
    ap (λ ys. slice_get ys i) (item_list-from (map item_seen xs))
    ∙ slice_get-map item_seen xs i ∙ ap (option_map item_seen) (slice_get-get_or xs i x lt) ∙ ap (λ y. Some (item_seen y)) (sym is)

-- an item of the rest has no choice with this site
pub not_there : (site : ℕ) (xs : List SheetItem) (i : ℕ) (x : SheetItem) → i < length xs → x ≡ get_or xs i x → alts_in_item site (item_seen x) ≡ [] →
    alts_in site (items_seen (drop (i + 1) xs)) ≡ alts_in site (items_seen (drop i xs))
not_there site xs i x lt is none =
    let rest = alts_in site (items_seen (drop (i + 1) xs)) in
    sym (ap (λ ys. alts_in site (items_seen ys)) (drop_more xs i x lt)
    ∙ ap (λ y. alts_in_item site (item_seen y) ++ rest) (sym is)
    ∙ ap (λ first. first ++ rest) none)

-- a choice with another number
pub other_choice : (site other : ℕ) (alts : Vec Alt Global) (x : SheetItem) → x ≡ Choice other alts → (other ≡ site → ⊥) → alts_in_item site (item_seen x) ≡ []
other_choice site other alts x is differs =
    ap (λ y. alts_in_item site (item_seen y)) is ∙ cond-false (other == site) (alts_seen alts.items ∷ []) [] (ne_eqb other site differs)

-- a stage whose body has none
pub none_in_stage : (site number : ℕ) (class : Class) (end : Test) (body : Vec SheetItem Global) (x : SheetItem) → x ≡ Stage number class end body →
    alts_in site (items_seen body.items) ≡ [] → alts_in_item site (item_seen x) ≡ []
none_in_stage site number class end body x is none =
    ap (λ y. alts_in_item site (item_seen y)) is ∙ ap (alts_in_item site) (stage_seen number class end body) ∙ none

-- FOUND

pub found_here : (site other place i : ℕ) (alts : Vec Alt Global) (xs : List SheetItem) (x : SheetItem) (before after : List ℕ) → i < length xs → x ≡ get_or xs i x →
    place ≡ i → x ≡ Choice other alts → other ≡ site → after ≡ before → Finds (items_seen xs) site before after (Some place)
found_here site other place i alts xs x before after lt is at choice_is that same = (
  [],
  alts_seen alts.items,
  same ∙ sym (append-nil before),
  tt,
  ap (slice_get (item_list (items_seen xs))) at ∙ tree_at xs i x lt is ∙ ap (λ y. Some (item_seen y)) choice_is
      ∙ ap (λ k. Some (choice k (alts_seen alts.items))) that,
)

found_below : (items body : SheetItems) (site place : ℕ) (before between after : List ℕ) (s : PureStage) (r : Option ℕ) → stage_at (item_list items) place ≡ Some s →
    s.body ≡ body → between ≡ before ++ place ∷ [] → is_some r ≡ true → Finds body site between after r → Finds items site before after r
found_below items body site place before between after s None there same more some finds = absurd (true≢false (sym some))
found_below items body site place before between after s (Some n) there same more some finds = (
  place ∷ finds.0,
  finds.1,
  finds.2 ∙ ap (λ xs. xs ++ finds.0) more ∙ append_assoc before (place ∷ []) finds.0,
  (s, there, subst (λ b. ArePlaces (item_list b) finds.0) (sym same) finds.3),
  ap (λ xs. slice_get xs n) (within_first (item_list items) place finds.0 s there ∙ ap (λ b. body_at (item_list b) finds.0) same) ∙ finds.4,
)

pub found_in_stage : (site place i number : ℕ) (class : Class) (end : Test) (body : Vec SheetItem Global) (xs : List SheetItem) (x : SheetItem) (before between after : List ℕ) (r : Option ℕ) →
    i < length xs → x ≡ get_or xs i x → place ≡ i → x ≡ Stage number class end body → between ≡ before ++ place ∷ [] → is_some r ≡ true →
    Finds (items_seen body.items) site between after r → Finds (items_seen xs) site before after r
found_in_stage site place i number class end body xs x before between after r lt is at stage_there more some finds =
    found_below (items_seen xs) (items_seen body.items) site place before between after
    (record { number = number; class = class; end = test_seen end; body = items_seen body.items }) r
    (ap (λ k. stage_at (item_list (items_seen xs)) k) at ∙ ap stage_in (tree_at xs i x lt is) ∙ stage_is x number class end body stage_there)
    refl more some finds

-- nothing found in a stage
pub not_found : (items : SheetItems) (site : ℕ) (before after : List ℕ) (r : Option ℕ) → is_some r ≡ false → Finds items site before after r →
    (after ≡ before) × (alts_in site items ≡ [])
not_found items site before after None none finds = finds
not_found items site before after (Some n) none finds = absurd (true≢false none)

-- ROOM

-- a stage among items has a depth less
pub room_below : (number : ℕ) (class : Class) (end : Test) (body : Vec SheetItem Global) (xs : List SheetItem) (i : ℕ) (x : SheetItem) → i < length xs →
    x ≡ get_or xs i x → x ≡ Stage number class end body → 1 + items_depth (items_seen body.items) ≤ items_depth (items_seen xs)
room_below number class end body xs i x lt is stage_there =
    let deep = nth_depth (items_seen xs) i (item_seen x) (tree_at xs i x lt is) in
    let same : item_depth (item_seen x) ≡ 1 + items_depth (items_seen body.items) =
    ap item_depth (ap item_seen stage_there ∙ stage_seen number class end body) in
    omega (arith, deep, same)

-- all but the last place
pub but_last : (xs ys : List ℕ) (n : ℕ) → ys ≡ xs ++ n ∷ [] → take (length ys - 1) ys ≡ xs
but_last xs ys n is =
    let count = ap length is in
    let more = length-append xs (n ∷ []) in
    let less : length ys - 1 ≡ length xs = omega (arith, count, more) in
    ap (λ k. take k ys) less ∙ ap (take (length xs)) is ∙ take-append_seam xs (n ∷ [])
