-- Paths of machines: places one more and one less, how many stages are open, and that the item at a path of a well formed
-- sheet is well formed.
use Rattle.std.proofs.Common.{◌≡◌, ℕ, zero, suc, ◌+◌, Bool, true, false, List, [], ◌∷◌, ◌++◌, length, drop, slice_get, Option, Some, None, refl, sym, ap, ◌∙◌, subst, length-append, arith}
use Rattle.rc_sheet_spec.specs.Sheet.{Class, game_class, player_class, team_class, Test, SheetItem, do_item, stage, choice, SheetItems, no_item, item, Sheet}
use Rattle.rc_sheet_spec.specs.Lists.{item_list}
use Rattle.rc_sheet_spec.specs.WellFormed.{Around, in_stage, IsTest, IsItem, AreItems}
use Rattle.rc_play_spec.specs.Step.{Stage, Part, round, turn, todos}
use Rattle.rc_play_spec.specs.Path.{Path, stage_at, stage_in, body_of, marks_of, within, left_here, left_of, body_at}
use Rattle.rc_play_spec.specs.Fits.{around}
use Rattle.rc_play_spec.proofs.PathLemmas.{body-more}
use Rattle.rc_play_spec.proofs.DepthLemmas.{none_within}
use Rattle.rc_play_spec.proofs.FrameLemmas.{around-todos}
use Rattle.rc_play_spec.proofs.SiteLemmas.{none_not-some}
use Rattle.rc_plain.specs.Paths.{ArePlaces, IsPath, item_at}

-- PLACES

pub within_first : (items : List SheetItem) (i : ℕ) (outer : List ℕ) (s : Stage) → stage_at items i ≡ Some s →
    body_at items (i ∷ outer) ≡ body_at (item_list s.body) outer
within_first items i outer s is = body-more items i outer ∙ ap (λ o. body_at (body_of o) outer) is

pub one_more : (items : List SheetItem) (outer : List ℕ) (n : ℕ) (s : Stage) → ArePlaces items outer → stage_at (body_at items outer) n ≡ Some s →
    ArePlaces items (outer ++ n ∷ [])
one_more items [] n s are is = (s, is, tt)
one_more items (i ∷ outer) n s are is = (
  are.0,
  are.1,
  one_more (item_list (are.0).body) outer n s are.2
      (ap (λ body. stage_at body n) (sym (within_first items i outer are.0 are.1)) ∙ is),
)

pub all_but_last : (items : List SheetItem) (outer : List ℕ) (n : ℕ) → ArePlaces items (outer ++ n ∷ []) →
    ArePlaces items outer × (s : Stage) × (stage_at (body_at items outer) n ≡ Some s)
all_but_last items [] n are = (tt, are.0, are.1)
all_but_last items (i ∷ outer) n are =
    let rest = all_but_last (item_list (are.0).body) outer n are.2 in
    ((are.0, are.1, rest.0), rest.1, ap (λ body. stage_at body n) (within_first items i outer are.0 are.1) ∙ rest.2)

-- where no stage is next, no round is
pub not_round : (sheet : Sheet) (path : Path) → IsPath sheet path → stage_in (item_at sheet path) ≡ None → path.at_round ≡ false
not_round sheet path is none = by_cases path.at_round (is.at_stage) where
  by_cases : (b : Bool) → (b ≡ true → (s : Stage) × (stage_in (item_at sheet path) ≡ Some s)) → b ≡ false
  by_cases false at = refl
  by_cases true at = let s = at refl in absurd (none_not-some s.0 (sym none ∙ s.1))

-- HOW MANY STAGES ARE OPEN

around_within : (items : List SheetItem) (outer : List ℕ) (next : ℕ) (behind : List Part) → ArePlaces items outer →
    length (around (left_here (within items outer behind) next false)) ≡ length outer + length (around behind)
around_within items [] next behind are = let same = ap length (around-todos (drop next items) behind) in omega (arith, same)
around_within items (i ∷ outer) next behind are =
    let rest : List Part = todos (drop (i + 1) items) ++ behind in
    let s = are.0 in
    let start : length (around (left_here (within items (i ∷ outer) behind) next false))
    ≡ length (around (left_here (within (item_list s.body) outer (turn s ∷ round s ∷ rest)) next false)) =
    ap (λ (o : Option Stage). length (around (left_here (within (body_of o) outer (marks_of o ++ todos (drop (i + 1) items) ++ behind)) next false))) are.1 in
    let inner = around_within (item_list s.body) outer next (turn s ∷ round s ∷ rest) are.2 in
    let opened : length (around (turn s ∷ round s ∷ rest)) ≡ length (around rest ++ s ∷ []) = refl in
    let here = length-append (around rest) (s ∷ []) in
    let same = ap length (around-todos (drop (i + 1) items) behind) in
    omega (arith, start, inner, opened, here, same)

-- so many as there are places
pub open_stages : (items : List SheetItem) (path : Path) → ArePlaces items path.outer → path.at_round ≡ false →
    length (around (left_of items path)) ≡ length path.outer
open_stages items path are here =
    let all = around_within items path.outer path.next [] are in
    ap (λ b. length (around (left_here (within items path.outer []) path.next b))) here ∙ all ∙ (omega arith)

-- WELL FORMED ITEMS

-- an item that is well formed, outside any binder
abbrev pub IsOutside : Sheet → SheetItem → Type 0
IsOutside sheet i = (around : Around) × (around.binders ≡ 0) × IsItem sheet around i

in_list : (sheet : Sheet) (around : Around) (items : SheetItems) (n : ℕ) (i : SheetItem) → AreItems sheet around items →
    slice_get (item_list items) n ≡ Some i → IsItem sheet around i
in_list sheet around no_item n i are is = absurd (none_not-some i is)
in_list sheet around (item j items) zero i are is = subst (IsItem sheet around) (let e : j ≡ i = cc in e) are.0
in_list sheet around (item j items) (suc n) i are is = in_list sheet around items n i are.1 is

in_body : (sheet : Sheet) (around : Around) (number : ℕ) (class : Class) (end : Test) (body : SheetItems) →
    IsItem sheet around (stage number class end body) →
    IsTest sheet (in_stage class around) end × AreItems sheet (in_stage class around) body × ((in_stage class around).binders ≡ around.binders)
in_body sheet around number game_class end body is = absurd is
in_body sheet around number player_class end body is = (is.0, is.2, refl)
in_body sheet around number team_class end body is = (is.0, is.2, refl)

through : (sheet : Sheet) (k n : ℕ) (outer : List ℕ) (i : SheetItem) →
    ((around : Around) (body : SheetItems) (behind : List Part) → around.binders ≡ 0 → AreItems sheet around body →
    slice_get (within (item_list body) outer behind).0 n ≡ Some i → IsOutside sheet i) →
    (around : Around) → around.binders ≡ 0 → (o : Option SheetItem) → ((j : SheetItem) → o ≡ Some j → IsItem sheet around j) → (behind : List Part) →
    slice_get (within (body_of (stage_in o)) outer behind).0 n ≡ Some i → IsOutside sheet i
through sheet k n outer i rest around no_binder None are behind is = absurd (none_within outer behind n i is)
through sheet k n outer i rest around no_binder (Some (do_item effects)) are behind is = absurd (none_within outer behind n i is)
through sheet k n outer i rest around no_binder (Some (choice site alts)) are behind is = absurd (none_within outer behind n i is)
through sheet k n outer i rest around no_binder (Some (stage number class end body)) are behind is =
    let inner = in_body sheet around number class end body (are (stage number class end body) refl) in
    rest (in_stage class around) body behind (inner.2 ∙ no_binder) inner.1 is

along : (sheet : Sheet) (outer : List ℕ) (n : ℕ) (i : SheetItem) (around : Around) (items : SheetItems) (behind : List Part) → around.binders ≡ 0 →
    AreItems sheet around items → slice_get (within (item_list items) outer behind).0 n ≡ Some i → IsOutside sheet i
along sheet [] n i around items behind no_binder are is = (around, no_binder, in_list sheet around items n i are is)
along sheet (k ∷ outer) n i around items behind no_binder are is =
    through sheet k n outer i (λ around body behind no_binder are is. along sheet outer n i around body behind no_binder are is)
    around no_binder (slice_get (item_list items) k) (λ j at. in_list sheet around items k j are at) _ is

-- the item at a path
pub item_outside : (sheet : Sheet) (path : Path) (i : SheetItem) (around : Around) → around.binders ≡ 0 → AreItems sheet around sheet.items →
    item_at sheet path ≡ Some i → IsOutside sheet i
item_outside sheet path i around no_binder are is = along sheet path.outer path.next i around sheet.items [] no_binder are is

-- the end test of a stage
pub end_outside : (sheet : Sheet) (number : ℕ) (class : Class) (end : Test) (body : SheetItems) → IsOutside sheet (stage number class end body) →
    (around : Around) × (around.binders ≡ 0) × IsTest sheet around end
end_outside sheet number class end body is =
    let inner = in_body sheet is.0 number class end body is.2 in (in_stage class is.0, inner.2 ∙ is.1, inner.0)
