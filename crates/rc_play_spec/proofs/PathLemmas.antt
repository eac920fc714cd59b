-- What is left by a path is what the cases of a step say.
use Rattle.std.proofs.Common.{◌≡◌, ℕ, ◌+◌, ◌≤◌, Bool, true, false, List, [], ◌∷◌, ◌++◌, length, drop, slice_get, Some, refl, sym, ap, ◌∙◌, subst}
use Rattle.std.proofs.lemmas.List.{drop_more, drop_all}
use Rattle.std.proofs.lemmas.Option.{slice_get_within, get_or_from_slice_get}
use Rattle.rc_sheet_spec.specs.Sheet.{SheetItem}
use Rattle.rc_sheet_spec.specs.Lists.{item_list}
use Rattle.rc_play_spec.specs.Step.{Stage, Part, todo, round, turn, todos}
use Rattle.rc_play_spec.specs.Path.{Path, stage_at, stage_in, body_of, round_of, marks_of, within, left_here, left_of, body_at, next_item, past, into}

todos-drop : (items : List SheetItem) (n : ℕ) (i : SheetItem) → slice_get items n ≡ Some i → todos (drop n items) ≡ todo i ∷ todos (drop (n + 1) items)
todos-drop items n i is =
    ap todos (drop_more items n i (slice_get_within items n i is))
    ∙ ap (λ (x : SheetItem). todo x ∷ todos (drop (n + 1) items)) (get_or_from_slice_get items n i i is)

within-append : (items : List SheetItem) (outer : List ℕ) (n : ℕ) (behind : List Part) →
    within items (outer ++ n ∷ []) behind
    ≡ (body_of (stage_at (within items outer behind).0 n), marks_of (stage_at (within items outer behind).0 n) ++ todos (drop (n + 1) (within items outer behind).0) ++ (within items outer behind).1)
within-append items [] n behind = refl
within-append items (i ∷ outer) n behind = within-append (body_of (stage_at items i)) outer n (marks_of (stage_at items i) ++ todos (drop (i + 1) items) ++ behind)

within-body : (items : List SheetItem) (outer : List ℕ) (b b' : List Part) → (within items outer b).0 ≡ (within items outer b').0
within-body items [] b b' = refl
within-body items (i ∷ outer) b b' = within-body (body_of (stage_at items i)) outer (marks_of (stage_at items i) ++ todos (drop (i + 1) items) ++ b) (marks_of (stage_at items i) ++ todos (drop (i + 1) items) ++ b')

-- the body of the first place, and on from there
pub body-more : (items : List SheetItem) (i : ℕ) (outer : List ℕ) → body_at items (i ∷ outer) ≡ body_at (body_of (stage_at items i)) outer
body-more items i outer = within-body (body_of (stage_at items i)) outer (marks_of (stage_at items i) ++ todos (drop (i + 1) items) ++ []) []

left-not : (items : List SheetItem) (path : Path) → path.at_round ≡ false →
    left_of items path ≡ todos (drop path.next (within items path.outer []).0) ++ (within items path.outer []).1
left-not items path here = ap (left_here (within items path.outer []) path.next) here

-- an item stands first
pub left-item : (items : List SheetItem) (path : Path) (i : SheetItem) → path.at_round ≡ false → next_item items path ≡ Some i →
    left_of items path ≡ todo i ∷ left_of items (past path)
left-item items path i here is =
    left-not items path here ∙ ap (λ ps. ps ++ (within items path.outer []).1) (todos-drop (body_at items path.outer) path.next i is)

-- a round stands first
pub left-round : (items : List SheetItem) (path : Path) (s : Stage) → path.at_round ≡ true → stage_in (next_item items path) ≡ Some s →
    left_of items path ≡ round s ∷ left_of items (past path)
left-round items path s here is =
    ap (left_here (within items path.outer []) path.next) here
    ∙ ap (λ o. round_of o ++ todos (drop (path.next + 1) (within items path.outer []).0) ++ (within items path.outer []).1) is

-- the body, the turn and the round stand before what follows
pub left-into : (items : List SheetItem) (path : Path) (s : Stage) → stage_in (next_item items path) ≡ Some s →
    left_of items (into path) ≡ todos (item_list s.body) ++ turn s ∷ round s ∷ left_of items (past path)
left-into items path s is =
    ap (λ here. left_here here 0 false) (within-append items path.outer path.next [])
    ∙ ap (λ o. todos (body_of o) ++ (marks_of o ++ todos (drop (path.next + 1) (within items path.outer []).0) ++ (within items path.outer []).1)) is

-- behind the last item of a body the turn stands first, and then the round
pub left-turn : (items : List SheetItem) (outer : List ℕ) (n next : ℕ) (s : Stage) →
    stage_in (slice_get (body_at items outer) n) ≡ Some s → length (body_at items (outer ++ n ∷ [])) ≤ next →
    left_of items (record { outer = outer ++ n ∷ []; next = next; at_round = false })
    ≡ turn s ∷ left_of items (record { outer = outer; next = n; at_round = true })
left-turn items outer n next s is end =
    ap (λ ps. todos ps ++ (within items (outer ++ n ∷ []) []).1) (drop_all next (body_at items (outer ++ n ∷ [])) end)
    ∙ ap (λ here. here.1) (within-append items outer n [])
    ∙ ap (λ o. marks_of o ++ todos (drop (n + 1) (within items outer []).0) ++ (within items outer []).1) is
    ∙ ap (λ o. turn s ∷ round_of o ++ todos (drop (n + 1) (within items outer []).0) ++ (within items outer []).1) (sym is)

-- behind the last item of all nothing is left
pub left-end : (items : List SheetItem) (next : ℕ) → length items ≤ next → left_of items (record { outer = []; next = next; at_round = false }) ≡ []
left-end items next end = ap (λ ps. todos ps ++ []) (drop_all next items end)

-- the same for a path whose parts are known
pub turn_left : (items : List SheetItem) (outer outer' : List ℕ) (place next : ℕ) (b : Bool) (s : Stage) → outer ≡ outer' ++ place ∷ [] → b ≡ false →
    stage_in (slice_get (body_at items outer') place) ≡ Some s → length (body_at items outer) ≤ next →
    left_of items (record { outer = outer; next = next; at_round = b }) ≡ turn s ∷ left_of items (record { outer = outer'; next = place; at_round = true })
turn_left items outer outer' place next b s was here is end =
    ap (λ r. left_of items (record { outer = outer; next = next; at_round = r })) here
    ∙ ap (λ o. left_of items (record { outer = o; next = next; at_round = false })) was
    ∙ left-turn items outer' place next s is (subst (λ o. length (body_at items o) ≤ next) was end)

pub end_left : (items : List SheetItem) (outer : List ℕ) (next : ℕ) (b : Bool) → outer ≡ [] → b ≡ false → length (body_at items outer) ≤ next →
    left_of items (record { outer = outer; next = next; at_round = b }) ≡ []
end_left items outer next b was here end =
    ap (λ r. left_of items (record { outer = outer; next = next; at_round = r })) here
    ∙ ap (λ o. left_of items (record { outer = o; next = next; at_round = false })) was
    ∙ left-end items next (subst (λ o. length (body_at items o) ≤ next) was end)
