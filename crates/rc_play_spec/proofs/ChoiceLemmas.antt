-- A choice is an item of the menu, and a function of the view.
use Rattle.std.proofs.Common.{◌≡◌, ℕ, suc, ◌+◌, ◌*◌, ◌<◌, ◌==◌, max, Bool, true, false, not, cond, List, [], ◌∷◌, length, Some, refl, sym, ap, ◌∙◌, inl, inr, ⊎_elim, ◌⊎◌, arith}
use Rattle.std.specs.Prelude.{fold, slice_index, unwrap_or}
use Rattle.std.specs.List.{position_or_len}
use Rattle.std.proofs.Math.Nat.{mod-lt}
use Rattle.std.proofs.lemmas.Bool.{cases_order}
use Rattle.std.proofs.lemmas.Bool.Decides.{Decides-eqb}
use Rattle.rc_sheet_spec.specs.Sight.{IsInSight}
use Rattle.rc_sheet_spec.specs.Sheet.{do_item, stage, choice}
use Rattle.rc_play_spec.specs.Control.{Control}
use Rattle.rc_play_spec.specs.Owners.{mover}
use Rattle.rc_play_spec.specs.Shape.{places}
use Rattle.rc_play_spec.specs.Table.{Table}
use Rattle.rc_play_spec.specs.View.{View, view_of, view_scene}
use Rattle.rc_play_spec.specs.Alike.{IsAlike}
use Rattle.rc_play_spec.specs.Menu.{menu_of}
use Rattle.rc_play_spec.specs.About.{About, menu_at}
use Rattle.rc_play_spec.specs.Draws.{key32, word_of}
use Rattle.rc_play_spec.specs.Redraw.{redraw}
use Rattle.rc_play_spec.specs.RedrawLaws.{IsViewOfSound}
use Rattle.rc_play_spec.specs.Plan.{Plan, Strategy, scripted, random, rollout, strategy_at, deal_at}
use Rattle.rc_play_spec.specs.Strategy.{menu_size, first_largest}
use Rattle.rc_play_spec.specs.Tally.{Ask, tally}
use Rattle.rc_play_spec.specs.Keyed.{choice_of, chooser_of}
use Rattle.rc_play_spec.proofs.Alike.{equal_views}
use Rattle.rc_play_spec.proofs.Counting.{one_if, same, passing}
use Rattle.rc_play_spec.proofs.DrawLemmas.{word_of-lt, scaled-lt}
use Rattle.rc_play_spec.proofs.PlayoutLemmas.{tally-length}
use Rattle.rc_play_spec.proofs.Redrawn.{redrawn-menu}
use Rattle.rc_play_spec.proofs.Seen.{menu_of_view}
use Rattle.rc_play_spec.specs.Effects.{Dealing}
use Rattle.rc_play_spec.specs.Step.{Part, todo, round, turn, Config, goes}
use Rattle.rc_play_spec.specs.Decision.{choose_first}

place-step : (b : Bool) (n k m : ℕ) → (0 < k → n < m) → 0 < one_if b + k → cond (not b) (1 + n) 0 < suc m
place-step true n k m h some = omega arith
place-step false n k m h some = let l = h (omega (arith, some)) in omega (arith, l)

place-lt : {X : Type 0} (p : X → Bool) (xs : List X) → 0 < passing p xs → position_or_len p xs < length xs
place-lt p [] some = absurd (omega (arith, some))
place-lt p (x ∷ xs) some = place-step (p x) (position_or_len p xs) (passing p xs) (length xs) (place-lt p xs) some

is-there : (x m : ℕ) (k : ℕ) → x ≡ m → 0 < one_if (x == m) + k
is-there x m k e = let h = ap one_if ((Decides-eqb x m).1 e) in omega (arith, h)

pub larger : (a x : ℕ) → (max a x ≡ a) ⊎ (max a x ≡ x)
larger a x =
    ⊎_elim (λ e. inl (omega (arith, e))) (λ r. ⊎_elim (λ l. inr (omega (arith, l))) (λ l. inl (omega (arith, l))) r) (cases_order a x)

max-there : (a : ℕ) (xs : List ℕ) → (fold max a xs ≡ a) ⊎ (0 < passing (same (fold max a xs)) xs)
max-there a [] = inl refl
max-there a (x ∷ xs) =
    ⊎_elim
    (λ e. ⊎_elim (λ is. inl (e ∙ is)) (λ is. inr (is-there x (fold max (max a x) xs) (passing (same (fold max (max a x) xs)) xs) (sym is ∙ sym e))) (larger a x))
    (λ some. inr (omega (arith, some)))
    (max-there (max a x) xs)

pub first_largest-lt : (totals : List ℕ) → 0 < length totals → first_largest totals < length totals
first_largest-lt [] some = absurd (omega (arith, some))
first_largest-lt (x ∷ xs) some =
    place-lt (λ t. t == fold max 0 (x ∷ xs)) (x ∷ xs) (⊎_elim
    (λ e. is-there x (fold max (max 0 x) xs) (passing (same (fold max (max 0 x) xs)) xs) (let h : max 0 x ≡ x = omega arith in sym h ∙ sym e))
    (λ more. let l : 0 < one_if (x == fold max (max 0 x) xs) + passing (same (fold max (max 0 x) xs)) xs = omega (arith, more) in l)
    (max-there (max 0 x) xs))

pub choice-lt : (about : About) (strategy : Strategy) (seed : ℕ) (view : View) → 0 < menu_size about view → choice_of about strategy seed view < menu_size about view
choice-lt about (scripted numbers) seed view some = mod-lt (slice_index numbers (slice_index view.control.made view.seat)) {m = menu_size about view} some
choice-lt about (random key) seed view some =
    let k = key32 key (256 * view.seat + 2) seed view.control.turn in
    scaled-lt (word_of k 0) (menu_size about view) (word_of-lt k 0) some
choice-lt about (rollout rounds key) seed view some =
    let ask : Ask = record { rounds = rounds; key = key; seed = seed; view = view } in
    let len = tally-length about ask in
    let h = first_largest-lt (tally about ask) (omega (arith, len, some)) in omega (arith, len, h)

-- the size of the menu is a function of the view
pub size_of_view : (about : About) (site : ℕ) (table : Table) (control : Control) → about.shape.places ≡ places about.sheet → IsInSight about.sheet →
    control.site ≡ Some site →
    length (menu_at about site table control) ≡ menu_size about (view_of about.shape (mover about.sheet control.frames) table control)
size_of_view about site table control fits rule stands =
    let view = view_of about.shape (mover about.sheet control.frames) table control in
    ap (λ items. length items) (menu_of_view about.sheet about.shape table control fits site rule)
    ∙ ap (λ o. length (menu_of (view_scene about.sheet about.shape view) (unwrap_or o 0))) (sym stands)

pub size_redrawn : (about : About) (site : ℕ) (view : View) (key : List ℕ) → about.shape.places ≡ places about.sheet → IsInSight about.sheet →
    IsViewOfSound about.shape view → view.seat ≡ mover about.sheet view.control.frames → view.control.site ≡ Some site →
    menu_size about view ≡ length (menu_at about site (redraw about.shape view key) view.control)
size_redrawn about site view key fits rule of moves stands =
    ap (λ o. length (menu_of (view_scene about.sheet about.shape view) (unwrap_or o 0))) stands
    ∙ sym (ap (λ items. length items) (redrawn-menu about.sheet about.shape view key site fits rule of moves))

-- a choice is a function of strategy, seed and view
pub same_choice : (about : About) (plan plan' : Plan) (m m' seat site site' k k' : ℕ) (table table' : Table) (control control' : Control) →
    IsAlike about.shape seat table table' control control' → strategy_at plan m seat ≡ strategy_at plan' m' seat →
    (deal_at plan m).seats ≡ (deal_at plan' m').seats →
    (chooser_of about plan m seat site table control k).0 ≡ (chooser_of about plan' m' seat site' table' control' k').0
same_choice about plan plan' m m' seat site site' k k' table table' control control' alike strategies seeds =
    ap (λ s. choice_of about s (deal_at plan m).seats (view_of about.shape seat table control)) strategies
    ∙ ap (λ seed. choice_of about (strategy_at plan' m' seat) seed (view_of about.shape seat table control)) seeds
    ∙ ap (λ view. choice_of about (strategy_at plan' m' seat) (deal_at plan' m').seats view) (equal_views about.shape seat table table' control control' alike)

-- behind a choice there is a stop
pub choice_goes : (about : About) (d : Dealing ℕ) (k x : ℕ) (left : List Part) (table : Table) (control : Control) →
    (k' : ℕ) × (c : Config) × (choose_first about d k x left table control ≡ goes k' c)
choice_goes about d k x [] table control = (_, _, refl)
choice_goes about d k x (todo (do_item effects) ∷ rest) table control = (_, _, refl)
choice_goes about d k x (todo (stage number class end body) ∷ rest) table control = (_, _, refl)
choice_goes about d k x (todo (choice site alts) ∷ rest) table control = (_, _, refl)
choice_goes about d k x (round s ∷ rest) table control = (_, _, refl)
choice_goes about d k x (turn s ∷ rest) table control = (_, _, refl)
