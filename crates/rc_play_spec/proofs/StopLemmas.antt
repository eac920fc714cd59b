-- Each step takes from the effort, so each configuration comes to one stop, and a step leaves the stop as it is.
use Rattle.std.proofs.Common.{◌≡◌, ℕ, zero, suc, ◌+◌, ◌-◌, ◌*◌, ◌<◌, ◌≤◌, max, nat_le, Bool, true, false, if◌then◌else◌, List, [], ◌∷◌, ◌++◌, Option, Some, None, refl, sym, ap, ◌∙◌, subst, mul-le-mul_left, arith}
use Rattle.std.proofs.lemmas.Bool.{leb-false, cond-true, cond-false}
use Rattle.rc_sheet_spec.specs.Sheet.{Alt, do_item, stage, choice, SheetItems, no_item, item}
use Rattle.rc_sheet_spec.specs.Lists.{item_list}
use Rattle.rc_play_spec.specs.Control.{Control}
use Rattle.rc_play_spec.specs.Owners.{mover}
use Rattle.rc_play_spec.specs.Table.{Table}
use Rattle.rc_play_spec.specs.About.{About, scene_at}
use Rattle.rc_play_spec.specs.Effects.{Dealing}
use Rattle.rc_play_spec.specs.Value.{test_value}
use Rattle.rc_play_spec.specs.Menu.{Item, menu_from}
use Rattle.rc_play_spec.specs.Step.{Stage, Part, todo, round, turn, Config, Stop, decide, is_limit, with_site, one_turn_more, Next, goes, stops, todos, at_menu, at_round, first_step, step}
use Rattle.rc_play_spec.specs.Stop.{Stopped, items_size, items_lap, left_size, left_lap, effort, after, stop_of}
use Rattle.rc_play_spec.proofs.SiteLemmas.{none_not-some}

-- less to do, and rounds that take no more
less-do : (n s s' lap lap' : ℕ) → s' < s → lap' ≤ lap → s' + n * lap' < s + n * lap
less-do n s s' lap lap' less le = let more = mul-le-mul_left n le in omega arith

-- a round: one turn less, and what a round takes at most
less-round : (n m s s' lap lap' : ℕ) → n ≡ suc m → s' < s + lap → lap' ≤ lap → s' + m * lap' < s + n * lap
less-round n m s s' lap lap' is less le = let more = mul-le-mul_left m le in rw is (omega arith)

left_size-append : (items : SheetItems) (parts : List Part) → left_size (todos (item_list items) ++ parts) ≡ items_size items + left_size parts
left_size-append no_item parts = omega arith
left_size-append (item i items) parts = let rest = left_size-append items parts in omega arith

left_lap-append : (items : SheetItems) (parts : List Part) → left_lap (todos (item_list items) ++ parts) ≡ max (items_lap items) (left_lap parts)
left_lap-append no_item parts = omega arith
left_lap-append (item i items) parts = let rest = left_lap-append items parts in omega arith

-- it leads to less effort than this
abbrev pub IsLess : {S : Type 0} → About → ℕ → Next S → Type 0
IsLess about n (goes dealer c) = effort about c < n
IsLess about n (stops stop c) = Unit {0}

IsLess-stops : (S : Type 0) (about : About) (n : ℕ) (b : Bool) (stop stop' : Stop) (c c' : Config) → IsLess {S = S} about n (if b then stops stop c else stops stop' c')
IsLess-stops S about n true stop stop' c c' = tt
IsLess-stops S about n false stop stop' c c' = tt

IsLess-if : {S : Type 0} (about : About) (n : ℕ) (b : Bool) (stop : Stop) (c : Config) (dealer : S) (c' : Config) → (b ≡ false → effort about c' < n) →
    IsLess about n (if b then stops stop c else goes dealer c')
IsLess-if about n true stop c dealer c' is = tt
IsLess-if about n false stop c dealer c' is = is refl

module _ {S : Type 0} (about : About) (dealing : Dealing S) where
  less-menu : (dealer : S) (site : ℕ) (alts : List Alt) (rest : List Part) (table : Table) (control : Control) (items : List Item) →
      IsLess about (effort about (record { left = todo (choice site alts) ∷ rest; table = table; control = control }))
      (at_menu about dealing dealer site alts rest table control items)
  less-menu dealer site alts rest table control [] = less-do _ _ _ _ _ (omega arith) (omega arith)
  less-menu dealer site alts rest table control (first ∷ items) =
      let here : Config = record { left = todo (choice site alts) ∷ rest; table = table; control = control } in
      IsLess-stops S about (effort about here) (nat_le about.turns control.turn) is_limit (decide (mover about.sheet control.frames) site) here
      (record { left = todo (choice site alts) ∷ rest; table = table; control = with_site control (Some site) })

  less-at_round : (dealer : S) (s : Stage) (rest : List Part) (table : Table) (control : Control) (b : Bool) →
      IsLess about (effort about (record { left = round s ∷ rest; table = table; control = control }))
      (at_round about dealing dealer s rest table control b)
  less-at_round dealer s rest table control true = less-do _ _ _ _ _ (omega arith) (omega arith)
  less-at_round dealer s rest table control false =
      let here : Config = record { left = round s ∷ rest; table = table; control = control } in
      IsLess-if about (effort about here) (nat_le about.turns control.turn) is_limit here dealer
      (record { left = todos (item_list s.body) ++ turn s ∷ round s ∷ rest; table = table; control = one_turn_more control }) (λ e.
      let below = leb-false about.turns control.turn e in
      let size = left_size-append s.body (turn s ∷ round s ∷ rest) in
      let lap = left_lap-append s.body (turn s ∷ round s ∷ rest) in
      less-round (about.turns - control.turn) (about.turns - (control.turn + 1)) _ _ _ _ (omega arith) (omega arith) (omega arith))

  less-first : (dealer : S) (left : List Part) (table : Table) (control : Control) →
      IsLess about (effort about (record { left = left; table = table; control = control })) (first_step about dealing dealer left table control)
  less-first dealer [] table control = tt
  less-first dealer (todo (do_item effects) ∷ rest) table control = less-do _ _ _ _ _ (omega arith) (omega arith)
  less-first dealer (todo (stage number class end body) ∷ rest) table control = less-do _ _ _ _ _ (omega arith) (omega arith)
  less-first dealer (todo (choice site alts) ∷ rest) table control =
      less-menu dealer site alts rest table control (menu_from (scene_at about table control.frames) alts)
  less-first dealer (round s ∷ rest) table control =
      less-at_round dealer s rest table control (test_value (scene_at about table control.frames) [] s.end)
  less-first dealer (turn s ∷ rest) table control = less-do _ _ _ _ _ (omega arith) (omega arith)

  pub less : (dealer : S) (c : Config) → IsLess about (effort about c) (step about dealing dealer c)
  less dealer c = less-first dealer c.left c.table c.control

  -- within so much
  Within-suc : (n m : ℕ) (next : Next S) → IsLess about n next → n ≤ m → IsLess about m next
  Within-suc n m (goes dealer c) is le = omega arith
  Within-suc n m (stops stop c) is le = tt

  pub comes : (fuel : ℕ) (before : S) (next : Next S) → IsLess about fuel next → (at : Stopped S) × (after about dealing fuel before next ≡ Some at)
  comes fuel before (stops stop c) is = (record { stop = stop; config = c; dealer = before }, refl)
  comes zero before (goes dealer c) is = absurd (omega arith)
  comes (suc fuel) before (goes dealer c) is =
      comes fuel dealer (step about dealing dealer c) (Within-suc _ fuel (step about dealing dealer c) (less dealer c) (omega arith))

  pub comes_to_stop : (dealer : S) (c : Config) → (at : Stopped S) × (stop_of about dealing dealer c ≡ Some at)
  comes_to_stop dealer c = comes (effort about c) dealer (step about dealing dealer c) (less dealer c)

  -- more steps come to the same stop
  pub more_fuel : (fuel more : ℕ) (before : S) (next : Next S) (at : Stopped S) → after about dealing fuel before next ≡ Some at → fuel ≤ more →
      after about dealing more before next ≡ Some at
  more_fuel fuel more before (stops stop c) at is le = is
  more_fuel zero zero before (goes dealer c) at is le = is
  more_fuel zero (suc more) before (goes dealer c) at is le = absurd (none_not-some at is)
  more_fuel (suc fuel) zero before (goes dealer c) at is le = absurd (omega arith)
  more_fuel (suc fuel) (suc more) before (goes dealer c) at is le =
      more_fuel fuel more dealer (step about dealing dealer c) at is (omega arith)

  -- a step leaves the stop as it is
  behind_step : (n : ℕ) (k k' : S) (c' : Config) (at : Stopped S) → effort about c' < n → stop_of about dealing k' c' ≡ Some at →
      after about dealing n k (goes k' c') ≡ Some at
  behind_step zero k k' c' at less is = absurd (omega arith)
  behind_step (suc n) k k' c' at less is = more_fuel (effort about c') n k' (step about dealing k' c') at is (omega arith)

  pub step_keeps : (k k' : S) (c c' : Config) → step about dealing k c ≡ goes k' c' → stop_of about dealing k c ≡ stop_of about dealing k' c'
  step_keeps k k' c c' is =
      let at = comes_to_stop k' c' in
      let below : effort about c' < effort about c = subst (IsLess about (effort about c)) is (less k c) in
      ap (after about dealing (effort about c) k) is ∙ behind_step (effort about c) k k' c' at.0 below at.1 ∙ sym at.1

  pub steps_less : (k k' : S) (c c' : Config) → step about dealing k c ≡ goes k' c' → effort about c' < effort about c
  steps_less k k' c c' is = subst (IsLess about (effort about c)) is (less k c)

  pub stop_here : (k : S) (c : Config) (stop : Stop) (c' : Config) → step about dealing k c ≡ stops stop c' →
      stop_of about dealing k c ≡ Some (record { stop = stop; config = c'; dealer = k })
  stop_here k c stop c' is = ap (after about dealing (effort about c) k) is

  -- a stop is its own
  abbrev Rests : S → Next S → Type 0
  Rests k (goes k' c) = Unit {0}
  Rests k (stops stop c) = step about dealing k c ≡ stops stop c

  rests_menu : (k : S) (site : ℕ) (alts : List Alt) (rest : List Part) (table : Table) (control : Control) (menu items : List Item) (b : Bool) → menu ≡ items →
      nat_le about.turns control.turn ≡ b → menu ≡ menu_from (scene_at about table control.frames) alts →
      Rests k (at_menu about dealing k site alts rest table control items)
  rests_menu k site alts rest table control menu [] b is limit of = tt
  rests_menu k site alts rest table control menu (first ∷ items) true is limit of = rw limit (ap (at_menu about dealing k site alts rest table control) (sym of ∙ is) ∙ cond-true _ _ _ limit)
  rests_menu k site alts rest table control menu (first ∷ items) false is limit of =
      rw limit (ap (at_menu about dealing k site alts rest table (with_site control (Some site))) (sym of ∙ is) ∙ cond-false _ _ _ limit)

  rests_round : (k : S) (s : Stage) (rest : List Part) (table : Table) (control : Control) (b limit : Bool) →
      test_value (scene_at about table control.frames) [] s.end ≡ b → nat_le about.turns control.turn ≡ limit →
      Rests k (at_round about dealing k s rest table control b)
  rests_round k s rest table control true limit is over = tt
  rests_round k s rest table control false true is over = rw over (ap (at_round about dealing k s rest table control) is ∙ cond-true _ _ _ over)
  rests_round k s rest table control false false is over = rw over tt

  rests_first : (k : S) (left : List Part) (table : Table) (control : Control) → Rests k (first_step about dealing k left table control)
  rests_first k [] table control = refl
  rests_first k (todo (do_item effects) ∷ rest) table control = tt
  rests_first k (todo (stage number class end body) ∷ rest) table control = tt
  rests_first k (todo (choice site alts) ∷ rest) table control = rests_menu k site alts rest table control _ _ _ refl refl refl
  rests_first k (round s ∷ rest) table control = rests_round k s rest table control _ _ refl refl
  rests_first k (turn s ∷ rest) table control = tt

  -- it stands where it rests
  abbrev AtRest : Option (Stopped S) → Type 0
  AtRest None = Unit {0}
  AtRest (Some at) = step about dealing at.dealer at.config ≡ stops at.stop at.config

  at_rest : (fuel : ℕ) (k : S) (next : Next S) → Rests k next → AtRest (after about dealing fuel k next)
  at_rest fuel k (stops stop c) is = is
  at_rest zero k (goes k' c) is = tt
  at_rest (suc fuel) k (goes k' c) is = at_rest fuel k' (step about dealing k' c) (rests_first k' c.left c.table c.control)

  -- where a match has stopped, it stops
  pub stop_again : (k : S) (c : Config) (at : Stopped S) → stop_of about dealing k c ≡ Some at → stop_of about dealing at.dealer at.config ≡ Some at
  stop_again k c at is =
      let here : AtRest (Some at) = subst AtRest is (at_rest (effort about c) k (step about dealing k c) (rests_first k c.left c.table c.control)) in
      ap (after about dealing (effort about at.config) at.dealer) here
