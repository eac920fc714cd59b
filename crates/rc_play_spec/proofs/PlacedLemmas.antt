-- What is left at each decision of a play is what the site of its choice fixes, also where a play starts at a site.
use Rattle.std.proofs.Common.{◌≡◌, ℕ, ◌≤◌, ◌==◌, nat_le, Bool, true, false, if◌then◌else◌, List, [], ◌∷◌, ◌++◌, length, Some, inl, refl, sym, ap, ◌∙◌, subst, append-nil}
use Rattle.std.proofs.lemmas.Bool.{eq-eqb, cond-true}
use Rattle.std.specs.List.{AllByRecursion}
use Rattle.rc_base.specs.Numbers.{below}
use Rattle.rc_deck.proofs.EachLemmas.{append_each}
use Rattle.rc_play_spec.proofs.CardLemmas.{get_each}
use Rattle.rc_sheet_spec.specs.Sheet.{Alt, SheetItem, do_item, stage, choice, SheetItems, no_item, item, Sheet}
use Rattle.rc_sheet_spec.specs.Lists.{item_list}
use Rattle.rc_sheet_spec.specs.Mentions.{sites_in}
use Rattle.rc_play_spec.specs.Control.{Control}
use Rattle.rc_play_spec.specs.Table.{Table}
use Rattle.rc_play_spec.specs.Menu.{Item, alts_at}
use Rattle.rc_play_spec.specs.About.{About}
use Rattle.rc_play_spec.specs.Effects.{Dealing}
use Rattle.rc_play_spec.specs.Step.{Stage, Part, todo, round, turn, todos, Config, Stop, decide, is_done, is_limit, Next, goes, stops, at_menu, at_round, first_step}
use Rattle.rc_play_spec.specs.Stop.{Stopped, stop_of}
use Rattle.rc_play_spec.specs.Decision.{left_in, left_in_item, left_at, choose}
use Rattle.rc_play_spec.specs.Fits.{IsDecision, IsAtStop}
use Rattle.rc_play_spec.specs.Play.{stop_behind}
use Rattle.rc_play_spec.proofs.SiteLemmas.{IsIn, IsIn-left, IsIn-right, only_one, times, times-once, count_items, first_alts, alts_at_left}
use Rattle.rc_play_spec.proofs.StopFacts.{Of, Of-if, stop_of_has, stops_there}

-- Each choice in what is left is where its number says, with the same behind it.
module _ (sheet : Sheet) where
  abbrev mutual
    PlacedItem : SheetItem → List Part → Type 0
    PlacedItem (do_item effects) rest = Unit {0}
    PlacedItem (stage number class end body) rest =
        let s : Stage = record { number = number; class = class; end = end; body = body } in PlacedItems body (turn s ∷ round s ∷ rest)
    PlacedItem (choice number alts) rest = left_at sheet number ≡ todo (choice number alts) ∷ rest

    PlacedItems : SheetItems → List Part → Type 0
    PlacedItems no_item rest = Unit {0}
    PlacedItems (item i items) rest = PlacedItem i (todos (item_list items) ++ rest) × PlacedItems items rest

  abbrev pub Placed : List Part → Type 0
  Placed [] = Unit {0}
  Placed (todo i ∷ rest) = PlacedItem i rest × Placed rest
  Placed (round s ∷ rest) = PlacedItems s.body (turn s ∷ round s ∷ rest) × Placed rest
  Placed (turn s ∷ rest) = Placed rest

  placed_todos : (items : SheetItems) (rest : List Part) → PlacedItems items rest → Placed rest → Placed (todos (item_list items) ++ rest)
  placed_todos no_item rest placed behind = behind
  placed_todos (item i items) rest placed behind = (placed.0, placed_todos items rest placed.1 behind)

  mutual
    place_item : (i : SheetItem) (rest : List Part) → ((site : ℕ) (left : List Part) → IsIn left (left_in_item site i rest) → left_at sheet site ≡ left) →
        PlacedItem i rest
    place_item (do_item effects) rest each = tt
    place_item (stage number class end body) rest each =
        let s : Stage = record { number = number; class = class; end = end; body = body } in place_items body (turn s ∷ round s ∷ rest) each
    place_item (choice number alts) rest each =
        each number (todo (choice number alts) ∷ rest)
        (subst (IsIn (todo (choice number alts) ∷ rest))
        (sym (cond-true (number == number) ((todo (choice number alts) ∷ rest) ∷ []) [] (eq-eqb number number refl))) (inl refl))

    place_items : (items : SheetItems) (rest : List Part) → ((site : ℕ) (left : List Part) → IsIn left (left_in site items rest) → left_at sheet site ≡ left) →
        PlacedItems items rest
    place_items no_item rest each = tt
    place_items (item i items) rest each = (
      place_item i (todos (item_list items) ++ rest)
          (λ site left is. each site left (IsIn-left left (left_in_item site i (todos (item_list items) ++ rest)) (left_in site items rest) is)),
      place_items items rest
          (λ site left is. each site left (IsIn-right left (left_in_item site i (todos (item_list items) ++ rest)) (left_in site items rest) is)),
    )

  pub all_placed : sites_in sheet.items ≡ below (length (sites_in sheet.items)) → Placed (todos (item_list sheet.items))
  all_placed numbered =
      subst Placed (append-nil (todos (item_list sheet.items)))
      (placed_todos sheet.items []
      (place_items sheet.items [] (λ site left is.
      only_one left [] (left_in site sheet.items [])
      (subst (λ k. k ≤ 1) (sym (count_items site sheet.items [] ∙ ap (times site) numbered)) (times-once site 0 (length (sites_in sheet.items)))) is)) tt)

  -- what is left at a site
  mutual
    left_item : (site : ℕ) (i : SheetItem) (rest : List Part) → PlacedItem i rest → Placed rest → AllByRecursion Placed (left_in_item site i rest)
    left_item site (do_item effects) rest placed behind = tt
    left_item site (stage number class end body) rest placed behind =
        let s : Stage = record { number = number; class = class; end = end; body = body } in
        left_items site body (turn s ∷ round s ∷ rest) placed (placed, behind)
    left_item site (choice number alts) rest placed behind = by (number == site) where
      by : (b : Bool) → AllByRecursion Placed (if b then (todo (choice number alts) ∷ rest) ∷ [] else [])
      by true = ((placed, behind), tt)
      by false = tt

    left_items : (site : ℕ) (items : SheetItems) (rest : List Part) → PlacedItems items rest → Placed rest → AllByRecursion Placed (left_in site items rest)
    left_items site no_item rest placed behind = tt
    left_items site (item i items) rest placed behind =
        append_each Placed (left_in_item site i (todos (item_list items) ++ rest)) (left_in site items rest)
        (left_item site i (todos (item_list items) ++ rest) placed.0 (placed_todos items rest placed.1 behind))
        (left_items site items rest placed.1 behind)

  pub left_placed : sites_in sheet.items ≡ below (length (sites_in sheet.items)) → (site : ℕ) → Placed (left_at sheet site)
  left_placed numbered site =
      get_each Placed [] tt (left_in site sheet.items []) 0
      (left_items site sheet.items []
      (place_items sheet.items [] (λ site left is.
      only_one left [] (left_in site sheet.items [])
      (subst (λ k. k ≤ 1) (sym (count_items site sheet.items [] ∙ ap (times site) numbered)) (times-once site 0 (length (sites_in sheet.items)))) is)) tt)

  -- at a choice that stands first
  pub first_placed : (left : List Part) (site : ℕ) (alts : List Alt) (rest : List Part) → Placed left → left ≡ todo (choice site alts) ∷ rest →
      (left ≡ left_at sheet site) × (alts_at sheet site ≡ alts)
  first_placed left site alts rest placed is =
      let here = (subst Placed is placed).0 in
      (is ∙ sym here, alts_at_left sheet site ∙ ap first_alts here)

-- Steps and choices keep that.
module _ {S : Type 0} (about : About) (dealing : Dealing S) where
  abbrev pub IsPlaced : Config → Type 0
  IsPlaced c = Placed about.sheet c.left

  abbrev PlacedAt : Stop → Config → Type 0
  PlacedAt stop c = IsPlaced c

  menu_placed : (k : S) (site : ℕ) (alts : List Alt) (rest : List Part) (table : Table) (control : Control) (items : List Item) →
      Placed about.sheet (todo (choice site alts) ∷ rest) → Of IsPlaced PlacedAt (at_menu about dealing k site alts rest table control items)
  menu_placed k site alts rest table control [] placed = placed.1
  menu_placed k site alts rest table control (first ∷ items) placed =
      Of-if IsPlaced PlacedAt (nat_le about.turns control.turn) _ _ (λ e. placed) (λ e. placed)

  round_placed : (k : S) (s : Stage) (rest : List Part) (table : Table) (control : Control) (b : Bool) → Placed about.sheet (round s ∷ rest) →
      Of IsPlaced PlacedAt (at_round about dealing k s rest table control b)
  round_placed k s rest table control true placed = placed.1
  round_placed k s rest table control false placed =
      Of-if IsPlaced PlacedAt (nat_le about.turns control.turn) _ _ (λ e. placed)
      (λ e. placed_todos about.sheet s.body (turn s ∷ round s ∷ rest) placed.0 placed)

  step_placed : (k : S) (left : List Part) (table : Table) (control : Control) → Placed about.sheet left →
      Of IsPlaced PlacedAt (first_step about dealing k left table control)
  step_placed k [] table control placed = tt
  step_placed k (todo (do_item effects) ∷ rest) table control placed = placed.1
  step_placed k (todo (stage number class end body) ∷ rest) table control placed = placed
  step_placed k (todo (choice site alts) ∷ rest) table control placed = menu_placed k site alts rest table control _ placed
  step_placed k (round s ∷ rest) table control placed = round_placed k s rest table control _ placed
  step_placed k (turn s ∷ rest) table control placed = placed

  pub stop_placed : (k : S) (c : Config) (at : Stopped S) → IsPlaced c → stop_of about dealing k c ≡ Some at → IsPlaced at.config
  stop_placed k c at placed is =
      stop_of_has about dealing IsPlaced PlacedAt (λ k c holds. step_placed k c.left c.table c.control holds) k c at placed is

  choice_placed : (k : S) (x : ℕ) (left : List Part) (table : Table) (control : Control) → Placed about.sheet left →
      Of IsPlaced PlacedAt (choose about dealing k x (record { left = left; table = table; control = control }))
  choice_placed k x [] table control placed = tt
  choice_placed k x (todo (do_item effects) ∷ rest) table control placed = placed
  choice_placed k x (todo (stage number class end body) ∷ rest) table control placed = placed
  choice_placed k x (todo (choice site alts) ∷ rest) table control placed = placed.1
  choice_placed k x (round s ∷ rest) table control placed = placed
  choice_placed k x (turn s ∷ rest) table control placed = placed

  -- what is known at a stop
  abbrev pub Ready : Stop → Config → Type 0
  Ready (decide seat site) c = IsDecision about seat site c × IsPlaced c
  Ready is_done c = Unit {0}
  Ready is_limit c = Unit {0}

  ready_at : (stop : Stop) (c : Config) (k : S) (at : Stopped S) (c' : Config) → stop_of about dealing k c' ≡ Some at → IsPlaced c' → at.stop ≡ stop → at.config ≡ c → Ready stop c
  ready_at (decide seat site) c k at c' is placed stands same =
      let there = stops_there about dealing k c' at is in
      let decision = subst (λ s. IsAtStop about s at.config) stands there in
      (subst (IsDecision about seat site) same decision, subst IsPlaced same (stop_placed k c' at placed is))
  ready_at is_done c k at c' is placed stands same = tt
  ready_at is_limit c k at c' is placed stands same = tt

  pub ready : (k : S) (c : Config) (at : Stopped S) → IsPlaced c → stop_of about dealing k c ≡ Some at → Ready at.stop at.config
  ready k c at placed is = ready_at at.stop at.config k at c is placed refl refl

  -- behind a next configuration
  pub ready_behind : (k : S) (x : ℕ) (c : Config) (at : Stopped S) → IsPlaced c → stop_behind about dealing (choose about dealing k x c) ≡ Some at →
      Ready at.stop at.config
  ready_behind k x c at placed is = from (choose about dealing k x c) (choice_placed k x c.left c.table c.control placed) is where
    from : (next : Next S) → Of IsPlaced PlacedAt next → stop_behind about dealing next ≡ Some at → Ready at.stop at.config
    from (goes k' c') held is = ready k' c' at held is
    from (stops stop c') held is = absurd (cc)
