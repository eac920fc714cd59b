-- Each decision raises the turn count, so a play ends within the turn limit.
use Rattle.std.proofs.Common.{◌≡◌, ℕ, zero, suc, ◌+◌, ◌<◌, ◌≤◌, nat_le, Bool, true, false, if◌then◌else◌, List, [], ◌∷◌, ◌++◌, Option, Some, None, refl, ap, ◌∙◌, subst, arith}
use Rattle.std.proofs.lemmas.Bool.{leb-false}
use Rattle.std.specs.Prelude.{option_map}
use Rattle.rc_base.specs.Transcript.{Record}
use Rattle.rc_sheet_spec.specs.Sheet.{do_item, stage, choice, Alt}
use Rattle.rc_sheet_spec.specs.Lists.{item_list}
use Rattle.rc_play_spec.specs.Control.{Control}
use Rattle.rc_play_spec.specs.Owners.{mover}
use Rattle.rc_play_spec.specs.Table.{Table}
use Rattle.rc_play_spec.specs.About.{About, scene_at}
use Rattle.rc_play_spec.specs.Effects.{Dealing}
use Rattle.rc_play_spec.specs.Value.{test_value}
use Rattle.rc_play_spec.specs.Menu.{Item, menu_from}
use Rattle.rc_play_spec.specs.Step.{Stage, Part, todo, round, turn, todos, Config, Stop, decide, is_done, is_limit, with_site, one_turn_more, Next, goes, stops, at_menu, at_round, first_step, step, start}
use Rattle.rc_play_spec.specs.Stop.{Stopped, after, stop_of}
use Rattle.rc_play_spec.specs.Decision.{choose}
use Rattle.rc_play_spec.specs.Play.{Chooser, Played, from_stop, stop_behind, played_on, played, pick_at, with_pick}
use Rattle.rc_play_spec.specs.Scores.{record_of}
use Rattle.rc_play_spec.specs.Plan.{Plan, deal_at}
use Rattle.rc_play_spec.specs.Strategy.{Choice}
use Rattle.rc_play_spec.specs.Match.{seat_choice, match_of}
use Rattle.rc_play_spec.proofs.StopLemmas.{comes_to_stop}

-- a choice stands first
abbrev IsChoice : List Part → Type 0
IsChoice [] = ⊥
IsChoice (todo (do_item effects) ∷ rest) = ⊥
IsChoice (todo (stage number class end body) ∷ rest) = ⊥
IsChoice (todo (choice site alts) ∷ rest) = Unit {0}
IsChoice (round s ∷ rest) = ⊥
IsChoice (turn s ∷ rest) = ⊥

-- a decision is made at a choice, below the turn limit
abbrev pub MayDecide : About → Stop → Config → Type 0
MayDecide about (decide seat site) c = (c.control.turn < about.turns) × IsChoice c.left
MayDecide about is_done c = Unit {0}
MayDecide about is_limit c = Unit {0}

-- with a turn count of at least n
abbrev Rises : {S : Type 0} → About → ℕ → Next S → Type 0
Rises about n (goes k c) = n ≤ c.control.turn
Rises about n (stops stop c) = (n ≤ c.control.turn) × MayDecide about stop c

abbrev pub HasRisen : {S : Type 0} → About → ℕ → Option (Stopped S) → Type 0
HasRisen about n None = Unit {0}
HasRisen about n (Some at) = (n ≤ at.config.control.turn) × MayDecide about at.stop at.config

rises_if : (S : Type 0) (about : About) (n : ℕ) (b : Bool) (c c' : Config) (seat site : ℕ) → n ≤ c.control.turn →
    (b ≡ false → (n ≤ c'.control.turn) × MayDecide about (decide seat site) c') →
    Rises {S = S} about n (if b then stops is_limit c else stops (decide seat site) c')
rises_if S about n true c c' seat site le is = (le, tt)
rises_if S about n false c c' seat site le is = is refl

rises_round : {S : Type 0} (about : About) (n : ℕ) (b : Bool) (c : Config) (k : S) (c' : Config) → n ≤ c.control.turn → n ≤ c'.control.turn →
    Rises about n (if b then stops is_limit c else goes k c')
rises_round about n true c k c' le le' = (le, tt)
rises_round about n false c k c' le le' = le'

module _ {S : Type 0} (about : About) (dealing : Dealing S) where
  rises_menu : (k : S) (site : ℕ) (alts : List Alt) (rest : List Part) (table : Table) (control : Control) (items : List Item) →
      Rises about control.turn (at_menu about dealing k site alts rest table control items)
  rises_menu k site alts rest table control [] = omega arith
  rises_menu k site alts rest table control (first ∷ items) =
      rises_if S about control.turn (nat_le about.turns control.turn) (record { left = todo (choice site alts) ∷ rest; table = table; control = control })
      (record { left = todo (choice site alts) ∷ rest; table = table; control = with_site control (Some site) })
      (mover about.sheet control.frames) site (omega arith) (λ e. (omega arith, (leb-false about.turns control.turn e, tt)))

  rises_at_round : (k : S) (s : Stage) (rest : List Part) (table : Table) (control : Control) (b : Bool) →
      Rises about control.turn (at_round about dealing k s rest table control b)
  rises_at_round k s rest table control true = omega arith
  rises_at_round k s rest table control false =
      rises_round about control.turn (nat_le about.turns control.turn) (record { left = round s ∷ rest; table = table; control = control }) k
      (record { left = todos (item_list s.body) ++ turn s ∷ round s ∷ rest; table = table; control = one_turn_more control }) (omega arith) (omega arith)

  rises : (k : S) (left : List Part) (table : Table) (control : Control) → Rises about control.turn (first_step about dealing k left table control)
  rises k [] table control = (omega arith, tt)
  rises k (todo (do_item effects) ∷ rest) table control = omega arith
  rises k (todo (stage number class end body) ∷ rest) table control = omega arith
  rises k (todo (choice site alts) ∷ rest) table control = rises_menu k site alts rest table control (menu_from (scene_at about table control.frames) alts)
  rises k (round s ∷ rest) table control = rises_at_round k s rest table control (test_value (scene_at about table control.frames) [] s.end)
  rises k (turn s ∷ rest) table control = omega arith

  Rises-le : (n m : ℕ) (next : Next S) → n ≤ m → Rises about m next → Rises about n next
  Rises-le n m (goes k c) le is = omega arith
  Rises-le n m (stops stop c) le is = (omega (arith, is.0), is.1)

  has_risen : (n fuel : ℕ) (k : S) (next : Next S) → Rises about n next → HasRisen about n (after about dealing fuel k next)
  has_risen n fuel k (stops stop c) is = is
  has_risen n zero k (goes k' c) is = tt
  has_risen n (suc fuel) k (goes k' c) is =
      has_risen n fuel k' (step about dealing k' c) (Rises-le n c.control.turn (step about dealing k' c) is (rises k' c.left c.table c.control))

  -- the stop that a configuration comes to
  pub at_stop : (k : S) (c : Config) → (at : Stopped S) × (stop_of about dealing k c ≡ Some at) × HasRisen about c.control.turn (Some at)
  at_stop k c =
      let at = comes_to_stop about dealing k c in
      (at.0, at.1, subst (HasRisen about c.control.turn) at.1 (has_risen c.control.turn _ k (step about dealing k c) (rises k c.left c.table c.control)))

  module _ (chooser : Chooser S) where
    -- what a choice leads to has one turn more
    abbrev OneMore : ℕ → Next S → Type 0
    OneMore n (goes k c) = c.control.turn ≡ n + 1
    OneMore n (stops stop c) = ⊥

    one_more : (k : S) (x : ℕ) (left : List Part) (table : Table) (control : Control) → IsChoice left →
        OneMore control.turn (choose about dealing k x (record { left = left; table = table; control = control }))
    one_more k x [] table control is = absurd is
    one_more k x (todo (do_item effects) ∷ rest) table control is = absurd is
    one_more k x (todo (stage number class end body) ∷ rest) table control is = absurd is
    one_more k x (todo (choice site alts) ∷ rest) table control is = refl
    one_more k x (round s ∷ rest) table control is = absurd is
    one_more k x (turn s ∷ rest) table control is = absurd is

    abbrev Ends : ℕ → Type 0
    Ends more = (stop : Stop) (c : Config) (k : S) → about.turns ≤ more + c.control.turn → MayDecide about stop c →
        (p : Played S) × (played_on about dealing chooser more stop c k ≡ Some p)

    behind : (more n : ℕ) (next : Next S) → OneMore n next → about.turns ≤ suc more + n → Ends more →
        (p : Played S) × (from_stop (played_on about dealing chooser more) (stop_behind about dealing next) ≡ Some p)
    behind more n (stops stop c) is le ends = absurd is
    behind more n (goes k c) is le ends =
        let at = at_stop k c in
        let risen = at.2 in
        let p = ends (at.0).stop (at.0).config (at.0).dealer (omega (arith, is, le, risen.0)) risen.1 in
        (p.0, ap (from_stop (played_on about dealing chooser more)) at.1 ∙ p.1)

    pub ends : (more : ℕ) (stop : Stop) (c : Config) (k : S) → about.turns ≤ more + c.control.turn → MayDecide about stop c →
        (p : Played S) × (played_on about dealing chooser more stop c k ≡ Some p)
    ends more is_done c k le may = (_, refl)
    ends more is_limit c k le may = (_, refl)
    ends zero (decide seat site) c k le may = absurd (omega (arith, le, may.0))
    ends (suc more) (decide seat site) c k le may =
        let chosen = chooser seat site c.table c.control k in
        let p = behind more c.control.turn (choose about dealing chosen.1 chosen.0 c) (one_more chosen.1 chosen.0 c.left c.table c.control may.1) le (ends more) in
        (with_pick (pick_at about seat site chosen.0 c) p.0, ap (option_map (with_pick (pick_at about seat site chosen.0 c))) p.1)

    pub play_ends : (k : S) → (p : Played S) × (played about dealing chooser k ≡ Some p)
    play_ends k =
        let at = at_stop k (start about) in
        let risen = at.2 in
        let p = ends about.turns (at.0).stop (at.0).config (at.0).dealer (omega (arith, risen.0)) risen.1 in
        (p.0, ap (from_stop (played_on about dealing chooser about.turns)) at.1 ∙ p.1)

-- and so every match has a record
pub match_recorded : (about : About) (dealing : ℕ → Dealing ℕ) (chosen : Choice) (plan : Plan) (m : ℕ) →
    (r : Record) × (match_of about dealing chosen plan m ≡ Some r)
match_recorded about dealing chosen plan m =
    let deal = deal_at plan m in
    let p = play_ends about (dealing deal.deal) (seat_choice about chosen plan m) 0 in
    (record_of about m deal.deal deal.seats p.0, ap (option_map (record_of about m deal.deal deal.seats)) p.1)
