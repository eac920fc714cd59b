-- How many lists a dealer of a match has permuted: what each shuffle makes of a dealer's state holds of it at the end of a play.
use Rattle.std.proofs.Common.{◌≡◌, ℕ, zero, suc, ◌+◌, ◌≤◌, ◌<◌, nat_le, Bool, true, false, if◌then◌else◌, List, [], ◌∷◌, ◌++◌, length, get_or, Option, Some, None, refl, sym, subst, arith, mod-lt}
use Rattle.std.specs.Prelude.{fold}
use Rattle.rc_base.specs.Transcript.{done, limit}
use Rattle.rc_sheet_spec.specs.Sheet.{Effect, move, move_all, remember, forget, shuffle, set_to, increase, decrease, when, repeat, for_each, next_is, turn_round, peek, Effects, no_effect, effect, Alt, do_item, stage, choice}
use Rattle.rc_play_spec.specs.Control.{Control}
use Rattle.rc_play_spec.specs.Table.{Table, list_at}
use Rattle.rc_play_spec.specs.Value.{Bind, loc_place, int_value, test_value, members}
use Rattle.rc_play_spec.specs.Scene.{CardValue, Vars}
use Rattle.rc_play_spec.specs.Menu.{Item, menu_from, alt_in, effects_of, bindings_of}
use Rattle.rc_play_spec.specs.About.{About, scene_at}
use Rattle.rc_play_spec.specs.Effects.{Dealing, Point, scene_now, if_some, times, again, shuffled, does_one, does}
use Rattle.rc_play_spec.specs.Step.{Stage, Part, todo, round, turn, Config, Stop, decide, is_done, is_limit, Next, goes, stops, at_menu, at_round, first_step, step, start}
use Rattle.rc_play_spec.specs.Stop.{Stopped, effort, after, stop_of}
use Rattle.rc_play_spec.specs.Decision.{choose_first, choose}
use Rattle.rc_play_spec.specs.Play.{Chooser, Played, ended, with_pick, from_stop, pick_at, stop_behind, played_on, played}
use Rattle.rc_play_spec.specs.Plan.{Plan, deal_at}
use Rattle.rc_play_spec.specs.Keyed.{dealing_of, chooser_of, keyed_play}
use Rattle.rc_play_spec.proofs.FollowLemmas.{mapped}

module _ {S : Type 0} (about : About) (dealing : Dealing S) (Holds : S → Type 0) (each : (k : S) (size : ℕ) → Holds (dealing.next k size)) where
  -- through effects
  abbrev HoldsThere : Point S → Type 0
  HoldsThere now = Holds now.dealer

  shuffled_holds : (o : Option ℕ) (now : Point S) → HoldsThere now → HoldsThere (if_some (shuffled dealing) o now)
  shuffled_holds None now is = is
  shuffled_holds (Some loc) now is = each now.dealer (length (list_at now.table loc))

  when_holds : (b : Bool) (then' now : Point S) → HoldsThere then' → HoldsThere now → HoldsThere (if b then then' else now)
  when_holds true then' now is is' = is
  when_holds false then' now is is' = is'

  again_holds : (n : ℕ) (f : Point S → Point S) → ((now : Point S) → HoldsThere now → HoldsThere (f now)) → (now : Point S) → HoldsThere now →
      HoldsThere (again n f now)
  again_holds zero f keeps now is = is
  again_holds (suc n) f keeps now is = again_holds n f keeps (f now) (keeps now is)

  each_holds : (f : Point S → Bind CardValue → Point S) → ((now : Point S) (m : Bind CardValue) → HoldsThere now → HoldsThere (f now m)) →
      (ms : Vars) (now : Point S) → HoldsThere now → HoldsThere (fold f now ms)
  each_holds f keeps [] now is = is
  each_holds f keeps (m ∷ ms) now is = each_holds f keeps ms (f now m) (keeps now m is)

  mutual
    one_holds : (vars : Vars) (e : Effect) (now : Point S) → HoldsThere now → HoldsThere (does_one about dealing vars e now)
    one_holds vars (move card end loc) now is = is
    one_holds vars (move_all cards end loc) now is = is
    one_holds vars (remember card end loc) now is = is
    one_holds vars (forget card) now is = is
    one_holds vars (shuffle loc) now is = shuffled_holds (loc_place (scene_now about now).known vars loc) now is
    one_holds vars (set_to num value) now is = is
    one_holds vars (increase num value) now is = is
    one_holds vars (decrease num value) now is = is
    one_holds vars (when t effects) now is =
        when_holds (test_value (scene_now about now) vars t) (does about dealing vars effects now) now (all_hold vars effects now is) is
    one_holds vars (repeat count effects) now is =
        again_holds (times (int_value (scene_now about now) vars count)) (does about dealing vars effects) (λ now is. all_hold vars effects now is) now is
    one_holds vars (for_each domain bound effects) now is =
        each_holds (λ mid member. does about dealing (vars ++ member ∷ []) effects mid)
        (λ mid m is'. all_hold (vars ++ m ∷ []) effects mid is') (members (scene_now about now) vars domain) now is
    one_holds vars (next_is who) now is = is
    one_holds vars turn_round now is = is
    one_holds vars (peek cards who) now is = is

    all_hold : (vars : Vars) (es : Effects) (now : Point S) → HoldsThere now → HoldsThere (does about dealing vars es now)
    all_hold vars no_effect now is = is
    all_hold vars (effect e es) now is = all_hold vars es (does_one about dealing vars e now) (one_holds vars e now is)

  -- through steps and choices
  abbrev HoldsNext : Next S → Type 0
  HoldsNext (goes k c) = Holds k
  HoldsNext (stops stop c) = Unit {0}

  next_if : (b : Bool) (next next' : Next S) → HoldsNext next → HoldsNext next' → HoldsNext (if b then next else next')
  next_if true next next' is is' = is
  next_if false next next' is is' = is'

  menu_holds : (k : S) (site : ℕ) (alts : List Alt) (rest : List Part) (table : Table) (control : Control) (items : List Item) → Holds k →
      HoldsNext (at_menu about dealing k site alts rest table control items)
  menu_holds k site alts rest table control [] is = is
  menu_holds k site alts rest table control (first ∷ items) is = next_if (nat_le about.turns control.turn) _ _ tt tt

  round_holds : (k : S) (s : Stage) (rest : List Part) (table : Table) (control : Control) (b : Bool) → Holds k →
      HoldsNext (at_round about dealing k s rest table control b)
  round_holds k s rest table control true is = is
  round_holds k s rest table control false is = next_if (nat_le about.turns control.turn) _ _ tt is

  step_holds : (k : S) (left : List Part) (table : Table) (control : Control) → Holds k → HoldsNext (first_step about dealing k left table control)
  step_holds k [] table control is = tt
  step_holds k (todo (do_item effects) ∷ rest) table control is =
      all_hold [] effects (record { table = table; frames = control.frames; dealer = k }) is
  step_holds k (todo (stage number class end body) ∷ rest) table control is = is
  step_holds k (todo (choice site alts) ∷ rest) table control is =
      menu_holds k site alts rest table control (menu_from (scene_at about table control.frames) alts) is
  step_holds k (round s ∷ rest) table control is = round_holds k s rest table control _ is
  step_holds k (turn s ∷ rest) table control is = is

  choice_holds : (k : S) (x : ℕ) (left : List Part) (table : Table) (control : Control) → Holds k → HoldsNext (choose_first about dealing k x left table control)
  choice_holds k x [] table control is = is
  choice_holds k x (todo (do_item effects) ∷ rest) table control is = is
  choice_holds k x (todo (stage number class end body) ∷ rest) table control is = is
  choice_holds k x (todo (choice site alts) ∷ rest) table control is =
      let scene = scene_at about table control.frames in
      let chosen = get_or (menu_from scene alts) x (record { alt = 0; spots = [] }) in
      let alt = alt_in alts chosen.alt in
      all_hold (bindings_of scene [] alt chosen.spots) (effects_of alt) (record { table = table; frames = control.frames; dealer = k }) is
  choice_holds k x (round s ∷ rest) table control is = is
  choice_holds k x (turn s ∷ rest) table control is = is

  -- at stops
  abbrev HoldsAt : Option (Stopped S) → Type 0
  HoldsAt None = Unit {0}
  HoldsAt (Some at) = Holds at.dealer

  after_holds : (fuel : ℕ) (k : S) (next : Next S) → Holds k → HoldsNext next → HoldsAt (after about dealing fuel k next)
  after_holds fuel k (stops stop c) is next = is
  after_holds zero k (goes k' c) is next = tt
  after_holds (suc fuel) k (goes k' c) is next =
      after_holds fuel k' (step about dealing k' c) next (step_holds k' c.left c.table c.control next)

  stop_holds : (k : S) (c : Config) → Holds k → HoldsAt (stop_of about dealing k c)
  stop_holds k c is = after_holds (effort about c) k (step about dealing k c) is (step_holds k c.left c.table c.control is)

  behind_holds : (next : Next S) → HoldsNext next → HoldsAt (stop_behind about dealing next)
  behind_holds (goes k c) is = stop_holds k c is
  behind_holds (stops stop c) is = tt

  -- and so at the end of a play, if the chooser leaves the state alone
  module _ (chooser : Chooser S) (leaves : (seat site : ℕ) (table : Table) (control : Control) (k : S) → (chooser seat site table control k).1 ≡ k) where
    from_holds : (more : ℕ) (o : Option (Stopped S)) (p : Played S) →
        ((stop : Stop) (c : Config) (k : S) → Holds k → played_on about dealing chooser more stop c k ≡ Some p → Holds p.dealer) → HoldsAt o →
        from_stop (played_on about dealing chooser more) o ≡ Some p → Holds p.dealer
    from_holds more None p rest is e = absurd (cc)
    from_holds more (Some at) p rest is e = rest at.stop at.config at.dealer is e

    end_holds : (more : ℕ) (stop : Stop) (c : Config) (k : S) (p : Played S) → Holds k → played_on about dealing chooser more stop c k ≡ Some p →
        Holds p.dealer
    end_holds more is_done c k p is e =
        let same : ended done c k ≡ p = cc in subst (λ (p : Played S). Holds p.dealer) same is
    end_holds more is_limit c k p is e =
        let same : ended limit c k ≡ p = cc in subst (λ (p : Played S). Holds p.dealer) same is
    end_holds zero (decide seat site) c k p is e = absurd (cc)
    end_holds (suc more) (decide seat site) c k p is e =
        let chosen = chooser seat site c.table c.control k in
        let next = choose about dealing chosen.1 chosen.0 c in
        let behind = mapped (with_pick (pick_at about seat site chosen.0 c)) (from_stop (played_on about dealing chooser more) (stop_behind about dealing next)) p e in
        let here : Holds chosen.1 = subst Holds (sym (leaves seat site c.table c.control k)) is in
        let there = behind_holds next (choice_holds chosen.1 chosen.0 c.left c.table c.control here) in
        let rest = from_holds more (stop_behind about dealing next) behind.0 (λ stop c k is e. end_holds more stop c k behind.0 is e) there behind.1 in
        subst (λ (p : Played S). Holds p.dealer) behind.2 rest

    pub play_holds : (k : S) (p : Played S) → Holds k → played about dealing chooser k ≡ Some p → Holds p.dealer
    play_holds k p is e =
        from_holds about.turns (stop_of about dealing k (start about)) p (λ stop c k is e. end_holds about.turns stop c k p is e)
        (stop_holds k (start about) is) e

-- the count of a match's shuffles stays below 2^32
pub shuffles_within : (about : About) (plan : Plan) (m : ℕ) (p : Played ℕ) → keyed_play about plan m ≡ Some p → p.dealer ≤ 4294967295
shuffles_within about plan m p is =
    let less =
    play_holds about (dealing_of (deal_at plan m).deal) (λ k. k < 4294967296) (λ k size. mod-lt (k + 1) {m = 4294967296} (omega arith))
    (chooser_of about plan m) (λ seat site table control k. refl) 0 p (omega arith) is in
    omega (arith, less)
