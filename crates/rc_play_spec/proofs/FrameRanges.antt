-- Frames stay within the members of their stages: through effects, steps and choices.
use Rattle.std.proofs.Common.{◌≡◌, ℕ, zero, suc, ◌+◌, ◌-◌, ◌<◌, ◌≤◌, nat_le, Bool, true, false, if◌then◌else◌, List, [], ◌∷◌, ◌++◌, length, get_or, map, slice_index, slice_set, Option, Some, None, refl, sym, ◌∙◌, subst, arith, mod-lt, length-set}
use Rattle.std.specs.Prelude.{fold, unwrap_or}
use Rattle.std.specs.List.{AllByRecursion, list_any}
use Rattle.rc_base.specs.Numbers.{below}
use Rattle.rc_deck.proofs.EachLemmas.{append_each, zip_push}
use Rattle.rc_sheet_spec.specs.Sheet.{Class, Effect, move, move_all, remember, forget, shuffle, set_to, increase, decrease, when, repeat, for_each, next_is, turn_round, peek, Effects, no_effect, effect, Domain, each_player, each_card, each_group, Alt, do_alt, if_alt, any_alt, SheetItem, do_item, stage, choice, SheetItems, no_item, item}
use Rattle.rc_sheet_spec.specs.Naming.{class_of}
use Rattle.rc_sheet_spec.specs.Lists.{item_list}
use Rattle.rc_sheet_spec.specs.WellFormed.{owner_count, IsWellFormed}
use Rattle.rc_play_spec.specs.Control.{Frame, at_innermost, Control}
use Rattle.rc_play_spec.specs.Owners.{classes_in, is_stage_of, current_in, mover}
use Rattle.rc_play_spec.specs.Shape.{shape_of}
use Rattle.rc_play_spec.specs.Table.{Table}
use Rattle.rc_play_spec.specs.Value.{Bind, player_bound, card_bound, group_bound, groups_by, who_value, loc_place, int_value, test_value, coll_value, members}
use Rattle.rc_play_spec.specs.Scene.{CardValue, Vars}
use Rattle.rc_play_spec.specs.Menu.{Item, menu_from, alt_in, effects_of, bindings_of}
use Rattle.rc_play_spec.specs.About.{About, scene_at}
use Rattle.rc_play_spec.specs.Effects.{Dealing, Point, scene_now, if_some, with_named, turned_back, times, again, shuffled, does_one, does}
use Rattle.rc_play_spec.specs.Step.{Stage, Part, todo, round, turn, todos, Config, closed, beside, with_next, at_menu, at_round, first_step}
use Rattle.rc_play_spec.specs.Decision.{with_choice, choose_first}
use Rattle.rc_play_spec.specs.Fits.{around, IsFrameOf}
use Rattle.rc_play_spec.proofs.StopFacts.{Of, Of-if}
use Rattle.rc_play_spec.proofs.KeptLemmas.{There}
use Rattle.rc_play_spec.proofs.CardLemmas.{map_each, get_each, numbers_below}
use Rattle.rc_play_spec.proofs.StageLemmas.{HasStages, HaveStages}
use Rattle.rc_play_spec.proofs.RangeLemmas.{some_owners, IsStage, AreFrames, class_same, current_within, IsPlayerBind, ArePlayerBinds, who_within}

module _ (about : About) (fits : about.shape ≡ shape_of about.sheet) (formed : IsWellFormed about.sheet) where
  abbrev Stands : Stage → Type 0
  Stands s = IsStage about.sheet formed s

  abbrev pub Frames : List Stage → List Frame → Type 0
  Frames stages frames = AreFrames about.sheet formed stages frames

  -- one less
  closed_frames : (stages : List Stage) (s : Stage) (frames : List Frame) → Frames (stages ++ s ∷ []) frames → Frames stages (closed frames)
  closed_frames [] s [] are = absurd are
  closed_frames [] s (frame ∷ []) are = tt
  closed_frames [] s (frame ∷ next ∷ frames) are = absurd are.1
  closed_frames (t ∷ stages) s [] are = absurd are
  closed_frames (t ∷ []) s (frame ∷ []) are = absurd are.1
  closed_frames (t ∷ t' ∷ stages) s (frame ∷ []) are = absurd are.1
  closed_frames (t ∷ stages) s (frame ∷ next ∷ frames) are = (are.0, closed_frames stages s (next ∷ frames) are.1)

  beside_within : (n : ℕ) (back : Bool) (member : ℕ) → 0 < n → beside n back member < n
  beside_within n true member some = mod-lt (member + (n - 1)) {m = n} some
  beside_within n false member some = mod-lt (member + 1) {m = n} some

  next_within : (n : ℕ) (named : Option ℕ) (other : ℕ) → ((k : ℕ) → named ≡ Some k → k < n) → other < n → unwrap_or named other < n
  next_within n None other within lt = lt
  next_within n (Some k) other within lt = within k refl

  next_frame : (s : Stage) (frame : Frame) → IsFrameOf about.sheet s frame → IsFrameOf about.sheet s (with_next (owner_count about.sheet s.class) frame)
  next_frame s frame of =
      let n = owner_count about.sheet s.class in
      record {
        stage = of.stage;
        member = next_within n frame.named (beside n frame.back frame.member) of.named (beside_within n frame.back frame.member (some_owners about.sheet formed s.class));
        named = λ k is. absurd (cc);
      }

  -- the innermost frame takes its next member
  passed_frames : (stages : List Stage) (s : Stage) (frames : List Frame) → Frames (stages ++ s ∷ []) frames →
      Frames (stages ++ s ∷ []) (at_innermost (λ frame. true) (with_next (owner_count about.sheet s.class)) frames)
  passed_frames [] s [] are = absurd are
  passed_frames [] s (frame ∷ []) are = (next_frame s frame are.0, tt)
  passed_frames [] s (frame ∷ next ∷ frames) are = absurd are.1
  passed_frames (t ∷ stages) s [] are = absurd are
  passed_frames (t ∷ []) s (frame ∷ []) are = absurd are.1
  passed_frames (t ∷ t' ∷ stages) s (frame ∷ []) are = absurd are.1
  passed_frames (t ∷ stages) s (frame ∷ next ∷ frames) are = (are.0, passed_frames stages s (next ∷ frames) are.1)

  -- a change of the innermost frame that fits
  changed_frames : (p : Frame → Bool) (change : Frame → Frame) →
      ((s : Stage) (frame : Frame) → Stands s → IsFrameOf about.sheet s frame → p frame ≡ true → IsFrameOf about.sheet s (change frame)) →
      (stages : List Stage) (frames : List Frame) → AllByRecursion Stands stages → Frames stages frames → Frames stages (at_innermost p change frames)
  changed_frames p change keeps [] [] stand are = tt
  changed_frames p change keeps [] (frame ∷ frames) stand are = absurd are
  changed_frames p change keeps (s ∷ stages) [] stand are = absurd are
  changed_frames p change keeps (s ∷ stages) (frame ∷ frames) stand are =
      changed_first (list_any p frames) (p frame) refl (changed_frames p change keeps stages frames stand.1 are.1) where
        changed_first : (b c : Bool) → p frame ≡ c → Frames stages (at_innermost p change frames) →
            Frames (s ∷ stages) (if b then frame ∷ at_innermost p change frames else if c then change frame ∷ frames else frame ∷ frames)
        changed_first true c is rest = (are.0, rest)
        changed_first false true is rest = (keeps s frame stand.0 are.0 is, are.1)
        changed_first false false is rest = are

  named_frame : (class : Class) (member : ℕ) → member < owner_count about.sheet class → (s : Stage) (frame : Frame) → Stands s →
      IsFrameOf about.sheet s frame → is_stage_of about.sheet class frame.stage ≡ true → IsFrameOf about.sheet s (with_named member frame)
  named_frame class member within s frame stands of is = record {
    stage = of.stage;
    member = of.member;
    named = λ k e.
        let same : member ≡ k = cc in
        let less = subst (λ c. member < owner_count about.sheet c) (class_same about.sheet formed class s frame stands of is) within in omega (arith, same, less);
  }

  turned_frame : (s : Stage) (frame : Frame) → IsFrameOf about.sheet s frame → IsFrameOf about.sheet s (turned_back frame)
  turned_frame s frame of = record { stage = of.stage; member = of.member; named = of.named }

  -- what variables run over, and what an item binds
  group_players : (groups : List (List CardValue)) → ArePlayerBinds about.sheet formed (map (λ g. group_bound g) groups)
  group_players [] = tt
  group_players (g ∷ groups) = (tt, group_players groups)

  card_players : (cards : List CardValue) → ArePlayerBinds about.sheet formed (map (λ c. card_bound c) cards)
  card_players [] = tt
  card_players (c ∷ cards) = (tt, card_players cards)

  member_players : (table : Table) (frames : List Frame) (vars : Vars) (domain : Domain) →
      ArePlayerBinds about.sheet formed (members (scene_at about table frames) vars domain)
  member_players table frames vars each_player =
      map_each (λ n. n < about.sheet.players) (IsPlayerBind about.sheet formed) (λ n. player_bound n) (λ n lt. lt) (below about.sheet.players)
      (numbers_below 0 about.sheet.players about.sheet.players (omega arith))
  member_players table frames vars (each_card cards) = card_players (coll_value (scene_at about table frames) vars cards)
  member_players table frames vars (each_group cards attr) =
      group_players (groups_by (scene_at about table frames) attr (coll_value (scene_at about table frames) vars cards))

  with_player : (vars : Vars) → ArePlayerBinds about.sheet formed vars → (bind : Bind CardValue) → IsPlayerBind about.sheet formed bind →
      ArePlayerBinds about.sheet formed (vars ++ bind ∷ [])
  with_player vars v bind is = append_each (IsPlayerBind about.sheet formed) vars (bind ∷ []) v (is, tt)

  item_players : (table : Table) (frames : List Frame) (vars : Vars) → ArePlayerBinds about.sheet formed vars → (alt : Alt) (spots : List ℕ) →
      ArePlayerBinds about.sheet formed (bindings_of (scene_at about table frames) vars alt spots)
  item_players table frames vars v (do_alt effects) spots = v
  item_players table frames vars v (if_alt guard effects) spots = v
  item_players table frames vars v (any_alt domain bound alt) [] = v
  item_players table frames vars v (any_alt domain bound alt) (spot ∷ spots) =
      let bind = get_or (members (scene_at about table frames) vars domain) spot (player_bound 0) in
      item_players table frames (vars ++ bind ∷ [])
      (with_player vars v bind (get_each (IsPlayerBind about.sheet formed) (player_bound 0) formed.limits.some_players
      (members (scene_at about table frames) vars domain) spot (member_players table frames vars domain))) alt spots

  module _ {S : Type 0} (dealing : Dealing S) (stages : List Stage) (stand : AllByRecursion Stands stages) where
    abbrev Fit : Point S → Type 0
    Fit now = Frames stages now.frames

    again_fit : (n : ℕ) (f : Point S → Point S) → ((now : Point S) → Fit now → Fit (f now)) → (now : Point S) → Fit now → Fit (again n f now)
    again_fit zero f keeps now are = are
    again_fit (suc n) f keeps now are = again_fit n f keeps (f now) (keeps now are)

    each_fit : (f : Point S → Bind CardValue → Point S) → ((now : Point S) (m : Bind CardValue) → IsPlayerBind about.sheet formed m → Fit now → Fit (f now m)) →
        (ms : Vars) → ArePlayerBinds about.sheet formed ms → (now : Point S) → Fit now → Fit (fold f now ms)
    each_fit f keeps [] all now are = are
    each_fit f keeps (m ∷ ms) all now are = each_fit f keeps ms all.1 (f now m) (keeps now m all.0 are)

    shuffled_fit : (o : Option ℕ) (now : Point S) → Fit now → Fit (if_some (shuffled dealing) o now)
    shuffled_fit None now are = are
    shuffled_fit (Some loc) now are = are

    when_fit : (b : Bool) (then' now : Point S) → Fit then' → Fit now → Fit (if b then then' else now)
    when_fit true then' now are are' = are
    when_fit false then' now are are' = are'

    mutual
      one_fit : (vars : Vars) → ArePlayerBinds about.sheet formed vars → (e : Effect) (now : Point S) → Fit now → Fit (does_one about dealing vars e now)
      one_fit vars v (move card end loc) now are = are
      one_fit vars v (move_all cards end loc) now are = are
      one_fit vars v (remember card end loc) now are = are
      one_fit vars v (forget card) now are = are
      one_fit vars v (shuffle loc) now are = shuffled_fit (loc_place (scene_now about now).known vars loc) now are
      one_fit vars v (set_to num value) now are = are
      one_fit vars v (increase num value) now are = are
      one_fit vars v (decrease num value) now are = are
      one_fit vars v (when t effects) now are =
          when_fit (test_value (scene_now about now) vars t) (does about dealing vars effects now) now (all_fit vars v effects now are) are
      one_fit vars v (repeat count effects) now are =
          again_fit (times (int_value (scene_now about now) vars count)) (does about dealing vars effects) (λ now are. all_fit vars v effects now are) now are
      one_fit vars v (for_each domain bound effects) now are =
          each_fit (λ mid member. does about dealing (vars ++ member ∷ []) effects mid)
          (λ mid m bind are'. all_fit (vars ++ m ∷ []) (with_player vars v m bind) effects mid are')
          (members (scene_now about now) vars domain) (member_players now.table now.frames vars domain) now are
      one_fit vars v (next_is who) now are =
          let member = who_value (scene_now about now).known vars who in
          changed_frames (λ frame. is_stage_of about.sheet (class_of who) frame.stage) (with_named member)
          (named_frame (class_of who) member (who_within about.sheet formed (scene_now about now).known refl fits stages stand are vars v who))
          stages now.frames stand are
      one_fit vars v turn_round now are =
          changed_frames (λ frame. true) turned_back (λ s frame stands of is. turned_frame s frame of) stages now.frames stand are
      one_fit vars v (peek cards who) now are = are

      pub all_fit : (vars : Vars) → ArePlayerBinds about.sheet formed vars → (es : Effects) (now : Point S) → Fit now → Fit (does about dealing vars es now)
      all_fit vars v no_effect now are = are
      all_fit vars v (effect e es) now are = all_fit vars v es (does_one about dealing vars e now) (one_fit vars v e now are)

  abbrev HasHere : SheetItem → Type 0
  HasHere i = HasStages (classes_in about.sheet.items) i

  abbrev pub HaveHere : SheetItems → Type 0
  HaveHere items = HaveStages (classes_in about.sheet.items) items

  -- what is left: a turn stands before its stage's round
  abbrev pub AreParts : List Part → Type 0
  AreParts [] = Unit {0}
  AreParts (todo i ∷ parts) = HasHere i × AreParts parts
  AreParts (round s ∷ parts) = (Stands s × HaveHere s.body) × AreParts parts
  AreParts (turn s ∷ parts) = ((rest : List Part) × (parts ≡ round s ∷ rest)) × AreParts parts

  around_stand : (parts : List Part) → AreParts parts → AllByRecursion Stands (around parts)
  around_stand [] are = tt
  around_stand (todo i ∷ parts) are = around_stand parts are.1
  around_stand (round s ∷ parts) are = append_each Stands (around parts) (s ∷ []) (around_stand parts are.1) (are.0.0, tt)
  around_stand (turn s ∷ parts) are = around_stand parts are.1

  pub item_parts : (items : SheetItems) (parts : List Part) → HaveHere items → AreParts parts → AreParts (todos (item_list items) ++ parts)
  item_parts no_item parts have are = are
  item_parts (item i items) parts have are = (have.0, item_parts items parts have.1 are)

  pub around_items : (items : SheetItems) (parts : List Part) → around (todos (item_list items) ++ parts) ≡ around parts
  around_items no_item parts = refl
  around_items (item i items) parts = around_items items parts

  -- counts of decisions: one for each player, at most the turn count
  abbrev pub Counts : Control → Type 0
  Counts control = (length control.made ≡ about.sheet.players) × AllByRecursion (λ n. n ≤ control.turn) control.made

  abbrev pub IsInRange : Config → Type 0
  IsInRange c = AreParts c.left × Frames (around c.left) c.control.frames × Counts c.control

  more_each : (most : ℕ) (ns : List ℕ) → AllByRecursion (λ n. n ≤ most) ns → AllByRecursion (λ n. n ≤ most + 1) ns
  more_each most [] all = tt
  more_each most (n ∷ ns) all = let h = all.0 in (omega (arith, h), more_each most ns all.1)

  set_each : (P : ℕ → Type 0) (ns : List ℕ) (i n : ℕ) → AllByRecursion P ns → P n → AllByRecursion P (slice_set ns i n)
  set_each P [] i n all is = tt
  set_each P (m ∷ ns) zero n all is = (is, all.1)
  set_each P (m ∷ ns) (suc i) n all is = (all.0, set_each P ns i n all.1 is)

  chosen_counts : (seat : ℕ) (control : Control) → Counts control → Counts (with_choice seat control)
  chosen_counts seat control counts =
      let one = get_each (λ n. n ≤ control.turn) 0 (omega arith) control.made seat counts.1 in (
        length-set control.made seat (slice_index control.made seat + 1) ∙ counts.0,
        set_each (λ n. n ≤ control.turn + 1) control.made seat (slice_index control.made seat + 1) (more_each control.turn control.made counts.1) (omega (arith, one)),
      )

  module _ {S : Type 0} (dealing : Dealing S) where
    menu_range : (k : S) (site : ℕ) (alts : List Alt) (rest : List Part) (table : Table) (control : Control) (items : List Item) → AreParts rest →
        Frames (around rest) control.frames → Counts control → Of IsInRange (There IsInRange) (at_menu about dealing k site alts rest table control items)
    menu_range k site alts rest table control [] parts are counts = (parts, are, counts)
    menu_range k site alts rest table control (first ∷ items) parts are counts =
        Of-if IsInRange (There IsInRange) (nat_le about.turns control.turn) _ _ (λ e. ((tt, parts), are, counts)) (λ e. ((tt, parts), are, counts))

    round_range : (k : S) (s : Stage) (rest : List Part) (table : Table) (control : Control) (b : Bool) → AreParts (round s ∷ rest) →
        Frames (around rest ++ s ∷ []) control.frames → Counts control → Of IsInRange (There IsInRange) (at_round about dealing k s rest table control b)
    round_range k s rest table control true parts are counts = (parts.1, closed_frames (around rest) s control.frames are, counts)
    round_range k s rest table control false parts are counts =
        Of-if IsInRange (There IsInRange) (nat_le about.turns control.turn) _ _ (λ e. (parts, are, counts)) (λ e. (
          item_parts s.body (turn s ∷ round s ∷ rest) parts.0.1 ((rest, refl), parts),
          subst (λ stages. Frames stages control.frames) (sym (around_items s.body (turn s ∷ round s ∷ rest))) are,
          (counts.0, more_each control.turn control.made counts.1),
        ))

    turn_range : (s : Stage) (rest parts : List Part) (frames : List Frame) → parts ≡ round s ∷ rest → Frames (around parts) frames →
        Frames (around parts) (at_innermost (λ frame. true) (with_next (owner_count about.sheet s.class)) frames)
    turn_range s rest parts frames is are =
        subst (λ ps. Frames (around ps) (at_innermost (λ frame. true) (with_next (owner_count about.sheet s.class)) frames)) (sym is)
        (passed_frames (around rest) s frames (subst (λ ps. Frames (around ps) frames) is are))

    opened_frame : (s : Stage) (stages : List Stage) (frames : List Frame) → AllByRecursion Stands stages → Frames stages frames →
        IsFrameOf about.sheet s (record { stage = s.number; member = current_in about.sheet s.class frames; back = false; named = None })
    opened_frame s stages frames stand are =
        record { stage = refl; member = current_within about.sheet formed s.class stages frames stand are; named = λ n is. absurd (cc) }

    pub first_range : (k : S) (left : List Part) (table : Table) (control : Control) → AreParts left → Frames (around left) control.frames → Counts control →
        Of IsInRange (There IsInRange) (first_step about dealing k left table control)
    first_range k [] table control parts are counts = (tt, are, counts)
    first_range k (todo (do_item effects) ∷ rest) table control parts are counts = (
      parts.1,
      all_fit dealing (around rest) (around_stand rest parts.1) [] tt effects (record { table = table; frames = control.frames; dealer = k }) are,
      counts,
    )
    first_range k (todo (stage number class end body) ∷ rest) table control parts are counts =
        let s : Stage = record { number = number; class = class; end = end; body = body } in (
          (parts.0, parts.1),
          zip_push (IsFrameOf about.sheet) (around rest) control.frames s _ are (opened_frame s (around rest) control.frames (around_stand rest parts.1) are),
          counts,
        )
    first_range k (todo (choice site alts) ∷ rest) table control parts are counts =
        menu_range k site alts rest table control (menu_from (scene_at about table control.frames) alts) parts.1 are counts
    first_range k (round s ∷ rest) table control parts are counts = round_range k s rest table control _ parts are counts
    first_range k (turn s ∷ rest) table control parts are counts = (parts.1, turn_range s parts.0.0 rest control.frames parts.0.1 are, counts)

    pub choice_range : (k : S) (x : ℕ) (left : List Part) (table : Table) (control : Control) → AreParts left → Frames (around left) control.frames →
        Counts control → Of IsInRange (There IsInRange) (choose_first about dealing k x left table control)
    choice_range k x [] table control parts are counts = (parts, are, counts)
    choice_range k x (todo (do_item effects) ∷ rest) table control parts are counts = (parts, are, counts)
    choice_range k x (todo (stage number class end body) ∷ rest) table control parts are counts = (parts, are, counts)
    choice_range k x (todo (choice site alts) ∷ rest) table control parts are counts =
        let scene = scene_at about table control.frames in
        let chosen = get_or (menu_from scene alts) x (record { alt = 0; spots = [] }) in
        let alt = alt_in alts chosen.alt in (
          parts.1,
          all_fit dealing (around rest) (around_stand rest parts.1) (bindings_of scene [] alt chosen.spots)
              (item_players table control.frames [] tt alt chosen.spots) (effects_of alt) (record { table = table; frames = control.frames; dealer = k }) are,
          chosen_counts (mover about.sheet control.frames) control counts,
        )
    choice_range k x (round s ∷ rest) table control parts are counts = (parts, are, counts)
    choice_range k x (turn s ∷ rest) table control parts are counts = (parts, are, counts)
