-- The frames are those of the stages whose rounds stand in what is left.
use Rattle.std.proofs.Common.{◌≡◌, ℕ, zero, suc, nat_le, Bool, true, false, if◌then◌else◌, List, [], ◌∷◌, ◌++◌, map, slice_index_or, Option, Some, None, refl, sym, ap, ◌∙◌, subst}
use Rattle.std.specs.Prelude.{fold}
use Rattle.std.specs.List.{list_any, AllZip}
use Rattle.std.proofs.lemmas.List.{map-append}
use Rattle.rc_sheet_spec.specs.Sheet.{Alt, SheetItem, do_item, stage, choice, Effect, move, move_all, remember, forget, shuffle, set_to, increase, decrease, when, repeat, for_each, next_is, turn_round, peek, Effects, no_effect, effect, Sheet}
use Rattle.rc_sheet_spec.specs.Naming.{class_of}
use Rattle.rc_sheet_spec.specs.Lists.{item_list}
use Rattle.rc_sheet_spec.specs.WellFormed.{owner_count}
use Rattle.rc_play_spec.specs.Control.{Frame, at_innermost, Control}
use Rattle.rc_play_spec.specs.Owners.{is_stage_of}
use Rattle.rc_play_spec.specs.Table.{Table}
use Rattle.rc_play_spec.specs.Value.{Bind, who_value, loc_place, int_value, test_value, members}
use Rattle.rc_play_spec.specs.Scene.{CardValue, Vars}
use Rattle.rc_play_spec.specs.Menu.{Item, menu_from, alt_in, effects_of, bindings_of}
use Rattle.rc_play_spec.specs.About.{About, scene_at}
use Rattle.rc_play_spec.specs.Effects.{Dealing, Point, scene_now, if_some, with_named, turned_back, times, again, shuffled, does_one, does}
use Rattle.rc_play_spec.specs.Step.{Stage, Part, todo, round, turn, todos, Config, Stop, goes, closed, with_next, at_menu, at_round, first_step, step, start}
use Rattle.rc_play_spec.specs.Stop.{Stopped, stop_of}
use Rattle.rc_play_spec.specs.Decision.{choose_first, choose}
use Rattle.rc_play_spec.specs.Fits.{around, HasFrames, IsFrameOf}
use Rattle.rc_play_spec.proofs.StopFacts.{Of, Of-if, stop_of_has}

-- the stages of frames
abbrev stages : List Frame → List ℕ
stages frames = map (λ f. f.stage) frames

-- a change that leaves the stage leaves the stages
innermost_stages : (fits : Frame → Bool) (change : Frame → Frame) → ((frame : Frame) → (change frame).stage ≡ frame.stage) → (frames : List Frame) →
    stages (at_innermost fits change frames) ≡ stages frames
innermost_stages fits change keeps [] = refl
innermost_stages fits change keeps (frame ∷ frames) =
    first_stages (list_any fits frames) (fits frame) (innermost_stages fits change keeps frames) where
      first_stages : (b c : Bool) → stages (at_innermost fits change frames) ≡ stages frames →
          stages (if b then frame ∷ at_innermost fits change frames else if c then change frame ∷ frames else frame ∷ frames)
          ≡ stages (frame ∷ frames)
      first_stages true c rest = ap (λ more. frame.stage ∷ more) rest
      first_stages false true rest = ap (λ n. n ∷ stages frames) (keeps frame)
      first_stages false false rest = refl

-- all but the last
abbrev but_last : List ℕ → List ℕ
but_last [] = []
but_last (n ∷ []) = []
but_last (n ∷ m ∷ ns) = n ∷ but_last (m ∷ ns)

closed_stages : (frames : List Frame) → stages (closed frames) ≡ but_last (stages frames)
closed_stages [] = refl
closed_stages (frame ∷ []) = refl
closed_stages (frame ∷ next ∷ frames) = ap (λ more. frame.stage ∷ more) (closed_stages (next ∷ frames))

but_last-append : (ns : List ℕ) (n : ℕ) → but_last (ns ++ n ∷ []) ≡ ns
but_last-append [] n = refl
but_last-append (m ∷ []) n = refl
but_last-append (m ∷ k ∷ ns) n = ap (λ more. m ∷ more) (but_last-append (k ∷ ns) n)

pub around-todos : (items : List SheetItem) (rest : List Part) → around (todos items ++ rest) ≡ around rest
around-todos [] rest = refl
around-todos (i ∷ items) rest = around-todos items rest

module _ {S : Type 0} (about : About) (dealing : Dealing S) where
  -- effects open and close no stage
  again_stages : (n : ℕ) (f : Point S → Point S) → ((now : Point S) → stages (f now).frames ≡ stages now.frames) → (now : Point S) →
      stages (again n f now).frames ≡ stages now.frames
  again_stages zero f keeps now = refl
  again_stages (suc n) f keeps now = again_stages n f keeps (f now) ∙ keeps now

  each_stages : (f : Point S → Bind CardValue → Point S) → ((now : Point S) (m : Bind CardValue) → stages (f now m).frames ≡ stages now.frames) →
      (ms : Vars) (now : Point S) → stages (fold f now ms).frames ≡ stages now.frames
  each_stages f keeps [] now = refl
  each_stages f keeps (m ∷ ms) now = each_stages f keeps ms (f now m) ∙ keeps now m

  shuffled_stages : (o : Option ℕ) (now : Point S) → stages (if_some (shuffled dealing) o now).frames ≡ stages now.frames
  shuffled_stages None now = refl
  shuffled_stages (Some loc) now = refl

  when_stages : (b : Bool) (then' now : Point S) → stages then'.frames ≡ stages now.frames → stages (if b then then' else now).frames ≡ stages now.frames
  when_stages true then' now keeps = keeps
  when_stages false then' now keeps = refl

  mutual
    one_stages : (vars : Vars) (e : Effect) (now : Point S) → stages (does_one about dealing vars e now).frames ≡ stages now.frames
    one_stages vars (move card end loc) now = refl
    one_stages vars (move_all cards end loc) now = refl
    one_stages vars (remember card end loc) now = refl
    one_stages vars (forget card) now = refl
    one_stages vars (shuffle loc) now = shuffled_stages (loc_place (scene_now about now).known vars loc) now
    one_stages vars (set_to num value) now = refl
    one_stages vars (increase num value) now = refl
    one_stages vars (decrease num value) now = refl
    one_stages vars (when t effects) now =
        when_stages (test_value (scene_now about now) vars t) (does about dealing vars effects now) now (all_stages vars effects now)
    one_stages vars (repeat count effects) now =
        again_stages (times (int_value (scene_now about now) vars count)) (does about dealing vars effects) (all_stages vars effects) now
    one_stages vars (for_each domain bound effects) now =
        each_stages (λ mid member. does about dealing (vars ++ member ∷ []) effects mid) (λ mid m. all_stages (vars ++ m ∷ []) effects mid)
        (members (scene_now about now) vars domain) now
    one_stages vars (next_is who) now =
        innermost_stages (λ frame. is_stage_of about.sheet (class_of who) frame.stage) (with_named (who_value (scene_now about now).known vars who)) (λ frame. refl)
        now.frames
    one_stages vars turn_round now = innermost_stages (λ frame. true) turned_back (λ frame. refl) now.frames
    one_stages vars (peek cards who) now = refl

    pub all_stages : (vars : Vars) (es : Effects) (now : Point S) → stages (does about dealing vars es now).frames ≡ stages now.frames
    all_stages vars no_effect now = refl
    all_stages vars (effect e es) now = all_stages vars es (does_one about dealing vars e now) ∙ one_stages vars e now

  abbrev AtStop : Stop → Config → Type 0
  AtStop stop c = HasFrames c

  frames_menu : (k : S) (site : ℕ) (alts : List Alt) (rest : List Part) (table : Table) (control : Control) (items : List Item) →
      stages control.frames ≡ map (λ s. s.number) (around rest) → Of HasFrames AtStop (at_menu about dealing k site alts rest table control items)
  frames_menu k site alts rest table control [] has = has
  frames_menu k site alts rest table control (first ∷ items) has =
      Of-if HasFrames AtStop (nat_le about.turns control.turn) _ _ (λ e. has) (λ e. has)

  frames_round : (k : S) (s : Stage) (rest : List Part) (table : Table) (control : Control) (b : Bool) →
      stages control.frames ≡ map (λ s. s.number) (around rest ++ s ∷ []) → Of HasFrames AtStop (at_round about dealing k s rest table control b)
  frames_round k s rest table control true has =
      closed_stages control.frames ∙ ap but_last (has ∙ map-append (λ (s : Stage). s.number) (around rest) (s ∷ []))
      ∙ but_last-append (map (λ s. s.number) (around rest)) s.number
  frames_round k s rest table control false has =
      Of-if HasFrames AtStop (nat_le about.turns control.turn) _ _ (λ e. has) (λ e.
      has ∙ ap (map (λ (s : Stage). s.number)) (sym (around-todos (item_list s.body) (turn s ∷ round s ∷ rest))))

  pub frames_first : (k : S) (left : List Part) (table : Table) (control : Control) → stages control.frames ≡ map (λ s. s.number) (around left) →
      Of HasFrames AtStop (first_step about dealing k left table control)
  frames_first k [] table control has = has
  frames_first k (todo (do_item effects) ∷ rest) table control has =
      all_stages [] effects (record { table = table; frames = control.frames; dealer = k }) ∙ has
  frames_first k (todo (stage number class end body) ∷ rest) table control has =
      map-append (λ (f : Frame). f.stage) control.frames _ ∙ ap (λ ns. ns ++ number ∷ []) has
      ∙ sym (map-append (λ (s : Stage). s.number) (around rest) _)
  frames_first k (todo (choice site alts) ∷ rest) table control has = frames_menu k site alts rest table control _ has
  frames_first k (round s ∷ rest) table control has = frames_round k s rest table control _ has
  frames_first k (turn s ∷ rest) table control has = innermost_stages (λ frame. true) (with_next (owner_count about.sheet s.class)) (λ frame. refl) control.frames ∙ has

  pub step_frames : (k k' : S) (c c' : Config) → HasFrames c → step about dealing k c ≡ goes k' c' → HasFrames c'
  step_frames k k' c c' has is = subst (Of HasFrames AtStop) is (frames_first k c.left c.table c.control has)

  pub stop_frames : (k : S) (c : Config) (at : Stopped S) → HasFrames c → stop_of about dealing k c ≡ Some at → HasFrames at.config
  stop_frames k c at has is = stop_of_has about dealing HasFrames AtStop (λ k c holds. frames_first k c.left c.table c.control holds) k c at has is

  pub choice_first : (k : S) (x : ℕ) (left : List Part) (table : Table) (control : Control) → stages control.frames ≡ map (λ s. s.number) (around left) →
      Of HasFrames AtStop (choose_first about dealing k x left table control)
  choice_first k x [] table control has = has
  choice_first k x (todo (do_item effects) ∷ rest) table control has = has
  choice_first k x (todo (stage number class end body) ∷ rest) table control has = has
  choice_first k x (todo (choice site alts) ∷ rest) table control has =
      let scene = scene_at about table control.frames in
      let chosen = slice_index_or (menu_from scene alts) x (record { alt = 0; spots = [] }) in
      let alt = alt_in alts chosen.alt in
      all_stages (bindings_of scene [] alt chosen.spots) (effects_of alt) (record { table = table; frames = control.frames; dealer = k }) ∙ has
  choice_first k x (round s ∷ rest) table control has = has
  choice_first k x (turn s ∷ rest) table control has = has

  pub choice_frames : (k k' : S) (x : ℕ) (c c' : Config) → HasFrames c → choose about dealing k x c ≡ goes k' c' → HasFrames c'
  choice_frames k k' x c c' has is = subst (Of HasFrames AtStop) is (choice_first k x c.left c.table c.control has)

pub start_frames : (about : About) → HasFrames (start about)
start_frames about = nothing (item_list about.sheet.items) where
  nothing : (items : List SheetItem) → [] ≡ map (λ (s : Stage). s.number) (around (todos items))
  nothing [] = refl
  nothing (i ∷ items) = nothing items

pub numbers_same : (sheet : Sheet) (stages : List Stage) (frames : List Frame) →
    AllZip (IsFrameOf sheet) stages frames →
    map (λ (f : Frame). f.stage) frames ≡ map (λ (s : Stage). s.number) stages
numbers_same sheet [] [] fit = refl
numbers_same sheet [] (frame ∷ frames) fit = absurd fit
numbers_same sheet (s ∷ stages) [] fit = absurd fit
numbers_same sheet (s ∷ stages) (frame ∷ frames) fit =
    ap (λ n. n ∷ map (λ (f : Frame). f.stage) frames) (fit.0).stage
    ∙ ap (λ rest. s.number ∷ rest) (numbers_same sheet stages frames fit.1)
