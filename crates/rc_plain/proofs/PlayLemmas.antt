-- Machines stay in play.
use Rattle.std.proofs.Common.{◌≡◌, ℕ, ◌+◌, ◌≤◌, ◌<◌, true, false, [], length, All, Some, sym, ap, subst, true≢false, arith}
use Rattle.std.proofs.lemmas.List.{length-map}
use Rattle.rc_sheet_spec.specs.Sheet.{SheetItem}
use Rattle.rc_sheet_spec.specs.Lists.{item_list}
use Rattle.rc_sheet_spec.specs.WellFormed.{IsWellFormed}
use Rattle.rc_play_spec.specs.Control.{Control}
use Rattle.rc_play_spec.specs.Table.{Table}
use Rattle.rc_play_spec.specs.Effects.{Dealing}
use Rattle.rc_play_spec.specs.Step.{Stage, goes, step}
use Rattle.rc_play_spec.specs.Decision.{choose}
use Rattle.rc_play_spec.specs.Path.{Path, stage_in, past, at_mark, into, item_depth}
use Rattle.rc_play_spec.specs.Fits.{around}
use Rattle.rc_play_spec.proofs.FrameLemmas.{step_frames, choice_frames}
use Rattle.rc_play_spec.proofs.DepthLemmas.{shallow_path}
use Rattle.rc_plain.specs.Paths.{ArePlaces, item_at, IsPath, Leaves}
use Rattle.rc_plain.specs.Plain.{Plain, config_of, IsInPlay}
use Rattle.rc_plain.proofs.PathLemmas.{one_more, all_but_last, open_stages}
use Rattle.rc_plain.proofs.StepCases.{moved}

module _ (m : Plain) (play : IsInPlay m) where
  -- where a step leads
  pub goes_on : (path : Path) (table : Table) (control : Control) (dealing : Dealing ℕ) (k k' : ℕ) → IsPath m.about.sheet path →
      control.turn ≤ m.about.turns → All (λ n. n ≤ control.turn) control.made →
      step m.about dealing k (config_of m) ≡ goes k' (config_of (moved m path table control)) → IsInPlay (moved m path table control)
  goes_on path table control dealing k k' is turn counts leads =
      record {
        stands = is;
        frames = step_frames m.about dealing k k' (config_of m) (config_of (moved m path table control)) play.frames leads;
        turn = turn;
        counts = counts;
      }

  -- where a choice leads
  pub goes_on_behind : (path : Path) (table : Table) (control : Control) (dealing : Dealing ℕ) (x k k' : ℕ) → IsPath m.about.sheet path →
      control.turn ≤ m.about.turns → All (λ n. n ≤ control.turn) control.made →
      choose m.about dealing k x (config_of m) ≡ goes k' (config_of (moved m path table control)) → IsInPlay (moved m path table control)
  goes_on_behind path table control dealing x k k' is turn counts leads =
      record {
        stands = is;
        frames = choice_frames m.about dealing k k' x (config_of m) (config_of (moved m path table control)) play.frames leads;
        turn = turn;
        counts = counts;
      }

  pub past_is_path : IsPath m.about.sheet (past m.path)
  past_is_path = record { places = play.stands.places; at_stage = λ e. absurd (true≢false (sym e)) }

  pub mark_is_path : (s : Stage) → stage_in (item_at m.about.sheet m.path) ≡ Some s → IsPath m.about.sheet (at_mark m.path)
  mark_is_path s is = record { places = play.stands.places; at_stage = λ e. (s, is) }

  pub into_is_path : (s : Stage) → stage_in (item_at m.about.sheet m.path) ≡ Some s → IsPath m.about.sheet (into m.path)
  into_is_path s is =
      record {
        places = one_more (item_list m.about.sheet.items) m.path.outer m.path.next s play.stands.places is;
        at_stage = λ e. absurd (true≢false (sym e));
      }

  -- back at a stage whose body ran
  pub left_stage : (path : Path) → Leaves m.path path true →
      IsPath m.about.sheet path × (s : Stage) × (stage_in (item_at m.about.sheet path) ≡ Some s)
  left_stage path leaves =
      let items = item_list m.about.sheet.items in
      let back = all_but_last items path.outer path.next (subst (ArePlaces items) leaves.0 play.stands.places) in
      (record { places = back.0; at_stage = λ e. (back.1, back.2) }, back.1, back.2)

  -- there is room for the frame of a stage that opens, and for its place
  pub few_frames : (i : SheetItem) → IsWellFormed m.about.sheet → m.path.at_round ≡ false → item_at m.about.sheet m.path ≡ Some i →
      length m.control.frames + item_depth i ≤ 63
  few_frames i formed here is =
      let shallow = shallow_path m.about.sheet m.path i formed is in
      let open' = open_stages (item_list m.about.sheet.items) m.path play.stands.places here in
      let numbers = ap length play.frames in
      let frames = length-map m.control.frames (λ f. f.stage) in
      let stages = length-map (around (config_of m).left) (λ s. s.number) in
      omega (arith, shallow, open', numbers, frames, stages)

  pub few_places : (i : SheetItem) → IsWellFormed m.about.sheet → item_at m.about.sheet m.path ≡ Some i → length m.path.outer < 64
  few_places i formed is = let shallow = shallow_path m.about.sheet m.path i formed is in omega (arith, shallow)

-- a dealing that leaves all as it is
abbrev pub still : Dealing ℕ
still = record { order = λ k size. []; next = λ k size. k }
