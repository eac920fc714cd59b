-- Places in the code as stages open and close, and how many are open.
use Rattle.std.proofs.Common.{◌≡◌, ℕ, ◌<◌, ◌≤◌, false, List, [], ◌∷◌, ◌++◌, length, drop, reverse, slice_get, Some, All, refl, sym, ap, subst, true≢false, arith, length-append}
use Rattle.std.proofs.lemmas.List.{length-map, length-reverse}
use Rattle.rc_sheet_spec.specs.Sheet.{Class, Test}
use Rattle.rc_play_spec.specs.Control.{Frame, Control}
use Rattle.rc_play_spec.specs.Table.{Table}
use Rattle.rc_play_spec.specs.Effects.{Dealing}
use Rattle.rc_play_spec.specs.Step.{Stage, Part, todos, goes, step}
use Rattle.rc_play_spec.specs.Decision.{choose}
use Rattle.rc_play_spec.specs.Path.{Path}
use Rattle.rc_play_spec.specs.Fits.{around}
use Rattle.rc_play_spec.proofs.FrameLemmas.{step_frames, choice_frames, around-todos}
use Rattle.rc_code.specs.Instruction.{Instruction, begin_stage}
use Rattle.rc_code.specs.Meaning.{items_from, stage_at, behind_at, left_behind}
use Rattle.rc_code.proofs.LeftLemmas.{left_here, left_stage}
use Rattle.rc_flat.specs.Places.{went_to, at_round_of, opened_at, closed_to, but_last, IsStageAt, AreStages, IsPlace}
use Rattle.rc_flat.specs.Shallow.{AreShallow}
use Rattle.rc_flat.specs.Flat.{Flat, config_of, IsInPlay}
use Rattle.rc_flat.proofs.ShallowLemmas.{step_shallow, choice_shallow}
use Rattle.rc_flat.proofs.StepCases.{moved}
use Rattle.rc_flat.proofs.SitePlaceLemmas.{one_more}

-- STAGES

module _ (code : List Instruction) where
  one_less : (outer : List ℕ) → AreStages code outer → AreStages code (but_last outer)
  one_less [] are = tt
  one_less (p ∷ []) are = tt
  one_less (p ∷ q ∷ outer) are = (are.0, one_less (q ∷ outer) are.1)

  last_is : (outer : List ℕ) (place : ℕ) → AreStages code (outer ++ place ∷ []) → IsStageAt code place
  last_is [] place are = are.0
  last_is (p ∷ outer) place are = last_is outer place are.1

around_behind : (code : List Instruction) (inner : List ℕ) → length (around (left_behind code inner)) ≡ length inner
around_behind code [] = refl
around_behind code (place ∷ inner) =
    let rest = around_behind code inner in
    let behind : List Part = todos (behind_at code place) ++ left_behind code inner in
    let here : length (around (left_behind code (place ∷ inner))) ≡ length (around behind ++ stage_at code place ∷ []) = refl in
    let one = length-append (around behind) (stage_at code place ∷ []) in
    let same = ap length (around-todos (behind_at code place) (left_behind code inner)) in
    omega (arith, rest, here, one, same)

module _ (m : Flat) (play : IsInPlay m) where
  -- where a step leads
  pub goes_on : (place : Path) (table : Table) (control : Control) (dealing : Dealing ℕ) (k k' : ℕ) → IsPlace m.code place →
      control.turn ≤ m.about.turns → All (λ n. n ≤ control.turn) control.made →
      step m.about dealing k (config_of m) ≡ goes k' (config_of (moved m place table control)) → IsInPlay (moved m place table control)
  goes_on place table control dealing k k' is within counts leads =
      record {
        stands = is;
        frames = step_frames m.about dealing k k' (config_of m) (config_of (moved m place table control)) play.frames leads;
        shallow = step_shallow m.about dealing k k' (config_of m) (config_of (moved m place table control)) play.shallow leads;
        turn = within;
        counts = counts;
      }

  -- where a choice leads
  pub goes_on_behind : (place : Path) (table : Table) (control : Control) (dealing : Dealing ℕ) (x k k' : ℕ) → IsPlace m.code place →
      control.turn ≤ m.about.turns → All (λ n. n ≤ control.turn) control.made →
      choose m.about dealing k x (config_of m) ≡ goes k' (config_of (moved m place table control)) → IsInPlay (moved m place table control)
  goes_on_behind place table control dealing x k k' is within counts leads =
      record {
        stands = is;
        frames = choice_frames m.about dealing k k' x (config_of m) (config_of (moved m place table control)) play.frames leads;
        shallow = choice_shallow m.about dealing k k' x (config_of m) (config_of (moved m place table control)) play.shallow leads;
        turn = within;
        counts = counts;
      }

  pub went_place : (next : ℕ) → IsPlace m.code (went_to next m.place)
  went_place next = record { stages = play.stands.stages; at_stage = λ e. absurd (true≢false (sym e)) }

  pub closed_place : (next : ℕ) → IsPlace m.code (closed_to next m.place)
  closed_place next = record { stages = one_less m.code m.place.outer play.stands.stages; at_stage = λ e. absurd (true≢false (sym e)) }

  pub opened_place : IsStageAt m.code m.place.next → IsPlace m.code (opened_at m.place)
  opened_place is =
      record { stages = one_more m.code m.place.outer m.place.next play.stands.stages is; at_stage = λ e. (m.place.outer, m.place.next, refl) }

  pub round_place : (outer : List ℕ) (place : ℕ) → m.place.outer ≡ outer ++ place ∷ [] → IsPlace m.code (at_round_of m.place)
  round_place outer place within = record { stages = play.stands.stages; at_stage = λ e. (outer, place, within) }

  -- at the innermost open place a stage begins
  pub innermost_stage : (outer : List ℕ) (place : ℕ) → m.place.outer ≡ outer ++ place ∷ [] → IsStageAt m.code place
  innermost_stage outer place within = last_is m.code outer place (subst (AreStages m.code) within play.stands.stages)

  -- there is room for the frame of a stage that opens, and for its place
  pub few_open : (number : ℕ) (class : Class) (end : Test) (inside : ℕ) → m.place.at_round ≡ false →
      slice_get m.code m.place.next ≡ Some (begin_stage number class end inside) → (length m.control.frames < 64) × (length m.place.outer < 64)
  few_open number class end inside here is =
      let first = left_stage m.code m.place number class end inside here is in
      let shallow = (subst AreShallow first play.shallow).0 in
      let open' = ap (λ parts. length (around parts)) first in
      let whole = ap (λ parts. length (around parts)) (left_here m.code m.place here) in
      let todos' = ap length (around-todos (items_from (drop m.place.next m.code)) (left_behind m.code (reverse m.place.outer))) in
      let behind = around_behind m.code (reverse m.place.outer) in
      let back = length-reverse m.place.outer in
      let numbers = ap length play.frames in
      let frames = length-map m.control.frames (λ (f : Frame). f.stage) in
      let stages = length-map (around (config_of m).left) (λ (s : Stage). s.number) in
      (omega (arith, shallow, open', numbers, frames, stages), omega (arith, shallow, open', whole, todos', behind, back))
