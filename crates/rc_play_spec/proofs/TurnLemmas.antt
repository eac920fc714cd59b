-- The turn count never passes the turn limit.
use Rattle.std.proofs.Common.{◌≡◌, ℕ, ◌<◌, ◌≤◌, nat_le, Bool, true, false, List, [], ◌∷◌, Some, arith}
use Rattle.std.proofs.lemmas.Bool.{leb-false}
use Rattle.rc_sheet_spec.specs.Sheet.{Alt, do_item, stage, choice}
use Rattle.rc_play_spec.specs.Control.{Control}
use Rattle.rc_play_spec.specs.Table.{Table}
use Rattle.rc_play_spec.specs.Menu.{Item, menu_from}
use Rattle.rc_play_spec.specs.About.{About, scene_at}
use Rattle.rc_play_spec.specs.Effects.{Dealing}
use Rattle.rc_play_spec.specs.Step.{Stage, Part, todo, round, turn, Config, at_menu, at_round, first_step}
use Rattle.rc_play_spec.specs.Stop.{Stopped}
use Rattle.rc_play_spec.specs.Decision.{choose_first}
use Rattle.rc_play_spec.specs.Play.{reached}
use Rattle.rc_play_spec.proofs.StopFacts.{Of, Of-if}
use Rattle.rc_play_spec.proofs.KeptLemmas.{There, reached_holds}

module _ {S : Type 0} (about : About) (dealing : Dealing S) where
  abbrev IsWithin : Config → Type 0
  IsWithin c = c.control.turn ≤ about.turns

  menu_within : (k : S) (site : ℕ) (alts : List Alt) (rest : List Part) (table : Table) (control : Control) (items : List Item) →
      control.turn ≤ about.turns → Of IsWithin (There IsWithin) (at_menu about dealing k site alts rest table control items)
  menu_within k site alts rest table control [] le = le
  menu_within k site alts rest table control (first ∷ items) le =
      Of-if IsWithin (There IsWithin) (nat_le about.turns control.turn) _ _ (λ e. le) (λ e. le)

  round_within : (k : S) (s : Stage) (rest : List Part) (table : Table) (control : Control) (b : Bool) → control.turn ≤ about.turns →
      Of IsWithin (There IsWithin) (at_round about dealing k s rest table control b)
  round_within k s rest table control true le = le
  round_within k s rest table control false le =
      Of-if IsWithin (There IsWithin) (nat_le about.turns control.turn) _ _ (λ e. le)
      (λ e. let less = leb-false about.turns control.turn e in omega (arith, less))

  first_within : (k : S) (left : List Part) (table : Table) (control : Control) → control.turn ≤ about.turns →
      Of IsWithin (There IsWithin) (first_step about dealing k left table control)
  first_within k [] table control le = le
  first_within k (todo (do_item effects) ∷ rest) table control le = le
  first_within k (todo (stage number class end body) ∷ rest) table control le = le
  first_within k (todo (choice site alts) ∷ rest) table control le =
      menu_within k site alts rest table control (menu_from (scene_at about table control.frames) alts) le
  first_within k (round s ∷ rest) table control le = round_within k s rest table control _ le
  first_within k (turn s ∷ rest) table control le = le

  choice_within : (k : S) (x : ℕ) (left : List Part) (table : Table) (control : Control) → control.turn < about.turns →
      Of IsWithin (There IsWithin) (choose_first about dealing k x left table control)
  choice_within k x [] table control lt = omega (arith, lt)
  choice_within k x (todo (do_item effects) ∷ rest) table control lt = omega (arith, lt)
  choice_within k x (todo (stage number class end body) ∷ rest) table control lt = omega (arith, lt)
  choice_within k x (todo (choice site alts) ∷ rest) table control lt = omega (arith, lt)
  choice_within k x (round s ∷ rest) table control lt = omega (arith, lt)
  choice_within k x (turn s ∷ rest) table control lt = omega (arith, lt)

  pub turns_within : (items : List ℕ) (k : S) (at : Stopped S) → reached about dealing items k ≡ Some at → at.config.control.turn ≤ about.turns
  turns_within items k at is =
      reached_holds about dealing IsWithin (λ k c le. first_within k c.left c.table c.control le)
      (λ k x c below le. choice_within k x c.left c.table c.control below) (omega arith) items k at is
