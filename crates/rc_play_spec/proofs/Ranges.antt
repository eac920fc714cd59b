-- Where a play starts at a site, members are those of their stages, and so the mover is a player wherever items lead from there.
use Rattle.std.proofs.Common.{◌≡◌, ℕ, ◌<◌, ◌≤◌, ◌==◌, Bool, true, false, if◌then◌else◌, List, [], ◌∷◌, ◌++◌, Some, refl, sym, ap, subst}
use Rattle.std.specs.Prelude.{unwrap_or}
use Rattle.std.specs.List.{AllByRecursion}
use Rattle.std.proofs.lemmas.List.Elements.{recursion_from_All}
use Rattle.rc_deck.proofs.EachLemmas.{append_each}
use Rattle.rc_sheet_spec.specs.Sheet.{SheetItem, do_item, stage, choice, SheetItems, no_item, item, player_class}
use Rattle.rc_sheet_spec.specs.Lists.{item_list}
use Rattle.rc_sheet_spec.specs.WellFormed.{IsWellFormed}
use Rattle.rc_play_spec.specs.Control.{Control}
use Rattle.rc_play_spec.specs.Table.{Table}
use Rattle.rc_play_spec.specs.Owners.{classes_in, mover}
use Rattle.rc_play_spec.specs.Shape.{shape_of}
use Rattle.rc_play_spec.specs.About.{About}
use Rattle.rc_play_spec.specs.Effects.{Dealing}
use Rattle.rc_play_spec.specs.Step.{Stage, Part, todo, round, turn, todos, Config, goes, stops, Next}
use Rattle.rc_play_spec.specs.Stop.{Stopped}
use Rattle.rc_play_spec.specs.Decision.{left_in, left_in_item, left_at, at_site, choose}
use Rattle.rc_play_spec.specs.Play.{stop_behind}
use Rattle.rc_play_spec.specs.Fits.{FitsSite, around}
use Rattle.rc_play_spec.proofs.CardLemmas.{get_each}
use Rattle.rc_play_spec.proofs.StageLemmas.{HasStages, HaveStages, stages_numbered}
use Rattle.rc_play_spec.proofs.RangeLemmas.{IsStage, current_within}
use Rattle.rc_play_spec.proofs.FrameRanges.{AreParts, Frames, item_parts, IsInRange, first_range, choice_range}
use Rattle.rc_play_spec.proofs.StopFacts.{Of, stop_of_has}
use Rattle.rc_play_spec.proofs.KeptLemmas.{There}

module _ (about : About) (fits : about.shape ≡ shape_of about.sheet) (formed : IsWellFormed about.sheet) where
  abbrev Parts : List Part → Type 0
  Parts left = AreParts about fits formed left

  around_stages : (parts : List Part) → Parts parts → AllByRecursion (IsStage about.sheet formed) (around parts)
  around_stages [] are = tt
  around_stages (todo i ∷ parts) are = around_stages parts are.1
  around_stages (round s ∷ parts) are =
      append_each (IsStage about.sheet formed) (around parts) (s ∷ []) (around_stages parts are.1) (are.0.0, tt)
  around_stages (turn s ∷ parts) are = around_stages parts are.1

  pub mover_plays : (c : Config) → IsInRange about fits formed c → mover about.sheet c.control.frames < about.sheet.players
  mover_plays c range = current_within about.sheet formed player_class (around c.left) c.control.frames (around_stages c.left range.0) range.1

  -- what is left at a site
  mutual
    parts_item : (site : ℕ) (i : SheetItem) (rest : List Part) → HasStages (classes_in about.sheet.items) i → Parts rest → AllByRecursion Parts (left_in_item site i rest)
    parts_item site (do_item effects) rest have are = tt
    parts_item site (stage number class end body) rest have are =
        let s : Stage = record { number = number; class = class; end = end; body = body } in
        parts_items site body (turn s ∷ round s ∷ rest) have.1 ((rest, refl), ((have.0, have.1), are))
    parts_item site (choice number alts) rest have are = by (number == site) where
      by : (b : Bool) → AllByRecursion Parts (if b then (todo (choice number alts) ∷ rest) ∷ [] else [])
      by true = ((tt, are), tt)
      by false = tt

    parts_items : (site : ℕ) (items : SheetItems) (rest : List Part) → HaveStages (classes_in about.sheet.items) items → Parts rest → AllByRecursion Parts (left_in site items rest)
    parts_items site no_item rest have are = tt
    parts_items site (item i items) rest have are =
        append_each Parts (left_in_item site i (todos (item_list items) ++ rest)) (left_in site items rest)
        (parts_item site i (todos (item_list items) ++ rest) have.0 (item_parts about fits formed items rest have.1 are))
        (parts_items site items rest have.1 are)

  left_parts : (site : ℕ) → Parts (left_at about.sheet site)
  left_parts site =
      get_each Parts [] tt (left_in site about.sheet.items []) 0
      (parts_items site about.sheet.items [] (stages_numbered about.sheet.items formed.numbered.stages) tt)

  -- a play starts at a site that its control fits
  pub site_range : (site : ℕ) (table : Table) (control : Control) → FitsSite about site control → IsInRange about fits formed (at_site about table control)
  site_range site table control at = (
    left_parts (unwrap_or control.site 0),
    subst (λ n. Frames about fits formed (around (left_at about.sheet n)) control.frames) (sym (ap (λ o. unwrap_or o 0) at.stands)) at.frames,
    (at.seats, recursion_from_All (λ n. n ≤ control.turn) control.made at.counts),
  )

  -- a next stop
  pub range_behind : (dealing : Dealing ℕ) (k x : ℕ) (c : Config) (at : Stopped ℕ) → IsInRange about fits formed c →
      stop_behind about dealing (choose about dealing k x c) ≡ Some at → IsInRange about fits formed at.config
  range_behind dealing k x c at range is =
      from (choose about dealing k x c) (choice_range about fits formed dealing k x c.left c.table c.control range.0 range.1 range.2) is
    where
      from : (next : Next ℕ) → Of (IsInRange about fits formed) (There (IsInRange about fits formed)) next → stop_behind about dealing next ≡ Some at →
          IsInRange about fits formed at.config
      from (goes k' c') held is =
          stop_of_has about dealing (IsInRange about fits formed) (There (IsInRange about fits formed))
          (λ k c h. first_range about fits formed dealing k c.left c.table c.control h.0 h.1 h.2) k' c' at held is
      from (stops stop c') held is = absurd (cc)
