-- At each decision of a match of a well formed sheet the control fits its site.
use Rattle.std.proofs.Common.{◌≡◌, ℕ, zero, suc, ◌≤◌, List, [], replicate, Some, sym, ap, ◌∙◌, subst, arith, append-nil}
use Rattle.std.specs.Prelude.{unwrap_or}
use Rattle.std.specs.List.{AllByRecursion, AllZip}
use Rattle.std.proofs.lemmas.List.{length-replicate}
use Rattle.std.proofs.lemmas.List.Elements.{All-from_recursion}
use Rattle.rc_sheet_spec.specs.Sheet.{choice}
use Rattle.rc_sheet_spec.specs.Lists.{item_list}
use Rattle.rc_sheet_spec.specs.WellFormed.{IsWellFormed}
use Rattle.rc_play_spec.specs.Shape.{shape_of}
use Rattle.rc_play_spec.specs.About.{About}
use Rattle.rc_play_spec.specs.Effects.{Dealing}
use Rattle.rc_play_spec.specs.Step.{todo, todos, Config, decide, start}
use Rattle.rc_play_spec.specs.Stop.{Stopped}
use Rattle.rc_play_spec.specs.Decision.{left_at}
use Rattle.rc_play_spec.specs.Play.{reached}
use Rattle.rc_play_spec.specs.Fits.{around, IsFrameOf, FitsSite}
use Rattle.rc_play_spec.proofs.KeptLemmas.{reached_holds}
use Rattle.rc_play_spec.proofs.StageLemmas.{stages_numbered}
use Rattle.rc_play_spec.proofs.FrameRanges.{AreParts, Frames, item_parts, around_items, IsInRange, first_range, choice_range}
use Rattle.rc_play_spec.proofs.ReachedLemmas.{decision_at_site}
use Rattle.rc_play_spec.proofs.SiteLemmas.{left_at_there}

pub zeros : (n turn : ℕ) → AllByRecursion (λ m. m ≤ turn) (replicate n 0)
zeros zero turn = tt
zeros (suc n) turn = (omega arith, zeros n turn)

module _ {S : Type 0} (about : About) (dealing : Dealing S) (fits : about.shape ≡ shape_of about.sheet) (formed : IsWellFormed about.sheet) where
  start_range : IsInRange about fits formed (start about)
  start_range =
      let items = about.sheet.items in
      let parts = item_parts about fits formed items [] (stages_numbered items formed.numbered.stages) tt in
      let frames = subst (λ stages. Frames about fits formed stages []) (sym (around_items about fits formed items [])) tt in
      let both = subst (λ left. AreParts about fits formed left × Frames about fits formed (around left) []) (append-nil (todos (item_list items))) (parts, frames) in
      (both.0, both.1, (length-replicate about.sheet.players 0, zeros about.sheet.players 0))

  pub control_fits : (items : List ℕ) (k : S) (at : Stopped S) (seat site : ℕ) → reached about dealing items k ≡ Some at → at.stop ≡ decide seat site →
      FitsSite about site at.config.control
  control_fits items k at seat site is stands =
      let range =
      reached_holds about dealing (IsInRange about fits formed) (λ k c h. first_range about fits formed dealing k c.left c.table c.control h.0 h.1 h.2)
      (λ k x c below h. choice_range about fits formed dealing k x c.left c.table c.control h.0 h.1 h.2) start_range items k at is in
      let sites = formed.numbered.sites in
      let decision = decision_at_site about dealing sites items k at seat site is stands in
      let left : at.config.left ≡ left_at about.sheet site =
      ap (λ (c : Config). c.left) decision.1 ∙ ap (λ o. left_at about.sheet (unwrap_or o 0)) decision.0.stands in
      record {
        there = left_at_there about.sheet site (todo (choice site decision.0.alts)) decision.0.rest sites (sym left ∙ decision.0.first);
        stands = decision.0.stands;
        frames = subst (λ left. AllZip (IsFrameOf about.sheet) (around left) at.config.control.frames) left range.1;
        seats = range.2.0;
        counts = All-from_recursion (λ n. n ≤ at.config.control.turn) at.config.control.made range.2.1;
      }
