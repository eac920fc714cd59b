-- Each pick of a match is an item of its menu.
use Rattle.std.proofs.Common.{◌≡◌, ℕ, zero, suc, ◌<◌, map, length, Option, Some, None, refl, sym, ap, ◌∙◌, subst}
use Rattle.std.specs.Prelude.{All}
use Rattle.std.proofs.lemmas.List.Elements.{All-cons, All-nil}
use Rattle.rc_base.specs.Numbers.{below}
use Rattle.rc_base.specs.Transcript.{Pick, done, limit}
use Rattle.rc_sheet_spec.specs.Mentions.{sites_in}
use Rattle.rc_sheet_spec.specs.Sight.{IsInSight}
use Rattle.rc_play_spec.specs.Shape.{places}
use Rattle.rc_play_spec.specs.View.{view_of}
use Rattle.rc_play_spec.specs.Menu.{menu_from}
use Rattle.rc_play_spec.specs.About.{About, scene_at, menu_at}
use Rattle.rc_play_spec.specs.Effects.{Dealing}
use Rattle.rc_play_spec.specs.Step.{Config, Stop, decide, is_done, is_limit, start}
use Rattle.rc_play_spec.specs.Stop.{Stopped, stop_of}
use Rattle.rc_play_spec.specs.Decision.{choose}
use Rattle.rc_play_spec.specs.Fits.{IsDecision, IsEnd}
use Rattle.rc_play_spec.specs.Play.{Chooser, Played, ended, with_pick, from_stop, pick_at, stop_behind, played_on, played}
use Rattle.rc_play_spec.specs.Plan.{Plan, strategy_at, deal_at}
use Rattle.rc_play_spec.specs.Strategy.{menu_size}
use Rattle.rc_play_spec.specs.Keyed.{dealing_of, chooser_of, keyed_play, reached_in}
use Rattle.rc_play_spec.proofs.ChoiceLemmas.{choice-lt, size_of_view}
use Rattle.rc_play_spec.proofs.FollowLemmas.{mapped, play_leads}
use Rattle.rc_play_spec.proofs.PlacedLemmas.{IsPlaced, all_placed, first_placed, Ready, ready, ready_behind}

abbrev IsItem : Pick → Type 0
IsItem pick = pick.item < pick.size

module _ {S : Type 0} (about : About) (dealing : Dealing S) (chooser : Chooser S)
    (fits : (seat site : ℕ) (c : Config) (k : S) → IsDecision about seat site c → IsPlaced about dealing c →
    (chooser seat site c.table c.control k).0 < length (menu_at about site c.table c.control)) where
  fit_behind : (more : ℕ) (p : Played S) (o : Option (Stopped S)) →
      ((at : Stopped S) → o ≡ Some at → Ready about dealing at.stop at.config) →
      ((stop : Stop) (c : Config) (k : S) → Ready about dealing stop c → played_on about dealing chooser more stop c k ≡ Some p → All IsItem p.picks) →
      from_stop (played_on about dealing chooser more) o ≡ Some p → All IsItem p.picks
  fit_behind more p None known rest is = absurd (cc)
  fit_behind more p (Some at) known rest is = rest at.stop at.config at.dealer (known at refl) is

  fit : (more : ℕ) (stop : Stop) (c : Config) (k : S) (p : Played S) → Ready about dealing stop c →
      played_on about dealing chooser more stop c k ≡ Some p → All IsItem p.picks
  fit more is_done c k p known is =
      let same : ended done c k ≡ p = cc in subst (λ (p : Played S). All IsItem p.picks) same (All-nil IsItem)
  fit more is_limit c k p known is =
      let same : ended limit c k ≡ p = cc in subst (λ (p : Played S). All IsItem p.picks) same (All-nil IsItem)
  fit zero (decide seat site) c k p known is = absurd (cc)
  fit (suc more) (decide seat site) c k p known is =
      let chosen = chooser seat site c.table c.control k in
      let pick = pick_at about seat site chosen.0 c in
      let here : IsItem pick = fits seat site c k known.0 known.1 in
      let behind = mapped (with_pick pick) (from_stop (played_on about dealing chooser more) (stop_behind about dealing (choose about dealing chosen.1 chosen.0 c))) p is in
      let q = behind.0 in
      let rest =
      fit_behind more q (stop_behind about dealing (choose about dealing chosen.1 chosen.0 c)) (λ at e. ready_behind about dealing chosen.1 chosen.0 c at known.1 e)
      (λ stop c k. fit more stop c k q) behind.1 in
      subst (λ (p : Played S). All IsItem p.picks) behind.2 (All-cons IsItem pick q.picks here rest)

  pub picks_fit : sites_in about.sheet.items ≡ below (length (sites_in about.sheet.items)) → (k : S) (p : Played S) →
      played about dealing chooser k ≡ Some p → All IsItem p.picks
  picks_fit numbered k p is =
      fit_behind about.turns p (stop_of about dealing k (start about)) (λ at e. ready about dealing k (start about) at (all_placed about.sheet numbered) e)
      (λ stop c k. fit about.turns stop c k p) is

-- at a decision a strategy has a menu, and chooses one of its items
module _ (about : About) (plan : Plan) (m : ℕ) (fits : about.shape.places ≡ places about.sheet) (rule : IsInSight about.sheet) where
  chosen_fits : (seat site : ℕ) (c : Config) (k : ℕ) → IsDecision about seat site c → IsPlaced about (dealing_of (deal_at plan m).deal) c →
      (chooser_of about plan m seat site c.table c.control k).0 < length (menu_at about site c.table c.control)
  chosen_fits seat site c k decision placed =
      let alts = (first_placed about.sheet c.left site decision.alts decision.rest placed decision.first).1 in
      let some : 0 < length (menu_at about site c.table c.control) =
      subst (λ a. 0 < length (menu_from (scene_at about c.table c.control.frames) a)) (sym alts) decision.some in
      let size : length (menu_at about site c.table c.control) ≡ menu_size about (view_of about.shape seat c.table c.control) =
      size_of_view about site c.table c.control fits rule decision.stands
      ∙ ap (λ s. menu_size about (view_of about.shape s c.table c.control)) (sym decision.moves) in
      subst (λ n. (chooser_of about plan m seat site c.table c.control k).0 < n) (sym size)
      (choice-lt about (strategy_at plan m seat) (deal_at plan m).seats (view_of about.shape seat c.table c.control)
      (subst (λ n. 0 < n) size some))

  pub keyed_fit : sites_in about.sheet.items ≡ below (length (sites_in about.sheet.items)) → (p : Played ℕ) → keyed_play about plan m ≡ Some p →
      All IsItem p.picks
  keyed_fit numbered p is = picks_fit about (dealing_of (deal_at plan m).deal) (chooser_of about plan m) chosen_fits numbered 0 p is

  pub keyed_leads : sites_in about.sheet.items ≡ below (length (sites_in about.sheet.items)) → (p : Played ℕ) → keyed_play about plan m ≡ Some p →
      (at : Stopped ℕ) × (reached_in about plan m (map (λ pick. pick.item) p.picks) ≡ Some at) × IsEnd p at
  keyed_leads numbered p is =
      play_leads about (dealing_of (deal_at plan m).deal) (chooser_of about plan m) (λ seat site table control k. refl) 0 p is (keyed_fit numbered p is)
