-- At a decision to which items lead, the configuration is the one at its control's site.
use Rattle.std.proofs.Common.{◌≡◌, ℕ, nat_lt, List, [], ◌∷◌, length, Option, Some, None, refl, sym, ap, ◌∙◌, subst, unwrap_or}
use Rattle.rc_base.specs.Numbers.{below}
use Rattle.rc_sheet_spec.specs.Mentions.{sites_in}
use Rattle.rc_play_spec.specs.About.{About, menu_at}
use Rattle.rc_play_spec.specs.Effects.{Dealing}
use Rattle.rc_play_spec.specs.Step.{Config, Stop, decide, is_done, is_limit, start}
use Rattle.rc_play_spec.specs.Stop.{Stopped, stop_of}
use Rattle.rc_play_spec.specs.Decision.{left_at, at_site, choose}
use Rattle.rc_play_spec.specs.Fits.{IsDecision}
use Rattle.rc_play_spec.specs.Play.{from_stop, stop_behind, follow, reached}
use Rattle.rc_play_spec.proofs.NextLemmas.{under}
use Rattle.rc_play_spec.proofs.PlacedLemmas.{all_placed, first_placed, Ready, ready, ready_behind}

module _ {S : Type 0} (about : About) (dealing : Dealing S) where
  ready_from : (items : List ℕ) (o : Option (Stopped S)) (at : Stopped S) →
      ((stop : Stop) (c : Config) (k : S) → Ready about dealing stop c → follow about dealing items stop c k ≡ Some at → Ready about dealing at.stop at.config) →
      ((before : Stopped S) → o ≡ Some before → Ready about dealing before.stop before.config) →
      from_stop (follow about dealing items) o ≡ Some at → Ready about dealing at.stop at.config
  ready_from items None at rest known is = absurd (cc)
  ready_from items (Some before) at rest known is = rest before.stop before.config before.dealer (known before refl) is

  ready_there : (items : List ℕ) (at : Stopped S) (stop : Stop) (c : Config) (k : S) → Ready about dealing stop c →
      follow about dealing items stop c k ≡ Some at → Ready about dealing at.stop at.config
  ready_there [] at stop c k known is =
      let here : Stopped S = record { stop = stop; config = c; dealer = k } in
      let same : here ≡ at = cc in
      subst (λ (at : Stopped S). Ready about dealing at.stop at.config) same known
  ready_there (x ∷ items) at is_done c k known is = absurd (cc)
  ready_there (x ∷ items) at is_limit c k known is = absurd (cc)
  ready_there (x ∷ items) at (decide seat site) c k known is =
      ready_from items (stop_behind about dealing (choose about dealing k x c)) at
      (λ stop c k. ready_there items at stop c k)
      (λ before e. ready_behind about dealing k x c before known.1 e)
      (under (nat_lt x (length (menu_at about site c.table c.control))) (from_stop (follow about dealing items) (stop_behind about dealing (choose about dealing k x c))) at is)

  pub ready_reached : sites_in about.sheet.items ≡ below (length (sites_in about.sheet.items)) → (items : List ℕ) (k : S) (at : Stopped S) →
      reached about dealing items k ≡ Some at → Ready about dealing at.stop at.config
  ready_reached numbered items k at is =
      ready_from items (stop_of about dealing k (start about)) at (λ stop c k. ready_there items at stop c k)
      (λ before e. ready about dealing k (start about) before (all_placed about.sheet numbered) e) is

  pub decision_at_site : sites_in about.sheet.items ≡ below (length (sites_in about.sheet.items)) →
      (items : List ℕ) (k : S) (at : Stopped S) (seat site : ℕ) → reached about dealing items k ≡ Some at → at.stop ≡ decide seat site →
      IsDecision about seat site at.config × (at.config ≡ at_site about at.config.table at.config.control)
  decision_at_site numbered items k at seat site is stands =
      let known : Ready about dealing (decide seat site) at.config =
      subst (λ s. Ready about dealing s at.config) stands (ready_reached numbered items k at is) in
      let decision = known.0 in
      let left = (first_placed about.sheet at.config.left site decision.alts decision.rest known.1 decision.first).0 in (
        decision,
        ap (λ l. record { left = l; table = at.config.table; control = at.config.control })
            (left ∙ ap (λ o. left_at about.sheet (unwrap_or o 0)) (sym decision.stands)),
      )
