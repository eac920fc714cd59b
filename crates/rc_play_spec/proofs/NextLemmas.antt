-- Each pick of a play is what the chooser takes at the stop to which the items before it lead.
use Rattle.std.proofs.Common.{◌≡◌, ℕ, zero, suc, nat_lt, Bool, true, false, if◌then◌else◌, List, [], ◌∷◌, map, take, length, slice_get, Option, Some, None, ap, ◌∙◌, subst}
use Rattle.rc_base.specs.Transcript.{Pick, done, limit}
use Rattle.rc_play_spec.specs.Control.{Control}
use Rattle.rc_play_spec.specs.Table.{Table}
use Rattle.rc_play_spec.specs.About.{About, menu_at}
use Rattle.rc_play_spec.specs.Effects.{Dealing}
use Rattle.rc_play_spec.specs.Step.{Config, Stop, decide, is_done, is_limit, start}
use Rattle.rc_play_spec.specs.Stop.{Stopped, stop_of}
use Rattle.rc_play_spec.specs.Decision.{choose}
use Rattle.rc_play_spec.specs.Play.{Chooser, Played, ended, with_pick, from_stop, pick_at, stop_behind, follow, reached, played_on, played}
use Rattle.rc_play_spec.proofs.FollowLemmas.{mapped}

-- what is there under a test
pub under : {A : Type 0} (b : Bool) (o : Option A) (a : A) → (if b then o else None) ≡ Some a → o ≡ Some a
under true o a e = e
under false o a e = absurd (cc)

module _ {S : Type 0} (about : About) (dealing : Dealing S) (chooser : Chooser S)
    (keeps : (seat site : ℕ) (table : Table) (control : Control) (k : S) → (chooser seat site table control k).1 ≡ k) where
  -- what the chooser takes at a decision
  abbrev pub taken_at : ℕ → ℕ → Stopped S → Pick
  taken_at seat site at = pick_at about seat site (chooser seat site at.config.table at.config.control at.dealer).0 at.config

  -- each of these picks is that, from here on
  abbrev AreTaken : (List ℕ → Option (Stopped S)) → List Pick → Type 0
  AreTaken leads new =
      (n seat site : ℕ) (at : Stopped S) → leads (map (λ pick. pick.item) (take n new)) ≡ Some at → at.stop ≡ decide seat site →
      slice_get new n ≡ Some (taken_at seat site at)

  -- there is no decision at an end
  not_done : (c : Config) (k : S) (seat site : ℕ) (at : Stopped S) → Some (record { stop = is_done; config = c; dealer = k }) ≡ Some at →
      at.stop ≡ decide seat site → ⊥
  not_done c k seat site at e is =
      let same : record { stop = is_done; config = c; dealer = k } ≡ at = cc in
      let stop : is_done ≡ decide seat site = ap (λ at. at.stop) same ∙ is in cc

  not_limit : (c : Config) (k : S) (seat site : ℕ) (at : Stopped S) → Some (record { stop = is_limit; config = c; dealer = k }) ≡ Some at →
      at.stop ≡ decide seat site → ⊥
  not_limit c k seat site at e is =
      let same : record { stop = is_limit; config = c; dealer = k } ≡ at = cc in
      let stop : is_limit ≡ decide seat site = ap (λ at. at.stop) same ∙ is in cc

  none_done : (c : Config) (k : S) → AreTaken (λ items. follow about dealing items is_done c k) []
  none_done c k zero seat site at e is = absurd (not_done c k seat site at e is)
  none_done c k (suc n) seat site at e is = absurd (not_done c k seat site at e is)

  none_limit : (c : Config) (k : S) → AreTaken (λ items. follow about dealing items is_limit c k) []
  none_limit c k zero seat site at e is = absurd (not_limit c k seat site at e is)
  none_limit c k (suc n) seat site at e is = absurd (not_limit c k seat site at e is)

  -- the first pick
  here : (seat site : ℕ) (c : Config) (k : S) (seat' site' : ℕ) (at : Stopped S) →
      Some (record { stop = decide seat site; config = c; dealer = k }) ≡ Some at → at.stop ≡ decide seat' site' →
      Some (taken_at seat site (record { stop = decide seat site; config = c; dealer = k })) ≡ Some (taken_at seat' site' at)
  here seat site c k seat' site' at e is =
      let first : Stopped S = record { stop = decide seat site; config = c; dealer = k } in
      let same : first ≡ at = cc in
      let stop : decide seat site ≡ decide seat' site' = ap (λ at. at.stop) same ∙ is in
      let seats : seat ≡ seat' = cc in
      let sites : site ≡ site' = cc in
      ap (λ at. Some (taken_at seat site at)) same ∙ ap (λ s. Some (taken_at s site at)) seats ∙ ap (λ s. Some (taken_at seat' s at)) sites

  next_behind : (more : ℕ) (o : Option (Stopped S)) (p : Played S) →
      ((stop : Stop) (c : Config) (k : S) → played_on about dealing chooser more stop c k ≡ Some p → AreTaken (λ items. follow about dealing items stop c k) p.picks) →
      from_stop (played_on about dealing chooser more) o ≡ Some p → AreTaken (λ items. from_stop (follow about dealing items) o) p.picks
  next_behind more None p rest is = absurd (cc)
  next_behind more (Some at) p rest is = rest at.stop at.config at.dealer is

  more_taken : (seat site : ℕ) (c : Config) (k : S) (new : List Pick) →
      AreTaken (λ items. from_stop (follow about dealing items) (stop_behind about dealing
      (choose about dealing (chooser seat site c.table c.control k).1 (chooser seat site c.table c.control k).0 c))) new →
      AreTaken (λ items. follow about dealing items (decide seat site) c k)
      (taken_at seat site (record { stop = decide seat site; config = c; dealer = k }) ∷ new)
  more_taken seat site c k new rest zero seat' site' at e is = here seat site c k seat' site' at e is
  more_taken seat site c k new rest (suc n) seat' site' at e is =
      let chosen = chooser seat site c.table c.control k in
      let items = map (λ pick. pick.item) (take n new) in
      rest n seat' site' at
      (ap (λ k'. from_stop (follow about dealing items) (stop_behind about dealing (choose about dealing k' chosen.0 c))) (keeps seat site c.table c.control k)
      ∙ under (nat_lt chosen.0 (length (menu_at about site c.table c.control)))
      (from_stop (follow about dealing items) (stop_behind about dealing (choose about dealing k chosen.0 c))) at e) is

  nexts : (more : ℕ) (stop : Stop) (c : Config) (k : S) (p : Played S) → played_on about dealing chooser more stop c k ≡ Some p →
      AreTaken (λ items. follow about dealing items stop c k) p.picks
  nexts more is_done c k p is =
      let same : ended done c k ≡ p = cc in subst (λ (p : Played S). AreTaken (λ items. follow about dealing items is_done c k) p.picks) same (none_done c k)
  nexts more is_limit c k p is =
      let same : ended limit c k ≡ p = cc in subst (λ (p : Played S). AreTaken (λ items. follow about dealing items is_limit c k) p.picks) same (none_limit c k)
  nexts zero (decide seat site) c k p is = absurd (cc)
  nexts (suc more) (decide seat site) c k p is =
      let chosen = chooser seat site c.table c.control k in
      let pick = pick_at about seat site chosen.0 c in
      let behind = mapped (with_pick pick) (from_stop (played_on about dealing chooser more) (stop_behind about dealing (choose about dealing chosen.1 chosen.0 c))) p is in
      let q = behind.0 in
      let rest = next_behind more (stop_behind about dealing (choose about dealing chosen.1 chosen.0 c)) q (λ stop c k. nexts more stop c k q) behind.1 in
      subst (λ (p : Played S). AreTaken (λ items. follow about dealing items (decide seat site) c k) p.picks) behind.2 (more_taken seat site c k q.picks rest)

  pub pick_taken : (k : S) (p : Played S) → played about dealing chooser k ≡ Some p → (n seat site : ℕ) (at : Stopped S) →
      reached about dealing (map (λ pick. pick.item) (take n p.picks)) k ≡ Some at → at.stop ≡ decide seat site →
      slice_get p.picks n ≡ Some (taken_at seat site at)
  pick_taken k p is n seat site at leads stands =
      next_behind about.turns (stop_of about dealing k (start about)) p (λ stop c k. nexts about.turns stop c k p) is n seat site at leads stands
