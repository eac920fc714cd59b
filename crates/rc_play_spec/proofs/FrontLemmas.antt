-- Each front of the items that lead somewhere leads somewhere, and to a decision where more items follow.
use Rattle.std.proofs.Common.{◌≡◌, ℕ, ◌<◌, nat_lt, Bool, true, false, if◌then◌else◌, List, [], ◌∷◌, ◌++◌, length, map, take, drop, Option, Some, None, refl, sym, ap, ◌∙◌, arith}
use Rattle.std.specs.List.{take-map}
use Rattle.std.proofs.lemmas.List.{take-append-drop, length-drop, length-map}
use Rattle.rc_base.specs.Transcript.{Pick}
use Rattle.rc_play_spec.specs.About.{About, menu_at}
use Rattle.rc_play_spec.specs.Effects.{Dealing}
use Rattle.rc_play_spec.specs.Step.{Config, Stop, decide, is_done, is_limit, start}
use Rattle.rc_play_spec.specs.Stop.{Stopped, stop_of}
use Rattle.rc_play_spec.specs.Decision.{choose}
use Rattle.rc_play_spec.specs.Play.{from_stop, stop_behind, follow, reached}

module _ {S : Type 0} (about : About) (dealing : Dealing S) where
  -- items lead on from a stop to another
  abbrev pub LeadsOn : List ℕ → Stopped S → Stopped S → Type 0
  LeadsOn items from to = follow about dealing items from.stop from.config from.dealer ≡ Some to

  front_if : (x : ℕ) (items more : List ℕ) (b : Bool) (o : Option (Stopped S)) (at : Stopped S) →
      ((from : Stopped S) → LeadsOn (items ++ more) from at → (mid : Stopped S) × LeadsOn items from mid × LeadsOn more mid at) →
      (if b then from_stop (follow about dealing (items ++ more)) o else None) ≡ Some at →
      (mid : Stopped S) × ((if b then from_stop (follow about dealing items) o else None) ≡ Some mid) × LeadsOn more mid at
  front_if x items more false o at rest is = absurd (cc)
  front_if x items more true None at rest is = absurd (cc)
  front_if x items more true (Some from) at rest is = rest from is

  pub front : (items more : List ℕ) (stop : Stop) (c : Config) (k : S) (at : Stopped S) → follow about dealing (items ++ more) stop c k ≡ Some at →
      (mid : Stopped S) × (follow about dealing items stop c k ≡ Some mid) × LeadsOn more mid at
  front [] more stop c k at is = (record { stop = stop; config = c; dealer = k }, refl, is)
  front (x ∷ items) more is_done c k at is = absurd (cc)
  front (x ∷ items) more is_limit c k at is = absurd (cc)
  front (x ∷ items) more (decide seat site) c k at is =
      front_if x items more (nat_lt x (length (menu_at about site c.table c.control))) (stop_behind about dealing (choose about dealing k x c)) at
      (λ from is. front items more from.stop from.config from.dealer at is) is

  -- where an item leads on there is a decision
  decides : (x : ℕ) (items : List ℕ) (stop : Stop) (c : Config) (k : S) (at : Stopped S) → follow about dealing (x ∷ items) stop c k ≡ Some at →
      (seat : ℕ) × (site : ℕ) × (stop ≡ decide seat site)
  decides x items is_done c k at is = absurd (cc)
  decides x items is_limit c k at is = absurd (cc)
  decides x items (decide seat site) c k at is = (seat, site, refl)

  some_behind : (more : List ℕ) (mid at : Stopped S) → 0 < length more → LeadsOn more mid at → (seat : ℕ) × (site : ℕ) × (mid.stop ≡ decide seat site)
  some_behind [] mid at some is = absurd (omega arith)
  some_behind (x ∷ more) mid at some is = decides x more mid.stop mid.config mid.dealer at is

  reached_front : (items more : List ℕ) (o : Option (Stopped S)) (at : Stopped S) → from_stop (follow about dealing (items ++ more)) o ≡ Some at →
      (mid : Stopped S) × (from_stop (follow about dealing items) o ≡ Some mid) × LeadsOn more mid at
  reached_front items more None at is = absurd (cc)
  reached_front items more (Some from) at is = front items more from.stop from.config from.dealer at is

  -- a front of so many of the picks' items
  pub front_reached : (picks : List Pick) (k : S) (at : Stopped S) → reached about dealing (map (λ pick. pick.item) picks) k ≡ Some at → (n : ℕ) → n < length picks →
      (mid : Stopped S) × (seat : ℕ) × (site : ℕ) × (reached about dealing (map (λ pick. pick.item) (take n picks)) k ≡ Some mid) × (mid.stop ≡ decide seat site)
  front_reached picks k at is n lt =
      let item : Pick → ℕ = λ pick. pick.item in
      let parts = take-append-drop n (map item picks) in
      let h = reached_front (take n (map item picks)) (drop n (map item picks)) (stop_of about dealing k (start about)) at
      (ap (λ items. reached about dealing items k) parts ∙ is) in
      let long = length-drop n (map item picks) in
      let all = length-map picks item in
      let d = some_behind (drop n (map item picks)) h.0 at (omega (arith, lt, long, all)) h.2 in
      (h.0, d.0, d.1, ap (λ items. reached about dealing items k) (sym (take-map item n picks)) ∙ h.1, d.2)
