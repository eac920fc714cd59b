-- What steps and choices keep holds wherever items lead.
use Rattle.std.proofs.Common.{◌≡◌, ℕ, ◌<◌, nat_lt, Bool, true, false, if◌then◌else◌, List, [], ◌∷◌, length, Option, Some, None, refl, subst}
use Rattle.rc_play_spec.specs.About.{About, menu_at}
use Rattle.rc_play_spec.specs.Effects.{Dealing}
use Rattle.rc_play_spec.specs.Step.{Config, Stop, decide, is_done, is_limit, Next, goes, stops, step, start}
use Rattle.rc_play_spec.specs.Stop.{Stopped, stop_of}
use Rattle.rc_play_spec.specs.Decision.{choose}
use Rattle.rc_play_spec.specs.Fits.{IsAtStop}
use Rattle.rc_play_spec.specs.Play.{from_stop, stop_behind, follow, reached}
use Rattle.rc_play_spec.proofs.StopFacts.{Of, stop_of_has, stops_there}

-- the same of a stop
abbrev pub There : (Config → Type 0) → Stop → Config → Type 0
There Holds stop c = Holds c

module _ {S : Type 0} (about : About) (dealing : Dealing S) (Holds : Config → Type 0)
    (steps : (k : S) (c : Config) → Holds c → Of Holds (There Holds) (step about dealing k c))
    (choices : (k : S) (x : ℕ) (c : Config) → c.control.turn < about.turns → Holds c → Of Holds (There Holds) (choose about dealing k x c)) where
  -- it holds at a stop, which is one
  abbrev HoldsAt : Stop → Config → Type 0
  HoldsAt stop c = IsAtStop about stop c × Holds c

  stop_holds : (k : S) (c : Config) (at : Stopped S) → Holds c → stop_of about dealing k c ≡ Some at → HoldsAt at.stop at.config
  stop_holds k c at holds is = (stops_there about dealing k c at is, stop_of_has about dealing Holds (There Holds) steps k c at holds is)

  behind_holds : (next : Next S) (at : Stopped S) → Of Holds (There Holds) next → stop_behind about dealing next ≡ Some at → HoldsAt at.stop at.config
  behind_holds (goes k c) at holds is = stop_holds k c at holds is
  behind_holds (stops stop c) at holds is = absurd (cc)

  followed : (items : List ℕ) (o : Option (Stopped S)) (at : Stopped S) → ((at : Stopped S) → o ≡ Some at → HoldsAt at.stop at.config) →
      ((stop : Stop) (c : Config) (k : S) → HoldsAt stop c → follow about dealing items stop c k ≡ Some at → Holds at.config) →
      from_stop (follow about dealing items) o ≡ Some at → Holds at.config
  followed items None at here rest is = absurd (cc)
  followed items (Some before) at here rest is = rest before.stop before.config before.dealer (here before refl) is

  chosen_if : (b : Bool) (o : Option (Stopped S)) (at : Stopped S) → (o ≡ Some at → Holds at.config) → (if b then o else None) ≡ Some at → Holds at.config
  chosen_if true o at holds is = holds is
  chosen_if false o at holds is = absurd (cc)

  follow_holds : (items : List ℕ) (stop : Stop) (c : Config) (k : S) (at : Stopped S) → HoldsAt stop c → follow about dealing items stop c k ≡ Some at → Holds at.config
  follow_holds [] stop c k at holds is =
      let same : record { stop = stop; config = c; dealer = k } ≡ at = cc in subst (λ (at : Stopped S). Holds at.config) same holds.1
  follow_holds (x ∷ items) is_done c k at holds is = absurd (cc)
  follow_holds (x ∷ items) is_limit c k at holds is = absurd (cc)
  follow_holds (x ∷ items) (decide seat site) c k at holds is =
      chosen_if (nat_lt x (length (menu_at about site c.table c.control)))
      (from_stop (follow about dealing items) (stop_behind about dealing (choose about dealing k x c))) at
      (λ is.
      followed items (stop_behind about dealing (choose about dealing k x c)) at
      (λ next e. behind_holds (choose about dealing k x c) next (choices k x c holds.0.below holds.1) e)
      (λ stop c k holds is. follow_holds items stop c k at holds is) is) is

  pub reached_holds : Holds (start about) → (items : List ℕ) (k : S) (at : Stopped S) → reached about dealing items k ≡ Some at → Holds at.config
  reached_holds holds items k at is =
      followed items (stop_of about dealing k (start about)) at (λ first e. stop_holds k (start about) first holds e)
      (λ stop c k holds is. follow_holds items stop c k at holds is) is
