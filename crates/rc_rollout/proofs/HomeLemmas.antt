-- Machines that are at home at a decision.
use Rattle.std.proofs.Common.{◌≡◌, ℕ, length, sym, ap, subst, ◌∙◌}
use Rattle.rc_play_spec.specs.About.{About}
use Rattle.rc_play_spec.specs.Step.{Config}
use Rattle.rc_play_spec.specs.Tally.{Ask}
use Rattle.rc_rules.specs.Machine.{StopsAtDecision, menu_here}
use Rattle.rc_flat.specs.Home.{Homing}
use Rattle.rc_rollout.specs.Back.{IsHomeAtRound, IsHomeOf, IsAtRound}

module _ (about : About) (ask : Ask) (round : ℕ) where
  -- where it stands at a round's table, that is its home
  pub home_there : (m : Homing) → IsAtRound about ask round m → IsHomeAtRound about ask round m
  home_there m stands =
      record {
        same = stands.same;
        there = stands.home ∙ stands.there;
        decides = subst (StopsAtDecision about) (sym stands.home) stands.decides;
        size = ap (λ (c : Config). length (menu_here about c)) stands.home ∙ stands.size;
      }

  -- and it is one of the ask, with whatever table
  pub round_home : (m : Homing) → IsHomeAtRound about ask round m → IsHomeOf about ask m
  round_home m home = record { same = home.same; control = ap (λ (c : Config). c.control) home.there }

  -- it stays
  pub home_stays : (old new : Homing) → new.about ≡ about → new.home ≡ old.home → IsHomeAtRound about ask round old → IsHomeAtRound about ask round new
  home_stays old new same home is =
      record {
        same = same;
        there = home ∙ is.there;
        decides = subst (StopsAtDecision about) (sym home) is.decides;
        size = ap (λ (c : Config). length (menu_here about c)) home ∙ is.size;
      }
