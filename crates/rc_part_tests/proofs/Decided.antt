-- A match that first stops at a decision can be made anew there.
use Rattle.std.proofs.Common.{◌≡◌, ℕ, [], Some, refl, sym, ap, subst, ◌∙◌}
use Rattle.rc_sheet_spec.specs.WellFormed.{IsWellFormed}
use Rattle.rc_play_spec.specs.Shape.{shape_of}
use Rattle.rc_play_spec.specs.About.{About}
use Rattle.rc_play_spec.specs.Effects.{Dealing}
use Rattle.rc_play_spec.specs.Step.{Config, Stop, decide, start}
use Rattle.rc_play_spec.specs.Stop.{stop_of}
use Rattle.rc_play_spec.specs.Play.{from_stop, follow}
use Rattle.rc_play_spec.specs.ControlLaws.{ControlsFit}
use Rattle.rc_rules.specs.Machine.{Decides, IsWhereItStops, CanDecide}

pub first_decides : (about about' : About) (dealing : Dealing ℕ) (k k' seat site : ℕ) (stop : Stop) (before c : Config) →
    ControlsFit → about.shape ≡ shape_of about.sheet → IsWellFormed about.sheet → about' ≡ about → before ≡ start about →
    stop_of about' dealing k before ≡ Some (record { stop = stop; config = c; dealer = k' }) → stop ≡ decide seat site →
    IsWhereItStops about' stop c → CanDecide about c.table c.control
first_decides about about' dealing k k' seat site stop before c law shape well same there leads is stands =
    let stops : stop_of about dealing k (start about) ≡ Some (record { stop = decide seat site; config = c; dealer = k' }) =
    sym (ap (λ a. stop_of a dealing k before) same ∙ ap (stop_of about dealing k) there) ∙ leads
    ∙ ap (λ s. Some (record { stop = s; config = c; dealer = k' })) is in
    let decides : Decides about seat site c = subst (λ a. Decides a seat site c) same (subst (λ s. IsWhereItStops about' s c) is stands) in
    record {
      site = site;
      fits = law about dealing shape well [] k (record { stop = decide seat site; config = c; dealer = k' }) seat site
          (ap (from_stop (follow about dealing [])) stops) refl;
      some = decides.offered;
      below = decides.decision.below;
    }
