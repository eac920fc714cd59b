-- A table that is redrawn for a decision is one with which somebody decides there.
use Rattle.std.proofs.Common.{◌≡◌, ℕ, ◌<◌, List, length, subst, sym, ap, ◌∙◌}
use Rattle.rc_sheet_spec.specs.Sight.{IsInSight}
use Rattle.rc_play_spec.specs.Shape.{Shape, shape_of}
use Rattle.rc_play_spec.specs.About.{About}
use Rattle.rc_play_spec.specs.ChoiceLaws.{SizeRedrawn}
use Rattle.rc_play_spec.specs.Redraw.{redraw}
use Rattle.rc_play_spec.specs.View.{View}
use Rattle.rc_redraw.specs.Need.{IsAtDecision}
use Rattle.rc_rules.specs.Machine.{CanDecide}
use Rattle.rc_table.specs.Laid.{Laid}

pub can_decide : (about own : About) (view : View) (key : List ℕ) (shape : Shape) (laid : Laid) → SizeRedrawn → own ≡ about →
    own.shape ≡ shape_of own.sheet → IsInSight own.sheet → IsAtDecision about view → shape ≡ about.shape →
    laid ≡ record { shape = shape; table = redraw shape view key } → CanDecide about laid.table view.control
can_decide about own view key shape laid law own_is shape_is sight at same is =
    let whole : laid ≡ record { shape = about.shape; table = redraw about.shape view key } =
    is ∙ ap (λ (s : Shape). record { shape = s; table = redraw s view key }) same in
    let fits : about.shape ≡ shape_of about.sheet = subst (λ (a : About). a.shape ≡ shape_of a.sheet) own_is shape_is in
    let seen : IsInSight about.sheet = subst (λ (a : About). IsInSight a.sheet) own_is sight in
    let can : CanDecide about (redraw about.shape view key) view.control =
    record {
      site = at.site;
      fits = at.fits;
      some = subst (λ n. 0 < n) (law about at.site view key fits seen at.of_sound at.moves at.fits.stands) at.some;
      below = at.below;
    } in
    subst (λ (l : Laid). CanDecide about l.table view.control) (sym whole) can
