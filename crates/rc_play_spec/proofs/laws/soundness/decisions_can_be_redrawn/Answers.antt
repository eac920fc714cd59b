use Rattle.std.proofs.Common.{refl, ap, sym, ◌∙◌}
use Rattle.rc_play_spec.specs.View.{view_of}
use Rattle.rc_play_spec.specs.Redraw.{redraw}
use Rattle.rc_play_spec.proofs.Redrawn.{redrawn-of}
use Rattle.rc_play_spec.proofs.Seen.{equal_views_equal_menus}
use Rattle.rc_play_spec.proofs.SoundPlays.{reached_sound}
use Rattle.rc_play_spec.proofs.ReachedLemmas.{decision_at_site}
use Rattle.rc_play_spec.proofs.laws.soundness.decisions_can_be_redrawn.Goals as goal

pub returns : goal.returns
returns c = λ about dealing fits formed rule orders items key k seat site at is stands.
    let control = at.config.control in
    let view = view_of about.shape seat at.config.table control in
    let sound = reached_sound about dealing fits formed orders items k at is in
    let h = redrawn-of about.shape view key (at.config.table, sound, refl) in
    let moves = (decision_at_site about dealing formed.numbered.sites items k at seat site is stands).0.moves in
    let same =
    ap (λ s. view_of about.shape s (redraw about.shape view key) control) (sym moves) ∙ h.1 ∙ ap (λ s. view_of about.shape s at.config.table control) moves in (
      h.0,
      h.1,
      equal_views_equal_menus about.sheet about.shape (redraw about.shape view key) at.config.table control control site (ap (λ s. s.places) fits) rule same,
    )
