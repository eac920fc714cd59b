-- What a look among the entries and a keep leave, and what a key's entry says of a menu.
use Rattle.std.proofs.Common.{◌≡◌, ℕ, true, false, List, [], ◌∷◌, Some, sym, ap, ◌∙◌, subst}
use Rattle.std.specs.Prelude.{if◌then◌else◌}
use Rattle.rc_play_spec.specs.About.{About}
use Rattle.rc_play_spec.specs.Strategy.{menu_size}
use Rattle.rc_redraw.specs.Asking.{Key}
use Rattle.rc_redraw.specs.Choosing.{asked_for}
use Rattle.rc_redraw.specs.Counts.{looked, kept}
use Rattle.rc_redraw.specs.Need.{Need, IsNeed}
use Rattle.rc_match.specs.Lane.{Phase, ready, missed, holds}
use Rattle.rc_cache.specs.Replay.{is_among, without, after}
use Rattle.rc_core.specs.Events.{best_of, found, handed_over}
use Rattle.rc_core.specs.Stored.{Wants}
use Rattle.rc_core.proofs.MatchSteps.{best_chosen}

pair : {A B : Type 0} (a a' : A) (b b' : B) → a ≡ a' → b ≡ b' → ◌≡◌ {A = A × B} (a, b) (a', b')
pair a a' b b' e f = λ i. (e i, f i)

module _ (capacity : ℕ) (entries entries' : List Key) (phase' : Phase) (need : Need) (key : Key) where
  pub found_is : is_among key entries ≡ true → phase' ≡ ready (Some (best_of key)) → entries' ≡ key ∷ without key entries →
      ◌≡◌ {A = Phase × List Key} (phase', entries') (found capacity entries need (key ∷ []))
  found_is there e f =
      pair phase' (ready (Some (best_of key))) entries' (key ∷ without key entries) e f
      ∙ sym (ap (λ b. (if b then ready (Some (best_of key)) else missed need, after capacity entries (looked key b))) there)

  pub missed_is : is_among key entries ≡ false → phase' ≡ missed need → entries' ≡ entries →
      ◌≡◌ {A = Phase × List Key} (phase', entries') (found capacity entries need (key ∷ []))
  missed_is absent e f =
      pair phase' (missed need) entries' entries e f
      ∙ sym (ap (λ b. (if b then ready (Some (best_of key)) else missed need, after capacity entries (looked key b))) absent)

pub handed_is : (capacity : ℕ) (entries entries' : List Key) (phase phase' : Phase) (need : Need) (key : Key) → phase ≡ holds need key →
    phase' ≡ ready (Some (best_of key)) → entries' ≡ after capacity entries (kept key) →
    ◌≡◌ {A = Phase × List Key} (phase', entries') (handed_over capacity entries phase)
handed_is capacity entries entries' phase phase' need key is e f =
    pair phase' (ready (Some (best_of key))) entries' (after capacity entries (kept key)) e f ∙ sym (ap (handed_over capacity entries) is)

-- the menu of what was asked is that of its key
pub asked_menu : (need : Need) (key : Key) → IsNeed need → asked_for need ≡ key ∷ [] → need.menu ≡ menu_size key.about key.ask.view
asked_menu need key is asked =
    let best = best_chosen need key [] asked in
    is.menu ∙ ap (λ a. menu_size a need.view) (sym best.2) ∙ ap (menu_size key.about) (sym best.3)

pub held_wants : (about : About) (phase : Phase) (need : Need) (key : Key) → phase ≡ holds need key → Wants about phase →
    IsNeed need × (asked_for need ≡ key ∷ [])
held_wants about phase need key is wants = let w = subst (Wants about) is wants in (w.0, w.2)
