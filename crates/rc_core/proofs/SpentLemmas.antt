-- Matches that are spent stay as they are.
use Rattle.std.proofs.Common.{◌≡◌, ℕ, ◌⊎◌, inl, inr, List, slice_get, Result, Ok, Err, OnOk, OnErr, Option, Some, None, refl, sym, ap, ◌∙◌, subst}
use Rattle.rc_match.specs.Lane.{Phase, ready, spent, MatchLane}
use Rattle.rc_match.specs.LaneLaws.{with_phase}
use Rattle.rc_redraw.specs.Asking.{Key}
use Rattle.rc_core.specs.House.{House, with_match}
use Rattle.rc_core.specs.Events.{Event, works, looks, keeps, loses, worked, looked_up, handed_over, alone, shared, after_event}
use Rattle.rc_core.specs.Laws.{SpentMatchesStay}
use Rattle.rc_core.specs.Short.{BecomesSpent, FailsAt, KeepsSpent}
use Rattle.rc_core.proofs.ListLemmas.{get_kept}
use Rattle.rc_core.proofs.StoredLemmas.{not_spent}

-- a step that lacked memory leaves a match spent that wasn't
pub became_spent : {T E : Type 0} (r : Result T E) (lane lane' : MatchLane) (pick : Option ℕ) → lane.phase ≡ ready pick → OnErr r (lane'.phase ≡ spent) →
    OnErr r (lane'.notes ≡ lane.notes) → OnErr r ((lane' ≡ lane) ⊎ BecomesSpent lane lane')
became_spent (Ok x) lane lane' pick is gone kept = tt
became_spent (Err x) lane lane' pick is gone kept =
    inr (record { before = λ e. let both : ready pick ≡ spent = sym is ∙ e in absurd (cc); behind = gone; notes = kept })

-- where a match that is spent is written again as it is
set_keeps : (h : House) (k : ℕ) (lane lane' : MatchLane) → slice_get h.matches k ≡ Some lane → (lane.phase ≡ spent → lane' ≡ lane) →
    KeepsSpent h (with_match h k lane')
set_keeps h k lane lane' there same m found is gone =
    get_kept h.matches k m lane' found is
    (λ e. let both : Some lane ≡ Some found = sym there ∙ ap (slice_get h.matches) (sym e) ∙ is in
    let one : lane ≡ found = cc in
    same (ap (λ (l : MatchLane). l.phase) one ∙ gone) ∙ one)

alone_keeps : (change : MatchLane → MatchLane) (h : House) (m : ℕ) (o : Option MatchLane) → slice_get h.matches m ≡ o →
    ((lane : MatchLane) → lane.phase ≡ spent → change lane ≡ lane) → KeepsSpent h (alone change h m o)
alone_keeps change h m None is same = λ k found there gone. there
alone_keeps change h m (Some lane) is same = set_keeps h m lane (change lane) is (same lane)

shared_keeps : (change : Phase → Phase × List Key) (h : House) (m : ℕ) (o : Option MatchLane) →
    slice_get h.matches m ≡ o →
    (change spent).0 ≡ spent → KeepsSpent h (shared change h m o)
shared_keeps change h m None is same k found there gone = there
shared_keeps change h m (Some lane) is same k found there gone =
    set_keeps h m lane (with_phase lane (change lane.phase).0) is
    (λ e. ap (λ ph. with_phase lane (change ph).0) e ∙ ap (with_phase lane) (same ∙ sym e)) k found there gone

-- what follows from an event
event_keeps : (h : House) (event : Event) → KeepsSpent h (after_event h event)
event_keeps h (works m) =
    alone_keeps (λ lane. worked h.about h.plan m lane lane.phase) h m (slice_get h.matches m) refl (λ lane e. ap (worked h.about h.plan m lane) e)
event_keeps h (looks m) = shared_keeps (looked_up h.capacity h.entries) h m (slice_get h.matches m) refl refl
event_keeps h (keeps m) = shared_keeps (handed_over h.capacity h.entries) h m (slice_get h.matches m) refl refl
event_keeps h (loses key) = λ k found there gone. there

-- and one that failed
failed_keeps : (h : House) (event : Event) (h' : House) → FailsAt h event h' → KeepsSpent h h'
failed_keeps h event h' (inl same) = subst (KeepsSpent h) (sym same) (λ m lane there gone. there)
failed_keeps h event h' (inr fails) =
    subst (KeepsSpent h) (sym fails.6) (set_keeps h fails.0 fails.1 fails.2 fails.4 (λ e. absurd (fails.5.before e)))

-- so it is behind each call
pub changed_keeps : {T E : Type 0} (r : Result T E) (h h' : House) (event : Event) → OnOk r (h' ≡ after_event h event) → OnErr r (FailsAt h event h') →
    KeepsSpent h h'
changed_keeps (Ok x) h h' event is lacks = subst (KeepsSpent h) (sym is) (event_keeps h event)
changed_keeps (Err x) h h' event is lacks = failed_keeps h event h' lacks

pub spent_stay : SpentMatchesStay
spent_stay h event h' finds (inl same) = same
spent_stay h event h' finds (inr fails) = absurd (not_spent h fails.0 fails.1 fails.4 event fails.3 fails.5.before finds)
