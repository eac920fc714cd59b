-- What the calls of a house leave of it.
use Rattle.std.proofs.Common.{◌≡◌, ℕ, zero, suc, ◌<◌, ◌⊎◌, inl, inr, List, [], ◌∷◌, length, map, get_or, slice_get, slice_set, Bool, false, Result, Ok, Err, OnOk, OnErr, Option, Some, None, refl, sym, ap, ◌∙◌, subst}
use Rattle.std.specs.Prelude.{IfSome}
use Rattle.std.proofs.lemmas.List.{map-set}
use Rattle.std.proofs.lemmas.Option.{slice_get_read}
use Rattle.std.proofs.lemmas.Result.{on_ok_weaker, on_err_weaker}
use Rattle.rc_sheet_spec.specs.Sight.{IsInSight}
use Rattle.rc_sheet_spec.specs.WellFormed.{IsWellFormed}
use Rattle.rc_play_spec.specs.Shape.{shape_of}
use Rattle.rc_play_spec.specs.About.{About}
use Rattle.rc_play_spec.specs.Plan.{Plan}
use Rattle.rc_rules.specs.Plan.{plan_seen}
use Rattle.rc_redraw.specs.Asking.{Key}
use Rattle.rc_flat.specs.Machine.{Machine}
use Rattle.rc_match.specs.Lane.{Phase, ready, asks, missed, holds, over, spent, MatchLane, phase_seen}
use Rattle.rc_match.specs.Way.{IsFresh}
use Rattle.rc_match.specs.declared.lane.Phase.{Phase as StoredPhase}
use Rattle.rc_match.specs.LaneLaws.{with_phase}
use Rattle.rc_match.specs.Sound.{IsSound as IsSoundMatch}
use Rattle.rc_match.specs.declared.lane.LaneState.{LaneState}
use Rattle.rc_match.proofs.SoundLemmas.{sound_spent}
use Rattle.rc_core.specs.House.{House, with_match, with_entries}
use Rattle.rc_core.specs.Events.{Event, works, looks, keeps, worked, looked_up, handed_over, after_event}
use Rattle.rc_core.specs.Kept.{house_seen, IsKept}
use Rattle.rc_core.specs.Laws.{IsChecked, IsOf}
use Rattle.rc_core.specs.Short.{named_by, FindsSpent, BecomesSpent, FailsAt, KeepsSpent}
use Rattle.rc_core.specs.Sound.{IsSound}
use Rattle.rc_core.specs.Stored.{lane_in, IsOwn, AreOwn, Wants}
use Rattle.rc_core.specs.declared.house.House.TheInside.{Inside}
use Rattle.rc_core.proofs.HouseLemmas.{match_changed, event_sound, matches_of_plan}
use Rattle.rc_core.proofs.MatchSteps.{work_sound}
use Rattle.rc_core.proofs.SpentLemmas.{changed_keeps}
use Rattle.rc_core.proofs.StoredLemmas.{lane_there, own_set, not_spent, work_there, look_there, keep_there, match_wants}

-- the same of equal parts
pub along : {a a' : About} {p p' : Plan} {n n' : ℕ} (P : About → Plan → ℕ → Type 0) → a ≡ a' → p ≡ p' → n ≡ n' → P a p n → P a' p' n'
along {a} {a'} {p} {p'} {n} {n'} P e1 e2 e3 x =
    subst (λ k. P a' p' k) e3 (subst (λ q. P a' q n) e2 (subst (λ b. P b p n) e1 x))

-- a place of a list that is written with what stands there
set_same : {A : Type 0} (xs : List A) (m : ℕ) (x : A) → slice_get xs m ≡ Some x → slice_set xs m x ≡ xs
set_same [] m x is = refl
set_same (y ∷ xs) zero x is = let same : y ≡ x = cc in ap (λ z. z ∷ xs) (sym same)
set_same (y ∷ xs) (suc m) x is = ap (λ zs. y ∷ zs) (set_same xs m x is)

-- what a match is behind work that was refused, or wasn't
worked_sound : {T E : Type 0} (r : Result T E) (about : About) (plan : Plan) (m : ℕ) (lane lane' : MatchLane) → IsChecked about →
    IsSoundMatch about plan m lane → OnOk r (lane' ≡ worked about plan m lane lane.phase) →
    OnErr r ((lane' ≡ lane) ⊎ BecomesSpent lane lane') → IsSoundMatch about plan m lane'
worked_sound (Ok x) about plan m lane lane' checked sound is lacks =
    subst (IsSoundMatch about plan m) (sym is) (work_sound about plan m checked lane sound)
worked_sound (Err e) about plan m lane lane' checked sound is (inl same) =
    subst (IsSoundMatch about plan m) (sym same) sound
worked_sound (Err e) about plan m lane lane' checked sound is (inr gone) = sound_spent about plan m lane lane' gone.behind gone.notes sound

-- what an about keeps
pub checked_of : (a about : About) → a ≡ about → a.shape ≡ shape_of a.sheet → IsWellFormed a.sheet → IsInSight a.sheet → IsChecked about
checked_of a about same shape well sight = subst IsChecked same (record { shape = shape; well = well; sight = sight })

-- a match that waits for something else
abbrev pub waiting : LaneState Machine → StoredPhase → LaneState Machine
waiting state phase = record { machine = state.machine; dealer = state.dealer; notes = state.notes; phase = phase }

never_spent : (phase : Phase) → IsFresh phase false
never_spent (ready pick) = refl
never_spent (asks need) = refl
never_spent (missed need) = refl
never_spent (holds need key) = refl
never_spent over = refl
never_spent spent = tt

-- the machine of a match that isn't spent isn't either
not_gone : (phase : Phase) (is_spent : Bool) → (phase ≡ spent → ⊥) → IsFresh phase is_spent → is_spent ≡ false
not_gone (ready pick) is_spent going fresh = fresh
not_gone (asks need) is_spent going fresh = fresh
not_gone (missed need) is_spent going fresh = fresh
not_gone (holds need key) is_spent going fresh = fresh
not_gone over is_spent going fresh = fresh
not_gone spent is_spent going fresh = absurd (going refl)

-- and it stays so behind a call that doesn't touch it, which is refused where the match is spent
still_fresh : {T E : Type 0} (r : Result T E) (Q : Type 0) (phase phase' : Phase) (is_spent : Bool) → OnOk r (phase ≡ spent → ⊥) → OnErr r ((phase' ≡ phase) × Q) →
    IsFresh phase is_spent → IsFresh phase' is_spent
still_fresh (Ok x) Q phase phase' is_spent going lacks fresh = subst (IsFresh phase') (sym (not_gone phase is_spent going fresh)) (never_spent phase')
still_fresh (Err x) Q phase phase' is_spent going lacks fresh = subst (λ ph. IsFresh ph is_spent) (sym lacks.0) fresh

-- a house with another match and other entries
abbrev pub put_in : Inside → ℕ → LaneState Machine → List Key → House
put_in i m state entries =
    record {
      about = i.about.value;
      plan = plan_seen i.plan.value;
      capacity = i.capacity;
      matches = map lane_in (slice_set i.matches.items m state);
      entries = entries;
    }

-- a match that is there, in a house as its type keeps it
module _ (i : Inside) (kept : IsKept i) (m : ℕ) (state : LaneState Machine) (lt : m < length i.matches.items)
    (value : state ≡ get_or i.matches.items m state) where
  there : slice_get i.matches.items m ≡ Some state
  there = slice_get_read i.matches.items (length i.matches.items) m state refl lt value

  seen_there : slice_get (map lane_in i.matches.items) m ≡ Some (lane_in state)
  seen_there = lane_there i.matches.items m state there

  put_is : (state' : LaneState Machine) (entries : List Key) → put_in i m state' entries ≡ with_match (with_entries (house_seen i) entries) m (lane_in state')
  put_is state' entries =
      ap (λ ms. record { about = i.about.value; plan = plan_seen i.plan.value; capacity = i.capacity; matches = ms; entries = entries })
      (map-set lane_in i.matches.items m state')

  pub known : IsSoundMatch i.about.value (plan_seen i.plan.value) m (lane_in state)
  known = kept.sound.each m (lane_in state) seen_there

  pub own_there : IsOwn i.about.value (plan_seen i.plan.value) m state
  own_there = kept.own m state there

  pub wants_there : Wants i.about.value (lane_in state).phase
  wants_there = match_wants i.about.value (plan_seen i.plan.value) m (lane_in state) known

  same_there : put_in i m state i.entries.items ≡ house_seen i
  same_there =
      put_is state i.entries.items
      ∙ ap (λ ms. record { about = i.about.value; plan = plan_seen i.plan.value; capacity = i.capacity; matches = ms; entries = i.entries.items })
      (set_same (map lane_in i.matches.items) m (lane_in state) seen_there)

  pub own_put : (state' : LaneState Machine) → IsOwn i.about.value (plan_seen i.plan.value) m state' →
      AreOwn i.about.value (plan_seen i.plan.value) (slice_set i.matches.items m state')
  own_put state' own = own_set i.about.value (plan_seen i.plan.value) i.matches.items m state' kept.own own

  module _ {T E : Type 0} (r : Result T E) where
    -- where it waits for something else
    pub own_waits : (Q : Type 0) (phase : StoredPhase) → OnOk r ((lane_in state).phase ≡ spent → ⊥) → OnErr r ((phase_seen phase ≡ (lane_in state).phase) × Q) →
        AreOwn i.about.value (plan_seen i.plan.value) (slice_set i.matches.items m (waiting state phase))
    own_waits Q phase going lacks =
        own_put (waiting state phase)
        (record {
          about = own_there.about;
          deal = own_there.deal;
          fresh = still_fresh r Q (lane_in state).phase (phase_seen phase) state.machine.spent going lacks own_there.fresh;
        })

    module _ {h : House} (view : house_seen i ≡ h) where
      pub named_open : (event : Event) → named_by event ≡ Some m → OnOk r ((lane_in state).phase ≡ spent → ⊥) → OnOk r (FindsSpent h event → ⊥)
      named_open event names isnt =
          on_ok_weaker r (λ e. subst (λ x. FindsSpent x event → ⊥) view (not_spent (house_seen i) m (lane_in state) seen_there event names e)) isnt

      -- behind work
      module _ (state' : LaneState Machine) where
        pub work_leaves : OnOk r (lane_in state' ≡ worked i.about.value (plan_seen i.plan.value) m (lane_in state) (lane_in state).phase) →
            OnOk r (put_in i m state' i.entries.items ≡ after_event h (works m))
        work_leaves is =
            on_ok_weaker r (λ e. subst (λ x. put_in i m state' i.entries.items ≡ after_event x (works m)) view
            (put_is state' i.entries.items ∙ work_there (house_seen i) m (lane_in state) seen_there (lane_in state') e)) is

        pub work_lacks : OnErr r ((lane_in state' ≡ lane_in state) ⊎ BecomesSpent (lane_in state) (lane_in state')) →
            OnErr r (FailsAt h (works m) (put_in i m state' i.entries.items))
        work_lacks lacks =
            on_err_weaker r (λ e. subst (λ x. FailsAt x (works m) (put_in i m state' i.entries.items)) view (by_case e)) lacks
          where
            by_case : (lane_in state' ≡ lane_in state) ⊎ BecomesSpent (lane_in state) (lane_in state') → FailsAt (house_seen i) (works m) (put_in i m state' i.entries.items)
            by_case (inl same) =
                inl (put_is state' i.entries.items ∙ ap (with_match (house_seen i) m) same ∙ sym (put_is state i.entries.items) ∙ same_there)
            by_case (inr gone) = inr (m, lane_in state, lane_in state', refl, seen_there, gone, put_is state' i.entries.items)

        pub work_keeps : OnOk r (lane_in state' ≡ worked i.about.value (plan_seen i.plan.value) m (lane_in state) (lane_in state).phase) →
            OnErr r ((lane_in state' ≡ lane_in state) ⊎ BecomesSpent (lane_in state) (lane_in state')) → KeepsSpent h (put_in i m state' i.entries.items)
        work_keeps is lacks = changed_keeps r h (put_in i m state' i.entries.items) (works m) (work_leaves is) (work_lacks lacks)

      -- behind a look or a keep, which leave machine, dealer and record
      module _ (phase : StoredPhase) (entries : List Key) where
        pub look_leaves : OnOk r ((capacity : ℕ) → (phase_seen phase, entries) ≡ looked_up capacity i.entries.items (lane_in state).phase) →
            OnOk r (put_in i m (waiting state phase) entries ≡ after_event h (looks m))
        look_leaves is =
            on_ok_weaker r (λ e. subst (λ x. put_in i m (waiting state phase) entries ≡ after_event x (looks m)) view
            (put_is (waiting state phase) entries ∙ look_there (house_seen i) m (lane_in state) seen_there (phase_seen phase) entries (e i.capacity))) is

        pub keep_leaves : OnOk r ((phase_seen phase, entries) ≡ handed_over i.capacity i.entries.items (lane_in state).phase) →
            OnOk r (put_in i m (waiting state phase) entries ≡ after_event h (keeps m))
        keep_leaves is =
            on_ok_weaker r (λ e. subst (λ x. put_in i m (waiting state phase) entries ≡ after_event x (keeps m)) view
            (put_is (waiting state phase) entries ∙ keep_there (house_seen i) m (lane_in state) seen_there (phase_seen phase) entries e)) is

        -- one that was refused changed nothing
        pub nothing_left : OnErr r ((phase_seen phase ≡ (lane_in state).phase) × (entries ≡ i.entries.items)) →
            OnErr r (put_in i m (waiting state phase) entries ≡ h)
        nothing_left lacks =
            on_err_weaker r (λ e. subst (λ x. put_in i m (waiting state phase) entries ≡ x) view
            (put_is (waiting state phase) entries
            ∙ ap (λ es. with_match (with_entries (house_seen i) es) m (lane_in (waiting state phase))) e.1
            ∙ ap (λ ph. with_match (house_seen i) m (with_phase (lane_in state) ph)) e.0
            ∙ sym (put_is state i.entries.items) ∙ same_there)) lacks

        module _ (lacks : OnErr r ((phase_seen phase ≡ (lane_in state).phase) × (entries ≡ i.entries.items))) where
          refused_keeps : (event : Event) → OnOk r (put_in i m (waiting state phase) entries ≡ after_event h event) →
              KeepsSpent h (put_in i m (waiting state phase) entries)
          refused_keeps event is =
              changed_keeps r h (put_in i m (waiting state phase) entries) event is (on_err_weaker r (λ e. inl e) (nothing_left lacks))

          pub look_keeps : OnOk r ((capacity : ℕ) → (phase_seen phase, entries) ≡ looked_up capacity i.entries.items (lane_in state).phase) →
              KeepsSpent h (put_in i m (waiting state phase) entries)
          look_keeps is = refused_keeps (looks m) (look_leaves is)

          pub keep_keeps : OnOk r ((phase_seen phase, entries) ≡ handed_over i.capacity i.entries.items (lane_in state).phase) →
              KeepsSpent h (put_in i m (waiting state phase) entries)
          keep_keeps is = refused_keeps (keeps m) (keep_leaves is)

    module _ (checked : IsChecked i.about.value) where
      pub work_kept : (state' : LaneState Machine) →
          OnOk r (lane_in state' ≡ worked i.about.value (plan_seen i.plan.value) m (lane_in state) (lane_in state).phase) →
          OnErr r ((lane_in state' ≡ lane_in state) ⊎ BecomesSpent (lane_in state) (lane_in state')) → IsSound (put_in i m state' i.entries.items)
      work_kept state' is lacks =
          subst IsSound (sym (put_is state' i.entries.items))
          (match_changed (house_seen i) m (lane_in state') kept.sound
          (worked_sound r i.about.value (plan_seen i.plan.value) m (lane_in state) (lane_in state') checked known is lacks))

      -- a call by which an event follows, or nothing, keeps the house sound
      pub event_kept : (event : Event) (h : House) → OnOk r (h ≡ after_event (house_seen i) event) → OnErr r (h ≡ house_seen i) → IsSound h
      event_kept event h is lacks = by_case r is lacks where
        by_case : (r : Result T E) → OnOk r (h ≡ after_event (house_seen i) event) → OnErr r (h ≡ house_seen i) → IsSound h
        by_case (Ok x) e lacks = subst IsSound (sym e) (event_sound (house_seen i) checked kept.sound event)
        by_case (Err x) e lacks = subst IsSound (sym lacks) kept.sound

      -- and so do a look and a keep
      module _ (phase : StoredPhase) (entries : List Key) (lacks : OnErr r ((phase_seen phase ≡ (lane_in state).phase) × (entries ≡ i.entries.items))) where
        pub look_kept : OnOk r ((capacity : ℕ) → (phase_seen phase, entries) ≡ looked_up capacity i.entries.items (lane_in state).phase) →
            IsSound (put_in i m (waiting state phase) entries)
        look_kept is = event_kept (looks m) (put_in i m (waiting state phase) entries) (look_leaves refl phase entries is) (nothing_left refl phase entries lacks)

        pub keep_kept : OnOk r ((phase_seen phase, entries) ≡ handed_over i.capacity i.entries.items (lane_in state).phase) →
            IsSound (put_in i m (waiting state phase) entries)
        keep_kept is = event_kept (keeps m) (put_in i m (waiting state phase) entries) (keep_leaves refl phase entries is) (nothing_left refl phase entries lacks)

-- each match of a sound house is that of the plan
of_plan_from : (h : House) (m : ℕ) (sound : IsSound h) (o : Option MatchLane) → slice_get h.matches m ≡ o →
    IfSome o (λ lane. IsOf h.about h.plan m lane)
of_plan_from h m sound None is = tt
of_plan_from h m sound (Some lane) is = matches_of_plan h sound m lane is

pub of_plan_at : (h : House) (m : ℕ) → IsSound h → IfSome (slice_get h.matches m) (λ lane. IsOf h.about h.plan m lane)
of_plan_at h m sound = of_plan_from h m sound (slice_get h.matches m) refl
