-- What `watch` writes is read, and what it refuses is absent.
use Rattle.std.proofs.Common.{◌≡◌, ◌<◌, ◌≤◌, ◌⊎◌, ℕ, Bool, true, false, nat_lt, if◌then◌else◌, List, [], ◌∷◌, length, inl, inr, refl, sym, ap, ◌∙◌, arith}
use Rattle.std.proofs.lemmas.Bool.{and_from, and_parts, and_cases, and_left, and_right, ltb-true, ltb-false, le-ltb, lt-ltb}
use Rattle.rc_base.specs.Tree.{Tree}
use Rattle.rc_sheet_spec.specs.Sheet.{Sheet}
use Rattle.rc_play_spec.specs.About.{About, about_of}
use Rattle.rc_play_spec.specs.Plan.{Plan}
use Rattle.rc_play_spec.specs.Limits.{IsWithinLimits}
use Rattle.rc_log_spec.specs.Views.{log_of}
use Rattle.rc_log_spec.specs.Reading.{read_log}
use Rattle.rc_log_spec.specs.MatchLaws.{IsWatchable, MatchLogIsRead}
use Rattle.rc_house.specs.declared.task.Task.TheVariants.{Watch}
use Rattle.rc_house.specs.declared.refusal.Refusal.TheVariants as refusal
use Rattle.rc_sheet.specs.Accepted.{IsAccepted}
use Rattle.rc_house.specs.AcceptedPlan.{IsPlanRead}
use Rattle.rc_house.specs.Reading.{IsAcceptedWith}
use Rattle.rc_house.specs.Answer.{text, refused, is_there, watched, IsAnswered, HasAnswer, form_faulty, sheet_faulty, plan_faulty, accepted}
use Rattle.rc_house.specs.WatchedLaws.{TellsViewsBehind, WatchedIsRead, IsAbsentBehind, IsAbsent, AbsentExactly}

module _ (about : About) (plan : Plan) (seat number : ℕ) where
  there : is_there about plan seat number ≡ true → (seat < about.sheet.players) × (number < length plan.matches)
  there is =
      let both = and_parts (nat_lt seat about.sheet.players) (nat_lt number (length plan.matches)) is in
      (ltb-true seat about.sheet.players both.0, ltb-true number (length plan.matches) both.1)

  missing : is_there about plan seat number ≡ false → (about.sheet.players ≤ seat) ⊎ (length plan.matches ≤ number)
  missing is = by (and_cases (nat_lt seat about.sheet.players) (nat_lt number (length plan.matches)) is)
    where
      by : (nat_lt seat about.sheet.players ≡ false) ⊎ (nat_lt number (length plan.matches) ≡ false)
          → (about.sheet.players ≤ seat) ⊎ (length plan.matches ≤ number)
      by (inl few) = inl (ltb-false seat about.sheet.players few)
      by (inr few) = inr (ltb-false number (length plan.matches) few)

  not_there : (about.sheet.players ≤ seat) ⊎ (length plan.matches ≤ number) → is_there about plan seat number ≡ false
  not_there (inl few) =
      and_left (nat_lt seat about.sheet.players) (nat_lt number (length plan.matches)) (le-ltb seat about.sheet.players few)
  not_there (inr few) =
      and_right (nat_lt seat about.sheet.players) (nat_lt number (length plan.matches)) (le-ltb number (length plan.matches) few)

  -- where they are there, the answer is the log
  pub seen_there : seat < about.sheet.players → number < length plan.matches
      → watched seat number about plan ≡ text (log_of about plan number seat) [] 0
  seen_there seated numbered =
      ap (λ here. if here then text (log_of about plan number seat) [] 0 else refused refusal.Absent)
      (and_from (nat_lt seat about.sheet.players) (nat_lt number (length plan.matches)) (lt-ltb seat about.sheet.players seated)
      (lt-ltb number (length plan.matches) numbered))

  -- a text is the log of a seat and a match that are there
  written : (bytes note : List ℕ) (playouts : ℕ) → watched seat number about plan ≡ text bytes note playouts
      → (is_there about plan seat number ≡ true) × (bytes ≡ log_of about plan number seat)
  written bytes note playouts same = by (is_there about plan seat number) refl same
    where
      by : (here : Bool) → is_there about plan seat number ≡ here
          → (if here then text (log_of about plan number seat) [] 0 else refused refusal.Absent) ≡ text bytes note playouts
          → (is_there about plan seat number ≡ true) × (bytes ≡ log_of about plan number seat)
      by true is same = (is, cc)
      by false is same = absurd cc

  -- and a refusal is for want of them
  refuses : watched seat number about plan ≡ refused refusal.Absent → is_there about plan seat number ≡ false
  refuses same = by (is_there about plan seat number) refl same
    where
      by : (here : Bool) → is_there about plan seat number ≡ here
          → (if here then text (log_of about plan number seat) [] 0 else refused refusal.Absent) ≡ refused refusal.Absent
          → is_there about plan seat number ≡ false
      by true is same = absurd cc
      by false is same = is

-- a plan that is read is within its limits
plan_within : (players : ℕ) (others : List Tree) (plan : Plan) → IsPlanRead players others plan → IsWithinLimits plan
plan_within players [] plan read = absurd read
plan_within players (form ∷ others) plan read = read.within

-- the matches of an accepted sheet can be watched
watchable : (form : Tree) (sheet : Sheet) (plan : Plan) → IsAccepted form sheet → IsWithinLimits plan → IsWatchable (about_of sheet plan.turns)
watchable form sheet plan is within =
    let few = within.turn_limit.1 in
    record { shape = refl; well = is.of_form.well; sight = is.sight; turns = omega (arith, few) }

pub watched_read : MatchLogIsRead → WatchedIsRead
watched_read law seat number source bytes note playouts (form_faulty kind at has is) = absurd cc
watched_read law seat number source bytes note playouts (sheet_faulty read kind at has is) = absurd cc
watched_read law seat number source bytes note playouts (plan_faulty read kind at has is) = absurd cc
watched_read law seat number source bytes note playouts (accepted read has) = (read, by read.lists has)
  where
    by : (lists : List Tree) → IsAcceptedWith (λ sheet others. IsAnswered (Watch seat number) source sheet others read.rest (text bytes note playouts)) lists
        → IsAcceptedWith (TellsViewsBehind seat number source read.rest bytes) lists
    by [] has = absurd has
    by (form ∷ others) has =
        let sheet : Sheet = has.0 in
        let plan : Plan = has.2.0 in
        let about : About = about_of sheet plan.turns in
        let told = written about plan seat number bytes note playouts (sym has.2.2) in
        let here = there about plan seat number told.0 in
        let within = plan_within sheet.players others plan has.2.1.0 in
        let seated = here.0 in
        let numbered = here.1 in
        let most = within.count.1 in
        let back = law about plan number seat (watchable form sheet plan has.1 within) seated (omega (arith, numbered, most)) in
        (sheet, has.1, (plan, has.2.1, seated, numbered, ap (read_log about.shape) told.1 ∙ back))

absent_only : (seat number : ℕ) (source : List ℕ) → HasAnswer (Watch seat number) source (refused refusal.Absent) → IsAbsent seat number source
absent_only seat number source (form_faulty kind at has is) = absurd cc
absent_only seat number source (sheet_faulty read kind at has is) = absurd cc
absent_only seat number source (plan_faulty read kind at has is) = absurd cc
absent_only seat number source (accepted read has) = (read, by read.lists has)
  where
    by : (lists : List Tree) → IsAcceptedWith (λ sheet others. IsAnswered (Watch seat number) source sheet others read.rest (refused refusal.Absent)) lists
        → IsAcceptedWith (IsAbsentBehind seat number source read.rest) lists
    by [] has = absurd has
    by (form ∷ others) has =
        let about : About = about_of has.0 has.2.0.turns in
        (has.0, has.1, (has.2.0, has.2.1, missing about has.2.0 seat number (refuses about has.2.0 seat number (sym has.2.2))))

absent_then : (seat number : ℕ) (source : List ℕ) → IsAbsent seat number source → HasAnswer (Watch seat number) source (refused refusal.Absent)
absent_then seat number source (read, is) = accepted read (by read.lists is)
  where
    by : (lists : List Tree) → IsAcceptedWith (IsAbsentBehind seat number source read.rest) lists
        → IsAcceptedWith (λ sheet others. IsAnswered (Watch seat number) source sheet others read.rest (refused refusal.Absent)) lists
    by [] is = absurd is
    by (form ∷ others) is =
        let plan : Plan = is.2.0 in
        let about : About = about_of is.0 plan.turns in
        let none = not_there about plan seat number is.2.2 in
        let same = ap (λ here. if here then text (log_of about plan number seat) [] 0 else refused refusal.Absent) none in
        (is.0, is.1, (plan, is.2.1, sym same))

pub absent_exactly : AbsentExactly
absent_exactly seat number source = (absent_only seat number source, absent_then seat number source)
