-- Decisions at alike states have the same item in whatever match, and a plan has a record for each match.
use Rattle.std.proofs.Common.{◌≡◌, ℕ, List, [], ◌∷◌, map, take, length, slice_get, Option, Some, refl, ◌∙◌, arith}
use Rattle.std.specs.Prelude.{filter_map}
use Rattle.std.proofs.lemmas.List.FromFn.{length-range_with_len}
use Rattle.rc_base.specs.Numbers.{below}
use Rattle.rc_base.specs.Transcript.{Pick}
use Rattle.rc_play_spec.specs.Alike.{IsAlike}
use Rattle.rc_play_spec.specs.About.{About}
use Rattle.rc_play_spec.specs.Effects.{Dealing}
use Rattle.rc_play_spec.specs.Step.{decide}
use Rattle.rc_play_spec.specs.Stop.{Stopped}
use Rattle.rc_play_spec.specs.Play.{Played, pick_at}
use Rattle.rc_play_spec.specs.Plan.{Plan, strategy_at, deal_at}
use Rattle.rc_play_spec.specs.Strategy.{Choice}
use Rattle.rc_play_spec.specs.Match.{match_of}
use Rattle.rc_play_spec.specs.House.{records_of}
use Rattle.rc_play_spec.specs.Keyed.{dealing_of, chooser_of, keyed_play, reached_in}
use Rattle.rc_play_spec.proofs.ChoiceLemmas.{same_choice}
use Rattle.rc_play_spec.proofs.NextLemmas.{pick_taken}
use Rattle.rc_play_spec.proofs.PlayLemmas.{match_recorded}

pub keyed_taken : (about : About) (plan : Plan) (m : ℕ) (p : Played ℕ) → keyed_play about plan m ≡ Some p → (n seat site : ℕ) (at : Stopped ℕ) →
    reached_in about plan m (map (λ pick. pick.item) (take n p.picks)) ≡ Some at → at.stop ≡ decide seat site →
    slice_get p.picks n ≡ Some (pick_at about seat site (chooser_of about plan m seat site at.config.table at.config.control at.dealer).0 at.config)
keyed_taken about plan m p is n seat site at leads stands =
    pick_taken about (dealing_of (deal_at plan m).deal) (chooser_of about plan m) (λ seat site table control k. refl) 0 p is n seat site at leads stands

pub same_picks : (about : About) (plan plan' : Plan) (m m' n n' seat site site' : ℕ) (p p' : Played ℕ) (at at' : Stopped ℕ) →
    keyed_play about plan m ≡ Some p → keyed_play about plan' m' ≡ Some p' →
    reached_in about plan m (map (λ pick. pick.item) (take n p.picks)) ≡ Some at →
    reached_in about plan' m' (map (λ pick. pick.item) (take n' p'.picks)) ≡ Some at' →
    at.stop ≡ decide seat site → at'.stop ≡ decide seat site' →
    IsAlike about.shape seat at.config.table at'.config.table at.config.control at'.config.control →
    strategy_at plan m seat ≡ strategy_at plan' m' seat → (deal_at plan m).seats ≡ (deal_at plan' m').seats →
    (pick : Pick) × (pick' : Pick) × (slice_get p.picks n ≡ Some pick) × (slice_get p'.picks n' ≡ Some pick') × (pick.item ≡ pick'.item)
same_picks about plan plan' m m' n n' seat site site' p p' at at' is is' leads leads' stands stands' alike strategies seeds = (
  _,
  _,
  keyed_taken about plan m p is n seat site at leads stands,
  keyed_taken about plan' m' p' is' n' seat site' at' leads' stands',
  same_choice about plan plan' m m' seat site site' at.dealer at'.dealer at.config.table at'.config.table at.config.control at'.config.control alike strategies seeds,
)

-- a list of which each item has a value
pub each_kept : {A B : Type 0} (f : A → Option B) (xs : List A) → ((x : A) → (b : B) × (f x ≡ Some b)) →
    length (filter_map f xs) ≡ length xs
each_kept f [] each = refl
each_kept f (x ∷ xs) each =
    let rest = each_kept f xs each in
    kept_here f x xs rest (f x) refl (each x).1 where
      kept_here : {A B : Type 0} (f : A → Option B) (x : A) (xs : List A) → length (filter_map f xs) ≡ length xs → (o : Option B) → f x ≡ o →
          {b : B} → f x ≡ Some b → length (filter_map f (x ∷ xs)) ≡ length (x ∷ xs)
      kept_here f x xs rest o is e = rw e (omega (arith, rest))

pub all_recorded : (about : About) (dealing : ℕ → Dealing ℕ) (chosen : Choice) (plan : Plan) →
    length (records_of about dealing chosen plan) ≡ length plan.matches
all_recorded about dealing chosen plan =
    each_kept (match_of about dealing chosen plan) (below (length plan.matches)) (match_recorded about dealing chosen plan)
    ∙ length-range_with_len 0 (length plan.matches)
