-- A match in which a search plays stays that match from stop to stop.
use Rattle.std.proofs.Common.{◌≡◌, ℕ, ◌+◌, ◌<◌, Bool, false, length, Option, Some, None, refl, sym, ap, ◌∙◌, subst}
use Rattle.rc_base.specs.Transcript.{Record}
use Rattle.rc_sheet_spec.specs.Sight.{IsInSight}
use Rattle.rc_sheet_spec.specs.WellFormed.{IsWellFormed}
use Rattle.rc_play_spec.specs.Shape.{shape_of}
use Rattle.rc_play_spec.specs.View.{View}
use Rattle.rc_play_spec.specs.About.{About}
use Rattle.rc_play_spec.specs.Step.{Config, Stop, decide, is_done, is_limit}
use Rattle.rc_play_spec.specs.Plan.{Plan, deal_at}
use Rattle.rc_play_spec.specs.Keyed.{dealing_of}
use Rattle.rc_play_spec.proofs.FollowLemmas.{mapped}
use Rattle.rc_redraw.specs.Need.{Need}
use Rattle.rc_match.specs.Lane.{Phase, ready, asks, missed, holds, over, spent, MatchLane, noted, next_stop, lane_at, stepped}
use Rattle.rc_match.specs.Way.{IsFresh, IsOnWay}
use Rattle.rc_match.specs.Sound.{Choices, AreItems, IsSoundBy}
use Rattle.rc_match.specs.Asks.{decisions_in}
use Rattle.rc_match.proofs.PlayLemmas.{decided, decided_in}
use Rattle.rc_match.proofs.SoundBy.{sound_answered, one_left}
use Rattle.rc_match.proofs.WayLemmas.{lane_on}
use Rattle.rc_play_spec.specs.Search.{Rival}
use Rattle.rc_play_spec.specs.Rivals.{rival_choice, rival_play, rival_match}
use Rattle.rc_play_spec.proofs.RivalLemmas.{rival-lt}
use Rattle.rc_search.specs.Chosen.{IsAsked, Chosen}

module _ (about : About) (rival : Rival) (plan : Plan) (m : ℕ) where
  abbrev pub choices : Choices
  choices = rival_choice about rival plan m

  -- what is searched is an item of the menu, and so is what strategies choose
  pub are_items : AreItems about choices
  are_items seat view some = rival-lt about rival plan m seat view some

  module _ (fits : about.shape ≡ shape_of about.sheet) (formed : IsWellFormed about.sheet) (sight : IsInSight about.sheet) where
    -- where the choice is made ready
    pub sound_chosen : (phase : Phase) (c : Config) (k : ℕ) (r : Record) (item : ℕ) → IsSoundBy about choices plan m (lane_on c k r phase) →
        Chosen about rival plan m phase (Some item) → IsSoundBy about choices plan m (lane_on c k r (ready (Some item)))
    sound_chosen (ready pick) c k r item sound is = absurd is
    sound_chosen (asks need) c k r item sound is =
        let has = sound.way.waits in
        let there = ap (λ (n : Need). n.view) has.same in
        sound_answered about choices are_items plan m fits formed sight (asks need) need c k r item sound has
        (is ∙ ap (λ (v : View). rival_choice about rival plan m v.seat v) there)
    sound_chosen (missed need) c k r item sound is = absurd is
    sound_chosen (holds need key) c k r item sound is = absurd is
    sound_chosen over c k r item sound is = absurd is
    sound_chosen spent c k r item sound is = absurd is

    -- no more decisions were made than the play has
    pub fewer_left : (phase phase' : Phase) (c : Config) (k : ℕ) (r : Record) (item : ℕ) → IsSoundBy about choices plan m (lane_on c k r phase) →
        Chosen about rival plan m phase (Some item) → phase' ≡ ready (Some item) →
        (decided_in (lane_on c k r phase') ≡ decided_in (lane_on c k r phase) + 1)
        × (decided_in (lane_on c k r phase) < decisions_in (rival_play about rival plan m))
    fewer_left (ready pick) phase' c k r item sound is there = absurd is
    fewer_left (asks need) phase' c k r item sound is there =
        (ap (λ ph. decided ph (length r.picks)) there, one_left about choices plan m c k r item (sound_chosen (asks need) c k r item sound is))
    fewer_left (missed need) phase' c k r item sound is there = absurd is
    fewer_left (holds need key) phase' c k r item sound is there = absurd is
    fewer_left over phase' c k r item sound is there = absurd is
    fewer_left spent phase' c k r item sound is there = absurd is

  -- at the end the record is that of the match
  pub chosen_end : (phase : Phase) (c : Config) (k : ℕ) (r : Record) → IsSoundBy about choices plan m (lane_on c k r phase) →
      Chosen about rival plan m phase None → rival_match about rival plan m ≡ Some r
  chosen_end (ready pick) c k r sound is = absurd is
  chosen_end (asks need) c k r sound is = absurd is
  chosen_end (missed need) c k r sound is = absurd is
  chosen_end (holds need key) c k r sound is = absurd is
  chosen_end over c k r sound is = sound.goes
  chosen_end spent c k r sound is = absurd is

  -- behind a step a choice is asked, or the match is over
  asked_there : (r : Record) (stop : Stop) (c : Config) (k : ℕ) →
      IsOnWay about plan m (lane_at about plan m r (record { stop = stop; config = c; dealer = k })) →
      IsAsked about plan m (lane_at about plan m r (record { stop = stop; config = c; dealer = k })).phase
  asked_there r (decide seat site) c k way = (way.waits.is, record { about = refl; strategy = refl; seed = refl })
  asked_there r is_done c k way = tt
  asked_there r is_limit c k way = tt

  pub asked_behind : (pick : Option ℕ) (c : Config) (k : ℕ) (r : Record) (lane : MatchLane) → stepped about plan m (lane_on c k r (ready pick)) ≡ Some lane →
      IsOnWay about plan m lane → IsAsked about plan m lane.phase
  asked_behind pick c k r lane is way =
      let found = mapped (lane_at about plan m (noted about c r pick)) (next_stop about (dealing_of (deal_at plan m).deal) k c pick) lane is in
      subst (λ (l : MatchLane). IsAsked about plan m l.phase) found.2
      (asked_there (noted about c r pick) found.0.stop found.0.config found.0.dealer (subst (IsOnWay about plan m) (sym found.2) way))

-- the machine of a match that asks isn't spent
pub fresh_chosen : (about : About) (rival : Rival) (plan : Plan) (m : ℕ) (phase : Phase) (b : Bool) (item : ℕ) → Chosen about rival plan m phase (Some item) →
    IsFresh phase b → b ≡ false
fresh_chosen about rival plan m (ready pick) b item is fresh = absurd is
fresh_chosen about rival plan m (asks need) b item is fresh = fresh
fresh_chosen about rival plan m (missed need) b item is fresh = absurd is
fresh_chosen about rival plan m (holds need key) b item is fresh = absurd is
fresh_chosen about rival plan m over b item is fresh = absurd is
fresh_chosen about rival plan m spent b item is fresh = absurd is

pub fresh_ready : (phase : Phase) (b : Bool) {pick : Option ℕ} → phase ≡ ready pick → b ≡ false → IsFresh phase b
fresh_ready phase b is fresh = subst (λ ph. IsFresh ph b) (sym is) fresh
