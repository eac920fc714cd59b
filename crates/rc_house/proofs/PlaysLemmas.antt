-- Each match of an accepted sheet and plan is a play that the sheet allows, and its picks are its strategies'.
use Rattle.std.proofs.Common.{◌≡◌, ℕ, Bool, zero, suc, ◌+◌, ◌<◌, ◌≤◌, nat_lt, List, [], ◌∷◌, length, slice_get, Option, Some, None, refl, sym, ap, ◌∙◌, subst, arith}
use Rattle.std.specs.List.{filter_map, range_with_len}
use Rattle.rc_base.specs.Transcript.{Ending, done, limit, Record}
use Rattle.rc_sheet_spec.specs.Sheet.{Sheet}
use Rattle.rc_sheet_spec.specs.Sight.{IsInSight}
use Rattle.rc_sheet_spec.specs.WellFormed.{IsWellFormed}
use Rattle.rc_play_spec.specs.About.{About, about_of, menu_at}
use Rattle.rc_play_spec.specs.Effects.{Dealing}
use Rattle.rc_play_spec.specs.Plan.{Plan, deal_at}
use Rattle.rc_play_spec.specs.Fits.{IsAtStop, IsEnd}
use Rattle.rc_play_spec.specs.Step.{Config, Stop, decide, is_done, is_limit, Next, goes, stops, start}
use Rattle.rc_play_spec.specs.Stop.{Stopped, stop_of}
use Rattle.rc_play_spec.specs.Decision.{choose}
use Rattle.rc_play_spec.specs.Play.{Played, from_stop, stop_behind, follow, reached, stop_for, items_of}
use Rattle.rc_play_spec.specs.Scores.{record_of}
use Rattle.rc_play_spec.specs.Keyed.{choice_of, dealing_of, keyed_play, keyed_match}
use Rattle.rc_play_spec.proofs.FitLemmas.{keyed_leads}
use Rattle.rc_play_spec.proofs.FollowLemmas.{mapped}
use Rattle.rc_play_spec.proofs.FrontLemmas.{front_reached}
use Rattle.rc_play_spec.proofs.MatchLemmas.{keyed_taken}
use Rattle.rc_play_spec.proofs.NextLemmas.{under}
use Rattle.rc_play_spec.proofs.PlayLemmas.{match_recorded}
use Rattle.rc_play_spec.proofs.StopFacts.{stops_there}
use Rattle.rc_play_spec.proofs.TurnLemmas.{turns_within}
use Rattle.rc_play_spec.proofs.SiteLemmas.{unwrap}
use Rattle.rc_play_spec.specs.HouseText.{HouseText}
use Rattle.rc_play_spec.specs.Legal.{IsRecordOfPlay, AreRecords}
use Rattle.rc_play_spec.specs.PlayedLaws.{played_text, house_text_in}
use Rattle.rc_play_spec.proofs.PlayedLemmas.{played_legal}
use Rattle.rc_house.specs.Plays.{HasEnded, IsPlayedOut, TellsPlays}

-- where each number has a value, the first of them is the first value
kept_first : {A : Type 0} (f : ℕ → Option A) (m n : ℕ) (a : A) → f m ≡ Some a
    → filter_map f (range_with_len m (suc n)) ≡ a ∷ filter_map f (range_with_len (m + 1) n)
kept_first f m n a is = rw is refl

-- and each stands where its number does
kept_at : {A : Type 0} (f : ℕ → Option A) → ((m : ℕ) → (a : A) × (f m ≡ Some a)) → (k m n at : ℕ) → k < n → m + k ≡ at
    → slice_get (filter_map f (range_with_len m n)) k ≡ f at
kept_at f each k m zero at less here = absurd (omega (arith, less))
kept_at f each zero m (suc n) at less here =
    let a = each m in
    let same : m ≡ at = omega (arith, here) in
    ap (λ all. slice_get all 0) (kept_first f m n a.0 a.1) ∙ sym a.1 ∙ ap f same
kept_at f each (suc k) m (suc n) at less here =
    let a = each m in
    ap (λ all. slice_get all (suc k)) (kept_first f m n a.0 a.1) ∙ kept_at f each k (m + 1) n at (omega (arith, less)) (omega (arith, here))

-- wherever items lead, a match stands at a stop
module _ (about : About) (dealing : Dealing ℕ) where
  abbrev Stands : Stopped ℕ → Type 0
  Stands at = IsAtStop about at.stop at.config

  stands_from : (items : List ℕ) (o : Option (Stopped ℕ)) (at : Stopped ℕ) → ((before : Stopped ℕ) → o ≡ Some before → Stands before)
      → ((before : Stopped ℕ) → Stands before → follow about dealing items before.stop before.config before.dealer ≡ Some at → Stands at)
      → from_stop (follow about dealing items) o ≡ Some at → Stands at
  stands_from items None at known rest is = absurd cc
  stands_from items (Some before) at known rest is = rest before (known before refl) is

  stands_behind : (next : Next ℕ) (at : Stopped ℕ) → stop_behind about dealing next ≡ Some at → Stands at
  stands_behind (goes k c) at is = stops_there about dealing k c at is
  stands_behind (stops stop c) at is = absurd cc

  stands_there : (items : List ℕ) (stop : Stop) (c : Config) (k : ℕ) (at : Stopped ℕ) → IsAtStop about stop c
      → follow about dealing items stop c k ≡ Some at → Stands at
  stands_there [] stop c k at known is =
      let same : record { stop = stop; config = c; dealer = k } ≡ at = cc in subst Stands same known
  stands_there (x ∷ items) is_done c k at known is = absurd cc
  stands_there (x ∷ items) is_limit c k at known is = absurd cc
  stands_there (x ∷ items) (decide seat site) c k at known is =
      let next = choose about dealing k x c in
      stands_from items (stop_behind about dealing next) at (stands_behind next)
      (λ before there is. stands_there items before.stop before.config before.dealer at there is)
      (under (nat_lt x (length (menu_at about site c.table c.control))) (from_stop (follow about dealing items) (stop_behind about dealing next)) at is)

  stands_reached : (items : List ℕ) (k : ℕ) (at : Stopped ℕ) → reached about dealing items k ≡ Some at → Stands at
  stands_reached items k at is =
      stands_from items (stop_of about dealing k (start about)) at (λ before is. stops_there about dealing k (start about) before is)
      (λ before there is. stands_there items before.stop before.config before.dealer at there is) is

module _ (sheet : Sheet) (plan : Plan) (well : IsWellFormed sheet) (sight : IsInSight sheet) where
  abbrev about : About
  about = about_of sheet plan.turns

  -- of the records of plays from match m on, the k-th is that of match m + k
  record_at : (m k at : ℕ) (records : List Record) (r : Record) → m + k ≡ at → AreRecords about dealing_of plan m records
      → slice_get records k ≡ Some r → IsRecordOfPlay about dealing_of plan at r
  record_at m k at [] r here all is = absurd cc
  record_at m zero at (x ∷ records) r here all is =
      let same : m ≡ at = omega (arith, here) in
      subst (λ n. IsRecordOfPlay about dealing_of plan n r) same (subst (IsRecordOfPlay about dealing_of plan m) (unwrap _ _ is) all.0)
  record_at m (suc k) at (x ∷ records) r here all is = record_at (m + 1) k at records r (omega (arith, here)) all.1 is

  -- how a play has ended where it stops
  has_ended : (ending : Ending) (end : Stopped ℕ) → end.stop ≡ stop_for ending → IsAtStop about end.stop end.config
      → end.config.control.turn ≤ about.turns → HasEnded about ending end
  has_ended done end stands at within = (stands, subst (λ stop. IsAtStop about stop end.config) stands at)
  has_ended limit end stands at within =
      let above = subst (λ stop. IsAtStop about stop end.config) stands at in (stands, omega (arith, above, within))

  played_out : (m : ℕ) (p : Played ℕ) → keyed_play about plan m ≡ Some p
      → IsRecordOfPlay about dealing_of plan m (record_of about m (deal_at plan m).deal (deal_at plan m).seats p)
      → IsPlayedOut about plan m (record_of about m (deal_at plan m).deal (deal_at plan m).seats p)
  played_out m p is allowed =
      let dealing = dealing_of (deal_at plan m).deal in
      let numbered = well.numbered.sites in
      let lead = keyed_leads about plan m refl sight numbered p is in
      let end : IsEnd p lead.0 = lead.2 in
      let within = turns_within about dealing (items_of p.picks) 0 lead.0 lead.1 in
      let at = stands_reached about dealing (items_of p.picks) 0 lead.0 lead.1 in
      record {
        allowed = allowed;
        end = lead.0;
        leads = lead.1;
        ended = has_ended p.ending lead.0 end.stop at within;
        turn = ap (λ control. control.turn) (sym end.control);
        within = subst (λ control. control.turn ≤ about.turns) end.control within;
        chosen = λ n less.
            let front = front_reached about dealing p.picks 0 lead.0 lead.1 n less in
            record {
              at = front.0;
              seat = front.1;
              site = front.2;
              leads = front.3;
              decides = front.4;
              picked = keyed_taken about plan m p is n front.1 front.2 front.0 front.3 front.4;
            };
      }

  match_played : (m : ℕ) → m < length plan.matches
      → (r : Record) × (slice_get (played_text about plan).matches m ≡ Some r) × IsPlayedOut about plan m r
  match_played m less =
      let each = match_recorded about dealing_of (choice_of about) plan in
      let told : HouseText = played_text about plan in
      let tell = record_of about m (deal_at plan m).deal (deal_at plan m).seats in
      let r = each m in
      let there : slice_get told.matches m ≡ Some r.0 = kept_at (keyed_match about plan) each m 0 (length plan.matches) m less (omega arith) ∙ r.1 in
      let allowed = record_at 0 m m told.matches r.0 (omega arith) (played_legal about plan refl sight well.numbered.sites).records there in
      let play = mapped tell (keyed_play about plan m) r.0 r.1 in (
        r.0,
        there,
        subst (IsPlayedOut about plan m) play.2
            (played_out m play.0 play.1 (subst (IsRecordOfPlay about dealing_of plan m) (sym play.2) allowed)),
      )

  -- so the house text tells plays
  pub house_tells : (named : Bool) → TellsPlays named sheet plan (house_text_in named about plan)
  house_tells named =
      record {
        told = played_text about plan;
        written = refl;
        legal = played_legal about plan refl sight well.numbered.sites;
        played = match_played;
      }
