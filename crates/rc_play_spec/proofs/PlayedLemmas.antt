-- What is played is legal: the picks of a play lead from its first stop to its end.
use Rattle.std.proofs.Common.{◌≡◌, ℕ, zero, suc, ◌+◌, ◌<◌, Bool, true, false, length, Option, Some, None, refl, sym, subst}
use Rattle.std.specs.Prelude.{filter_map}
use Rattle.std.specs.List.{AllByRecursion, range_with_len}
use Rattle.std.proofs.lemmas.List.Elements.{recursion_from_All}
use Rattle.rc_base.specs.Transcript.{Pick, Record, done, limit}
use Rattle.rc_sheet_spec.specs.Sight.{IsInSight}
use Rattle.rc_play_spec.specs.Control.{Control}
use Rattle.rc_play_spec.specs.Shape.{places}
use Rattle.rc_play_spec.specs.Table.{Table}
use Rattle.rc_play_spec.specs.About.{About}
use Rattle.rc_play_spec.specs.Effects.{Dealing}
use Rattle.rc_play_spec.specs.Step.{Config, Stop, decide, is_done, is_limit, start}
use Rattle.rc_play_spec.specs.Stop.{Stopped, stop_of}
use Rattle.rc_play_spec.specs.Decision.{choose}
use Rattle.rc_play_spec.specs.Fits.{IsEnd}
use Rattle.rc_play_spec.specs.Play.{Chooser, Played, ended, with_pick, from_stop, pick_at, stop_behind, played_on, played}
use Rattle.rc_play_spec.specs.Scores.{record_of}
use Rattle.rc_play_spec.specs.Plan.{Plan, deal_at}
use Rattle.rc_play_spec.specs.Keyed.{choice_of, chooser_of, dealing_of, keyed_match, keyed_play}
use Rattle.rc_play_spec.specs.MatchLaws.{HasNumberedSites}
use Rattle.rc_play_spec.proofs.FitLemmas.{keyed_fit}
use Rattle.rc_play_spec.proofs.FollowLemmas.{mapped}
use Rattle.rc_play_spec.proofs.MatchLemmas.{all_recorded}
use Rattle.rc_play_spec.proofs.PlayLemmas.{match_recorded}
use Rattle.rc_play_spec.specs.Legal.{Leads, IsRecordOfPlay, AreRecords, IsLegal, IsLegalText}
use Rattle.rc_play_spec.specs.PlayedLaws.{played_text, told_in}
use Rattle.rc_play_spec.specs.Along.{judged}
use Rattle.rc_play_spec.proofs.LegalLemmas.{legal_used, none_used, own_used_up}

-- a pick of an item that the menu has
abbrev IsItem : Pick → Type 0
IsItem pick = pick.item < pick.size

-- what follows a stop comes from one
from_some : {A : Type 0} (f : Stop → Config → ℕ → Option A) (o : Option (Stopped ℕ)) (a : A) → from_stop f o ≡ Some a →
    (at : Stopped ℕ) × (o ≡ Some at) × (f at.stop at.config at.dealer ≡ Some a)
from_some f None a is = absurd (cc)
from_some f (Some at) a is = (at, refl, is)

module _ (about : About) (dealing : Dealing ℕ) (chooser : Chooser ℕ)
    (keeps : (seat site : ℕ) (table : Table) (control : Control) (k : ℕ) → (chooser seat site table control k).1 ≡ k) where
  -- the picks of a play lead from a stop to its end
  abbrev LeadsToEnd : Stopped ℕ → Played ℕ → Type 0
  LeadsToEnd at p = AllByRecursion IsItem p.picks → (end : Stopped ℕ) × Leads about dealing p.picks at end × IsEnd p end

  leads : (more : ℕ) (stop : Stop) (c : Config) (k : ℕ) (p : Played ℕ) → played_on about dealing chooser more stop c k ≡ Some p →
      LeadsToEnd (record { stop = stop; config = c; dealer = k }) p
  leads more is_done c k p is =
      let same : ended done c k ≡ p = cc in
      subst (LeadsToEnd (record { stop = is_done; config = c; dealer = k })) same
      (λ all. (_, refl, record { stop = refl; table = refl; control = refl; dealer = refl }))
  leads more is_limit c k p is =
      let same : ended limit c k ≡ p = cc in
      subst (LeadsToEnd (record { stop = is_limit; config = c; dealer = k })) same
      (λ all. (_, refl, record { stop = refl; table = refl; control = refl; dealer = refl }))
  leads zero (decide seat site) c k p is = absurd (cc)
  leads (suc more) (decide seat site) c k p is =
      let chosen = chooser seat site c.table c.control k in
      let pick = pick_at about seat site chosen.0 c in
      let next = stop_behind about dealing (choose about dealing chosen.1 chosen.0 c) in
      let behind = mapped (with_pick pick) (from_stop (played_on about dealing chooser more) next) p is in
      let q = behind.0 in
      let at = from_some (played_on about dealing chooser more) next q behind.1 in
      let rest = leads more at.0.stop at.0.config at.0.dealer q at.2 in
      let there = subst (λ k'. stop_behind about dealing (choose about dealing k' chosen.0 c) ≡ Some at.0)
      (keeps seat site c.table c.control k) at.1 in
      subst (LeadsToEnd (record { stop = decide seat site; config = c; dealer = k })) behind.2 (λ all.
      let end = rest all.1 in (
        end.0,
        ((refl, all.0), at.0, there, end.1),
        record { stop = end.2.stop; table = end.2.table; control = end.2.control; dealer = end.2.dealer },
      ))

  -- and from the start to its end
  pub play_leads_on : (p : Played ℕ) → played about dealing chooser 0 ≡ Some p → AllByRecursion IsItem p.picks →
      (first : Stopped ℕ) × (end : Stopped ℕ) × (stop_of about dealing 0 (start about) ≡ Some first) × Leads about dealing p.picks first end × IsEnd p end
  play_leads_on p is all =
      let first = from_some (played_on about dealing chooser about.turns) (stop_of about dealing 0 (start about)) p is in
      let end = leads about.turns first.0.stop first.0.config first.0.dealer p first.2 all in
      (first.0, end.0, first.1, end.1, end.2)

module _ (about : About) (plan : Plan) (fits : about.shape.places ≡ places about.sheet) (rule : IsInSight about.sheet) (numbered : HasNumberedSites about.sheet) where
  -- the record of each match is the record of a play
  play_recorded : (m : ℕ) (p : Played ℕ) → keyed_play about plan m ≡ Some p →
      IsRecordOfPlay about dealing_of plan m (record_of about m (deal_at plan m).deal (deal_at plan m).seats p)
  play_recorded m p is =
      let all = recursion_from_All IsItem p.picks (keyed_fit about plan m fits rule numbered p is) in
      let lead = play_leads_on about (dealing_of (deal_at plan m).deal) (chooser_of about plan m) (λ seat site table control k. refl) p is all in
      let end : IsEnd p lead.1 = lead.4 in
      let table = sym end.table in
      let control = sym end.control in
      let dealer = sym end.dealer in
      record {
        first = lead.0;
        end = lead.1;
        begins = lead.2;
        leads = lead.3;
        stop = end.stop;
        tells = λ i. record_of about m (deal_at plan m).deal (deal_at plan m).seats
            (record { picks = p.picks; ending = p.ending; table = table i; control = control i; dealer = dealer i });
      }

  match_is_play : (m : ℕ) (r : Record) → keyed_match about plan m ≡ Some r → IsRecordOfPlay about dealing_of plan m r
  match_is_play m r is =
      let played = mapped (record_of about m (deal_at plan m).deal (deal_at plan m).seats) (keyed_play about plan m) r is in
      subst (IsRecordOfPlay about dealing_of plan m) played.2 (play_recorded m played.0 played.1)

  -- so are those of so many matches from match m on
  matches_from : (m n : ℕ) → AreRecords about dealing_of plan m (filter_map (keyed_match about plan) (range_with_len m n))
  matches_from m zero = tt
  matches_from m (suc n) =
      let r = match_recorded about dealing_of (choice_of about) plan m in
      rw r.1 (match_is_play m r.0 r.1, matches_from (m + 1) n)

  pub played_legal : IsLegal about dealing_of plan (played_text about plan)
  played_legal =
      record {
        count = all_recorded about dealing_of (choice_of about) plan;
        records = matches_from 0 (length plan.matches);
        standings = refl;
      }

  pub played_legal_in : (named : Bool) → IsLegalText about dealing_of plan named (told_in named about plan (played_text about plan))
  played_legal_in false = (played_legal, tt)
  played_legal_in true = (played_legal, refl)

  pub played_used : (named : Bool) (head : ℕ) → judged about dealing_of plan head (told_in named about plan (played_text about plan)) ≡ None
  played_used false head =
      legal_used about dealing_of plan head (told_in false about plan (played_text about plan)) played_legal (none_used about dealing_of plan (played_text about plan).matches)
  played_used true head =
      legal_used about dealing_of plan head (told_in true about plan (played_text about plan)) played_legal (own_used_up about dealing_of plan (played_text about plan).matches)
