-- What a plan's keys make of its matches is a house text.
use Rattle.std.proofs.Common.{◌≡◌, ◌≢◌, ℕ, zero, suc, ◌+◌, ◌<◌, ◌≤◌, ◌==◌, Bool, true, false, if◌then◌else◌, List, [], ◌∷◌, length, map, Some, refl, ap, subst, arith}
use Rattle.std.specs.Prelude.{filter_map, flat_map}
use Rattle.std.specs.List.{AllByRecursion, range_with_len}
use Rattle.std.proofs.lemmas.List.{length-map}
use Rattle.std.proofs.lemmas.List.FromFn.{length-range_with_len}
use Rattle.std.proofs.lemmas.List.Sorted.{length_permutation}
use Rattle.rc_base.specs.Numbers.{below}
use Rattle.rc_base.specs.Transcript.{Score, Record, Standing}
use Rattle.rc_deck.proofs.EachLemmas.{append_each}
use Rattle.rc_play_spec.specs.Lines.{chosen, shuffled, ending, scored, ranked, IsInRange}
use Rattle.rc_play_spec.specs.HouseText.{shuffles_told, played_lines, told_lines, ended_lines, record_lines, IsHouseText}
use Rattle.rc_play_spec.specs.About.{About}
use Rattle.rc_play_spec.specs.Play.{Played}
use Rattle.rc_play_spec.specs.Scores.{score_at, scores_of, record_of}
use Rattle.rc_play_spec.specs.Plan.{Plan, deal_at}
use Rattle.rc_play_spec.specs.House.{points_of, standings_of}
use Rattle.rc_play_spec.specs.Keyed.{choice_of, dealing_of, keyed_match, keyed_play}
use Rattle.rc_play_spec.proofs.CardLemmas.{map_each}
use Rattle.rc_play_spec.proofs.FitLemmas.{keyed_leads}
use Rattle.rc_play_spec.proofs.FollowLemmas.{mapped}
use Rattle.rc_play_spec.proofs.MatchLemmas.{all_recorded}
use Rattle.rc_play_spec.proofs.PlayLemmas.{match_recorded}
use Rattle.rc_play_spec.proofs.StandingLemmas.{each_once, points_long}
use Rattle.rc_play_spec.proofs.TurnLemmas.{turns_within}
use Rattle.rc_play_spec.specs.PlayedLaws.{played_text}
use Rattle.rc_play_spec.specs.PlayedBack.{IsPlayable}
use Rattle.rc_play_spec.proofs.Dealt.{shuffles_within}
use Rattle.rc_play_spec.proofs.Picked.{picks_in_range}
use Rattle.rc_play_spec.proofs.Scored.{scores_in_range}
use Rattle.rc_play_spec.proofs.Ranked.{HasFewPoints, standings_in_range}

some_of : {A : Type 0} (xs : List A) → 0 < length xs → xs ≢ []
some_of xs some none = let e = ap length none in absurd (omega (arith, e, some))

-- the lines of rows, row by row
rows_each : {A B : Type 0} (P : B → Type 0) (rows : A → List B) (xs : List A) → AllByRecursion (λ x. AllByRecursion P (rows x)) xs →
    AllByRecursion P (flat_map rows xs)
rows_each P rows [] all = tt
rows_each P rows (x ∷ xs) all = append_each P (rows x) (flat_map rows xs) all.0 (rows_each P rows xs all.1)

told_each : (none : Bool) (n : ℕ) → (n == 0) ≡ none → n ≤ 4294967295 → AllByRecursion IsInRange (if none then [] else shuffled n ∷ [])
told_each true n is le = tt
told_each false zero is le = absurd (cc)
told_each false (suc n) is le = ((omega arith, le), tt)

-- the record of a match in the ranges of its lines, with a score
pub record IsRecordInRange (r : Record) : Type 0 where
  pub lines : AllByRecursion IsInRange (record_lines r)
  pub scores : r.scores ≢ []
  pub points : HasFewPoints r

module _ (about : About) (plan : Plan) (is : IsPlayable about plan) where
  abbrev recorded : ℕ → Played ℕ → Record
  recorded m p = record_of about m (deal_at plan m).deal (deal_at plan m).seats p

  -- the turn in which a match ends
  turn_within : (m : ℕ) (p : Played ℕ) → keyed_play about plan m ≡ Some p → p.control.turn ≤ 100000
  turn_within m p played =
      let lead = keyed_leads about plan m (ap (λ shape. shape.places) is.shape) is.sight is.well.numbered.sites p played in
      let within = turns_within about (dealing_of (deal_at plan m).deal) (map (λ pick. pick.item) p.picks) 0 lead.0 lead.1 in
      let here = ap (λ c. c.turn) lead.2.control in
      let limit = is.within.turn_limit.1 in
      let turns = is.turns in
      omega (arith, within, here, limit, turns)

  record_in_range : (m : ℕ) (p : Played ℕ) → m < length plan.matches → keyed_play about plan m ≡ Some p → IsRecordInRange (recorded m p)
  record_in_range m p less played =
      let r = recorded m p in
      let count = is.within.count.1 in
      let deal = is.within.deals m (record { deal = 0; seats = 0 }) less in
      let scored_all = scores_in_range about plan is m p played in
      let picks = map_each (λ pick. IsInRange (chosen pick)) IsInRange chosen (λ pick within. within) p.picks (picks_in_range about plan is m p played) in
      let told = told_each (p.dealer == 0) p.dealer refl (shuffles_within about plan m p played) in
      let scores = map_each (λ s. IsInRange (scored s)) IsInRange scored (λ s within. within) r.scores scored_all in
      let begun : AllByRecursion IsInRange (told_lines r) =
      append_each IsInRange (played_lines r) (shuffles_told r.shuffles) ((omega (arith, less, count), deal.0, deal.1), picks) told in
      let ended : AllByRecursion IsInRange (ended_lines r) =
      append_each IsInRange (told_lines r) (ending r.ending r.turn ∷ []) begun (turn_within m p played, tt) in
      record {
        lines = append_each IsInRange (ended_lines r) (map scored r.scores) ended scores;
        scores = some_of r.scores (
            let players = is.well.limits.some_players in
            let a = length-map (below about.sheet.players) (score_at about (scores_of about p.table p.control)) in
            let b = length-range_with_len 0 about.sheet.players in omega (arith, players, a, b));
        points = points_of_each r.scores scored_all;
      }
    where
      points_of_each : (scores : List Score) → AllByRecursion (λ s. IsInRange (scored s)) scores → AllByRecursion (λ s. s.points ≤ 14) scores
      points_of_each [] all = tt
      points_of_each (s ∷ scores) all = (all.0.2, points_of_each scores all.1)

  match_in_range : (m : ℕ) (r : Record) → m < length plan.matches → keyed_match about plan m ≡ Some r → IsRecordInRange r
  match_in_range m r less recorded' =
      let played = mapped (recorded m) (keyed_play about plan m) r recorded' in
      subst IsRecordInRange played.2 (record_in_range m played.0 less played.1)

  -- so many records from match m on
  matches_from : (m n : ℕ) → m + n ≤ length plan.matches → AllByRecursion IsRecordInRange (filter_map (keyed_match about plan) (range_with_len m n))
  matches_from m zero le = tt
  matches_from m (suc n) le =
      let r = match_recorded about dealing_of (choice_of about) plan m in
      rw r.1 (match_in_range m r.0 (omega (arith, le)) r.1, matches_from (m + 1) n (omega (arith, le)))

  abbrev played_records : List Record
  played_records = (played_text about plan).matches

  records_in_range : AllByRecursion IsRecordInRange played_records
  records_in_range = matches_from 0 (length plan.matches) (omega arith)

  each_of : (P : Record → Type 0) → ((r : Record) → IsRecordInRange r → P r) → (rs : List Record) → AllByRecursion IsRecordInRange rs → AllByRecursion P rs
  each_of P gives [] all = tt
  each_of P gives (r ∷ rs) all = (gives r all.0, each_of P gives rs all.1)

  standings_there : 0 < length (standings_of plan played_records)
  standings_there =
      let points = points_of plan played_records in
      let standings = standings_of plan played_records in
      let all = length_permutation (below (length points)) (map (λ s. s.strategy) standings) (each_once points) in
      let a = length-map standings (λ (s : Standing). s.strategy) in
      let b = length-range_with_len 0 (length points) in
      let long = points_long plan played_records in
      let some = is.within.seats.0 in
      omega (arith, all, a, b, long, some)

  pub played_house : IsHouseText (played_text about plan)
  played_house =
      let count = all_recorded about dealing_of (choice_of about) plan in
      let least = is.within.count.0 in
      let most = is.within.count.1 in
      let ranked_all =
      standings_in_range plan played_records is.within.seats.1 (omega (arith, count, most)) (each_of HasFewPoints (λ r range. range.points) played_records records_in_range) in
      let standings = standings_of plan played_records in
      record {
        ranges = append_each IsInRange (flat_map record_lines played_records) (map ranked standings)
            (rows_each IsInRange record_lines played_records
            (each_of (λ r. AllByRecursion IsInRange (record_lines r)) (λ r range. range.lines) played_records records_in_range))
            (map_each (λ s. IsInRange (ranked s)) IsInRange ranked (λ s within. within) standings ranked_all);
        matches = some_of played_records (omega (arith, count, least));
        scores = each_of (λ r. r.scores ≢ []) (λ r range. range.scores) played_records records_in_range;
        standings = some_of standings standings_there;
      }
