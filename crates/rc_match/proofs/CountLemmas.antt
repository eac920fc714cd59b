-- How often matches ask playouts.
use Rattle.std.proofs.Common.{◌≡◌, ℕ, zero, suc, ◌+◌, ◌<◌, ◌≤◌, Bool, true, false, if◌then◌else◌, List, [], ◌∷◌, length, get_or, take, slice_get, Some, refl, sym, ap, ◌∙◌, subst, arith}
use Rattle.std.specs.Prelude.{count_by, sum_by, filter_map}
use Rattle.std.specs.List.{cons_option}
use Rattle.std.proofs.lemmas.List.{length-append, take_all}
use Rattle.std.proofs.lemmas.List.Concat.{length-flat_map}
use Rattle.std.proofs.lemmas.List.Sums.{count_by_more_yes, count_by_more_no, sum_by-cons}
use Rattle.std.proofs.lemmas.Option.{get_or_from_slice_get}
use Rattle.rc_base.specs.Numbers.{below}
use Rattle.rc_base.specs.Transcript.{Pick, Record}
use Rattle.rc_sheet_spec.specs.Sight.{IsInSight}
use Rattle.rc_sheet_spec.specs.WellFormed.{IsWellFormed}
use Rattle.rc_play_spec.specs.Shape.{shape_of}
use Rattle.rc_play_spec.specs.View.{View}
use Rattle.rc_play_spec.specs.About.{About}
use Rattle.rc_play_spec.specs.Step.{Config, Stop, decide}
use Rattle.rc_play_spec.specs.Play.{Played}
use Rattle.rc_play_spec.specs.Scores.{record_of}
use Rattle.rc_play_spec.specs.Plan.{Strategy, scripted, random, rollout, Plan, strategy_at, deal_at}
use Rattle.rc_play_spec.specs.Keyed.{dealing_of, choice_of, reached_in, keyed_play, keyed_match}
use Rattle.rc_play_spec.specs.MatchLaws.{first_items, FrontsAreReached}
use Rattle.rc_play_spec.proofs.FollowLemmas.{mapped}
use Rattle.rc_play_spec.proofs.MatchLemmas.{keyed_taken}
use Rattle.rc_play_spec.proofs.PlayLemmas.{match_recorded}
use Rattle.rc_redraw.specs.Choosing.{asked_by}
use Rattle.rc_match.specs.Asks.{asked_there, asked_where, asked_first, asked_in, decisions_in, asks_of}
use Rattle.rc_match.specs.AskCounts.{is_rollout, rollout_picks, EachRolloutPickAsks, AllRolloutPicksAsk}
use Rattle.rc_match.proofs.AskLemmas.{asked_more}

-- one or none
abbrev one_if : Bool → ℕ
one_if b = if b then 1 else 0

asked_once : (about : About) (s : Strategy) (seed : ℕ) (view : View) → length (asked_by about s seed view) ≡ one_if (is_rollout s)
asked_once about (scripted numbers) seed view = refl
asked_once about (random key) seed view = refl
asked_once about (rollout rounds key) seed view = refl

asked_at_decision : (about : About) (plan : Plan) (m : ℕ) (stop : Stop) (c : Config) (seat site : ℕ) → stop ≡ decide seat site →
    length (asked_there about plan m stop c) ≡ one_if (is_rollout (strategy_at plan m seat))
asked_at_decision about plan m stop c seat site stands =
    ap (λ s. length (asked_there about plan m s c)) stands ∙ asked_once about (strategy_at plan m seat) _ _

-- one more of what is counted
count_more : {X : Type 0} (p : X → Bool) (xs : List X) (n : ℕ) (x : X) → n < length xs → slice_get xs n ≡ Some x →
    count_by p (take (n + 1) xs) ≡ count_by p (take n xs) + one_if (p x)
count_more p xs n x lt is = by (p x) refl
  where
    here : get_or xs n x ≡ x
    here = get_or_from_slice_get xs n x x is

    by : (b : Bool) → p x ≡ b → count_by p (take (n + 1) xs) ≡ count_by p (take n xs) + one_if (p x)
    by true e = count_by_more_yes p xs n x lt (ap p here ∙ e) ∙ ap (λ b. count_by p (take n xs) + one_if b) (sym e)
    by false e =
        let same : count_by p (take n xs) ≡ count_by p (take n xs) + 0 = omega arith in
        count_by_more_no p xs n x lt (ap p here ∙ e) ∙ same ∙ ap (λ b. count_by p (take n xs) + one_if b) (sym e)

module _ (fronts : FrontsAreReached) (about : About) (plan : Plan) (m : ℕ) (fits : about.shape ≡ shape_of about.sheet) (formed : IsWellFormed about.sheet)
    (sight : IsInSight about.sheet) (p : Played ℕ) (play : keyed_play about plan m ≡ Some p) where
  abbrev asks_at : Pick → Bool
  asks_at pick = is_rollout (strategy_at plan m pick.seat)

  -- at the first decisions
  asked_count : (n : ℕ) → n ≤ length p.picks → length (asked_first about plan m p n) ≡ count_by asks_at (take n p.picks)
  asked_count zero le = refl
  asked_count (suc n) le =
      let lt : n < length p.picks = omega (arith, le) in
      let front = fronts about plan m p fits sight formed.numbered.sites play n lt in
      let at = front.0 in
      let seat = front.1 in
      let site = front.2 in
      let there = asked_where about plan m (reached_in about plan m (first_items n p)) in
      let once : length there ≡ one_if (is_rollout (strategy_at plan m seat)) =
      ap (λ o. length (asked_where about plan m o)) front.3 ∙ asked_at_decision about plan m at.stop at.config seat site front.4 in
      let pick = keyed_taken about plan m p play n seat site at front.3 front.4 in
      let more : count_by asks_at (take (n + 1) p.picks) ≡ count_by asks_at (take n p.picks) + one_if (is_rollout (strategy_at plan m seat)) =
      count_more asks_at p.picks n _ lt pick in
      let all = ap length (asked_more about plan m p n) ∙ length-append (asked_first about plan m p n) there in
      let before = asked_count n (omega (arith, le)) in
      let same : n + 1 ≡ suc n = omega arith in
      subst (λ k. length (asked_first about plan m p k) ≡ count_by asks_at (take k p.picks)) same (omega (arith, all, before, once, more))

  asked_in_all : length (asks_of about plan m) ≡ count_by asks_at p.picks
  asked_in_all =
      ap (λ o. length (asked_in about plan m o (decisions_in o))) play ∙ asked_count (length p.picks) (omega arith)
      ∙ ap (count_by asks_at) (take_all (length p.picks) p.picks (omega arith))

pub each_asks : FrontsAreReached → EachRolloutPickAsks
each_asks fronts about plan m r fits formed sight is =
    let deal = deal_at plan m in
    let found = mapped (record_of about m deal.deal deal.seats) (keyed_play about plan m) r is in
    asked_in_all fronts about plan m fits formed sight found.0 found.1 ∙ ap (rollout_picks plan) found.2

-- of each match
module _ (fronts : FrontsAreReached) (about : About) (plan : Plan) (fits : about.shape ≡ shape_of about.sheet) (formed : IsWellFormed about.sheet)
    (sight : IsInSight about.sheet) where
  one_recorded : (m : ℕ) (ms : List ℕ) (r : Record) → keyed_match about plan m ≡ Some r →
      sum_by (rollout_picks plan) (filter_map (keyed_match about plan) (m ∷ ms))
      ≡ length (asks_of about plan m) + sum_by (rollout_picks plan) (filter_map (keyed_match about plan) ms)
  one_recorded m ms r is =
      ap (λ o. sum_by (rollout_picks plan) (cons_option o (filter_map (keyed_match about plan) ms))) is
      ∙ sum_by-cons (rollout_picks plan) r (filter_map (keyed_match about plan) ms)
      ∙ ap (λ n. n + sum_by (rollout_picks plan) (filter_map (keyed_match about plan) ms)) (sym (each_asks fronts about plan m r fits formed sight is))

  sums_same : (ms : List ℕ) →
      sum_by (λ m. length (asks_of about plan m)) ms ≡ sum_by (rollout_picks plan) (filter_map (keyed_match about plan) ms)
  sums_same [] = refl
  sums_same (m ∷ ms) =
      let recorded = match_recorded about dealing_of (choice_of about) plan m in
      sum_by-cons (λ m. length (asks_of about plan m)) m ms ∙ ap (λ n. length (asks_of about plan m) + n) (sums_same ms) ∙ sym (one_recorded m ms recorded.0 recorded.1)

pub all_ask : FrontsAreReached → AllRolloutPicksAsk
all_ask fronts about plan count fits formed sight =
    length-flat_map (asks_of about plan) (below count) ∙ sums_same fronts about plan fits formed sight (below count)
