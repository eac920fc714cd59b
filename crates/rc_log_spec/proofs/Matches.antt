-- The views of a match of a plan: the record's choices lead to them, and each may stand in a log.
use Rattle.std.proofs.Common.{◌≡◌, ℕ, zero, suc, ◌<◌, ◌≤◌, [], length, Option, Some, None, Ok, refl, sym, ap, ◌∙◌, subst, arith}
use Rattle.std.specs.List.{AllByRecursion}
use Rattle.std.proofs.lemmas.List.Elements.{recursion_from_All}
use Rattle.rc_base.specs.Numbers.{below}
use Rattle.rc_base.specs.Transcript.{Pick, Record, done, limit}
use Rattle.rc_play_spec.specs.Shape.{Shape}
use Rattle.rc_play_spec.specs.About.{About}
use Rattle.rc_play_spec.specs.Effects.{Dealing}
use Rattle.rc_play_spec.specs.Step.{Config, Stop, decide, is_done, is_limit, start}
use Rattle.rc_play_spec.specs.Stop.{Stopped, stop_of}
use Rattle.rc_play_spec.specs.Decision.{choose}
use Rattle.rc_play_spec.specs.Draws.{key32}
use Rattle.rc_play_spec.specs.Play.{Chooser, Played, ended, with_pick, from_stop, follow, pick_at, stop_behind, played_on, played}
use Rattle.rc_play_spec.specs.Plan.{Plan, deal_at}
use Rattle.rc_play_spec.specs.Scores.{record_of}
use Rattle.rc_play_spec.specs.SoundLaws.{DealsOrders}
use Rattle.rc_play_spec.specs.Keyed.{choice_of, chooser_of, dealing_of, keyed_match, keyed_play}
use Rattle.rc_play_spec.proofs.DrawLemmas.{permuted-is}
use Rattle.rc_play_spec.proofs.FitLemmas.{keyed_fit}
use Rattle.rc_play_spec.proofs.FollowLemmas.{mapped}
use Rattle.rc_play_spec.proofs.OpeningLemmas.{sheet_homes}
use Rattle.rc_play_spec.proofs.PlayLemmas.{match_recorded}
use Rattle.rc_rules.proofs.ShapeLemmas.{shaped}
use Rattle.rc_table.specs.Shape.{IsShape}
use Rattle.rc_play_spec.proofs.PlayedLemmas.{play_leads_on}
use Rattle.rc_log_spec.specs.Log.{largest_word, IsSmall, Counts}
use Rattle.rc_log_spec.specs.Laws.{AllCount}
use Rattle.rc_log_spec.specs.MatchLaws.{IsWatchable}
use Rattle.rc_log_spec.specs.Plays.{IsPlayOf}
use Rattle.rc_log_spec.specs.Reading.{read_log}
use Rattle.rc_log_spec.specs.Views.{views_from, views_in, picks_of, views_of_match, log_of, told_of}
use Rattle.rc_log_spec.proofs.Counted.{one_each, views_count}
use Rattle.rc_log_spec.proofs.Views.{log_read, views_have}

abbrev IsItem : Pick → Type 0
IsItem pick = pick.item < pick.size

-- what follows a stop comes from one
from_some : {A : Type 0} (f : Stop → Config → ℕ → Option A) (o : Option (Stopped ℕ)) (a : A) → from_stop f o ≡ Some a →
    (at : Stopped ℕ) × (f at.stop at.config at.dealer ≡ Some a)
from_some f None a is = absurd (cc)
from_some f (Some at) a is = (at, is)

-- a play has no more choices than decisions are allowed
module _ (about : About) (dealing : Dealing ℕ) (chooser : Chooser ℕ) where
  few_on : (more : ℕ) (stop : Stop) (c : Config) (k : ℕ) (p : Played ℕ) → played_on about dealing chooser more stop c k ≡ Some p → length p.picks ≤ more
  few_on more is_done c k p is = let same : ended done c k ≡ p = cc in subst (λ (p : Played ℕ). length p.picks ≤ more) same (omega arith)
  few_on more is_limit c k p is = let same : ended limit c k ≡ p = cc in subst (λ (p : Played ℕ). length p.picks ≤ more) same (omega arith)
  few_on zero (decide seat site) c k p is = absurd (cc)
  few_on (suc more) (decide seat site) c k p is =
      let chosen = chooser seat site c.table c.control k in
      let next = stop_behind about dealing (choose about dealing chosen.1 chosen.0 c) in
      let behind = mapped (with_pick (pick_at about seat site chosen.0 c)) (from_stop (played_on about dealing chooser more) next) p is in
      let at = from_some (played_on about dealing chooser more) next behind.0 behind.1 in
      let rest = few_on more at.0.stop at.0.config at.0.dealer behind.0 at.1 in
      subst (λ (p : Played ℕ). length p.picks ≤ suc more) behind.2 (omega (arith, rest))

  few_picks : (p : Played ℕ) → played about dealing chooser 0 ≡ Some p → length p.picks ≤ about.turns
  few_picks p is =
      let first = from_some (played_on about dealing chooser about.turns) (stop_of about dealing 0 (start about)) p is in
      few_on about.turns first.0.stop first.0.config first.0.dealer p first.1

orders : (deal : ℕ) → DealsOrders (dealing_of deal)
orders deal k size = permuted-is (key32 deal 1 k 0) (below size)

-- what a shape keeps of its limits
pub is_small : (shape : Shape) → IsShape shape → IsSmall shape
is_small shape limits = record { some_players = limits.some_players; players = limits.players; locations = limits.locations; cards = limits.cards }

module _ (about : About) (plan : Plan) (m : ℕ) where
  abbrev dealt : Dealing ℕ
  dealt = dealing_of (deal_at plan m).deal

  -- the play that a record tells
  told : (r : Record) → keyed_match about plan m ≡ Some r →
      (p : Played ℕ) × (keyed_play about plan m ≡ Some p) × (record_of about m (deal_at plan m).deal (deal_at plan m).seats p ≡ r)
  told r is = mapped (record_of about m (deal_at plan m).deal (deal_at plan m).seats) (keyed_play about plan m) r is

  same_deal : (r : Record) → keyed_match about plan m ≡ Some r → (deal_at plan m).deal ≡ r.deal
  same_deal r is = ap (λ (r : Record). r.deal) (told r is).2

  few : (r : Record) → keyed_match about plan m ≡ Some r → length r.picks ≤ about.turns
  few r is =
      let play = told r is in
      subst (λ (r : Record). length r.picks ≤ about.turns) play.2 (few_picks about dealt (chooser_of about plan m) play.0 play.1)

  is_play : IsWatchable about → (r : Record) → keyed_match about plan m ≡ Some r → IsPlayOf about dealt r.picks
  is_play watchable r is =
      let play = told r is in
      let p = play.0 in
      let places = ap (λ (shape : Shape). shape.places) watchable.shape in
      let all = recursion_from_All IsItem p.picks (keyed_fit about plan m places watchable.sight watchable.well.numbered.sites p play.1) in
      let lead = play_leads_on about dealt (chooser_of about plan m) (λ seat site table control k. refl) p play.1 all in
      subst (λ (r : Record). IsPlayOf about dealt r.picks) play.2
      (record { first = lead.0; end = lead.1; begins = lead.2; leads = lead.3 })

  pub record_is_play : IsWatchable about → (r : Record) → keyed_match about plan m ≡ Some r → IsPlayOf about (dealing_of r.deal) r.picks
  record_is_play watchable r is = subst (λ deal. IsPlayOf about (dealing_of deal) r.picks) (same_deal r is) (is_play watchable r is)

  pub record_tells_views : (seat : ℕ) (r : Record) → keyed_match about plan m ≡ Some r → views_of_match about plan m seat ≡ views_in about (dealing_of r.deal) seat r.picks
  record_tells_views seat r is =
      ap (λ o. views_in about dealt seat (picks_of o)) is ∙ ap (λ deal. views_in about (dealing_of deal) seat r.picks) (same_deal r is)

  -- from the first stop on
  begins : (seat : ℕ) (r : Record) (first : Stopped ℕ) → keyed_match about plan m ≡ Some r → stop_of about dealt 0 (start about) ≡ Some first →
      views_of_match about plan m seat ≡ views_from about dealt seat r.picks (Some first)
  begins seat r first is there = ap (λ o. views_in about dealt seat (picks_of o)) is ∙ ap (views_from about dealt seat r.picks) there

  pub choices_have_views : (seat : ℕ) (r : Record) → IsWatchable about → keyed_match about plan m ≡ Some r → length (views_of_match about plan m seat) ≡ length r.picks
  choices_have_views seat r watchable is =
      let play = is_play watchable r is in
      ap length (begins seat r play.first is play.begins) ∙ one_each about dealt seat r.picks play.first play.end play.leads

  pub match_views_count : (seat : ℕ) → IsWatchable about → AllCount about.shape seat (views_of_match about plan m seat)
  match_views_count seat watchable =
      let recorded = match_recorded about dealing_of (choice_of about) plan m in
      let r = recorded.0 in
      let is = recorded.1 in
      let play = is_play watchable r is in
      let first : Stopped ℕ = play.first in
      let none = ap (from_stop (follow about dealt [])) play.begins in
      let counted = views_count about watchable dealt (orders (deal_at plan m).deal) seat [] r.picks first play.end none play.leads in
      let long = choices_have_views seat r watchable is in
      let most = few r is in
      let limit = watchable.turns in (
        subst (AllByRecursion (Counts about.shape seat)) (sym (begins seat r first is play.begins)) counted,
        omega (arith, long, most, limit),
      )

  pub match_log_is_read : (seat : ℕ) → IsWatchable about → seat < about.sheet.players → m ≤ largest_word →
      read_log about.shape (log_of about plan m seat) ≡ Ok (told_of about plan m seat)
  match_log_is_read seat watchable less le =
      let small = is_small about.shape (subst IsShape (sym watchable.shape) (shaped about.sheet watchable.well (sheet_homes about.sheet watchable.well))) in
      let there = subst (λ (shape : Shape). seat < shape.players) (sym watchable.shape) less in
      log_read about.shape (told_of about plan m seat) small
      (views_have about.shape seat m (views_of_match about plan m seat) there le (match_views_count seat watchable))
