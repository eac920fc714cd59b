-- What a seat sees at the decisions of a play may stand in a log.
use Rattle.std.proofs.Common.{◌≡◌, ℕ, ◌<◌, ◌≤◌, List, [], ◌∷◌, ◌++◌, length, Option, Some, None, refl, sym, ap, ◌∙◌, subst, arith}
use Rattle.std.specs.Prelude.{IfSome}
use Rattle.std.specs.List.{AllByRecursion, AllZip}
use Rattle.std.proofs.lemmas.List.Elements.{recursion_from_All}
use Rattle.rc_base.specs.Clamp.{IsWithinClamp}
use Rattle.rc_base.specs.Transcript.{Pick}
use Rattle.rc_deck.proofs.EachLemmas.{at_most_each}
use Rattle.rc_sheet_spec.specs.WellFormed.{owner_count}
use Rattle.rc_play_spec.specs.Control.{Frame}
use Rattle.rc_play_spec.specs.About.{About}
use Rattle.rc_play_spec.specs.Effects.{Dealing}
use Rattle.rc_play_spec.specs.Step.{Stage, Config, Stop, decide, is_done, is_limit}
use Rattle.rc_play_spec.specs.Stop.{Stopped}
use Rattle.rc_play_spec.specs.Decision.{left_at, choose}
use Rattle.rc_play_spec.specs.Fits.{around, IsFrameOf}
use Rattle.rc_play_spec.specs.Play.{from_stop, stop_behind, follow, reached}
use Rattle.rc_play_spec.specs.SoundLaws.{DealsOrders}
use Rattle.rc_play_spec.specs.View.{view_of}
use Rattle.rc_play_spec.proofs.ControlLemmas.{control_fits}
use Rattle.rc_play_spec.proofs.DepthLemmas.{few_frames}
use Rattle.rc_play_spec.proofs.SoundPlays.{reached_sound}
use Rattle.rc_play_spec.proofs.TurnLemmas.{turns_within}
use Rattle.rc_rules.proofs.ShapeLemmas.{owners_few}
use Rattle.rc_view.specs.Laws.{HasFrameKey}
use Rattle.rc_view.proofs.Fitting.{fitting_controls_have_keys}
use Rattle.rc_play_spec.specs.Legal.{IsMade, Leads}
use Rattle.rc_play_spec.proofs.GoesOn.{reached_append}
use Rattle.rc_play_spec.proofs.LegalLemmas.{made_goes_on}
use Rattle.rc_log_spec.specs.Log.{largest_word, IsFrame, IsLogSite, Counts}
use Rattle.rc_log_spec.specs.MatchLaws.{IsWatchable}
use Rattle.rc_log_spec.specs.Views.{views_from}
use Rattle.rc_log_spec.proofs.Sighted.{table_counts}

named_few : (named : Option ℕ) (count : ℕ) → count ≤ 8 → ((n : ℕ) → named ≡ Some n → n < count) → IfSome named (λ n. n ≤ 255)
named_few None count few less = tt
named_few (Some n) count few less = let member = less n refl in omega (arith, member, few)

-- a choice is made at a decision
decided : (about : About) (p : Pick) (stop : Stop) (c : Config) → IsMade about p stop c → (seat : ℕ) × (site : ℕ) × (stop ≡ decide seat site)
decided about p (decide seat site) c made = (seat, site, refl)
decided about p is_done c made = absurd made
decided about p is_limit c made = absurd made

-- there is a view for each choice
pub one_each : (about : About) (dealing : Dealing ℕ) (seat : ℕ) (picks : List Pick) (at end : Stopped ℕ) → Leads about dealing picks at end →
    length (views_from about dealing seat picks (Some at)) ≡ length picks
one_each about dealing seat [] at end leads = refl
one_each about dealing seat (p ∷ picks) at end leads =
    let rest = one_each about dealing seat picks leads.1 end leads.3 in
    let there = ap (λ o. length (views_from about dealing seat picks o)) leads.2 in
    omega (arith, rest, there)

module _ (about : About) (is : IsWatchable about) (dealing : Dealing ℕ) (orders : DealsOrders dealing) (seat : ℕ) where
  frames_count : (stages : List Stage) (frames : List Frame) → AllZip (IsFrameOf about.sheet) stages frames → AllByRecursion HasFrameKey frames →
      AllByRecursion IsFrame frames
  frames_count [] [] are keys = tt
  frames_count [] (frame ∷ frames) are keys = absurd are
  frames_count (s ∷ stages) [] are keys = absurd are
  frames_count (s ∷ stages) (frame ∷ frames) are keys =
      let few = owners_few about.sheet is.well s.class in
      let stage : frame.stage < 65536 = keys.0.stage in
      let member = are.0.member in (
        record {
          stage = omega (arith, stage);
          member = omega (arith, member, few);
          named = named_few frame.named (owner_count about.sheet s.class) few are.0.named;
        },
        frames_count stages frames are.1 keys.1,
      )

  view_counts : (items : List ℕ) (at : Stopped ℕ) (mover site : ℕ) → reached about dealing items 0 ≡ Some at → at.stop ≡ decide mover site →
      Counts about.shape seat (view_of about.shape seat at.config.table at.config.control)
  view_counts items at mover site here stands =
      let control = at.config.control in
      let fits = control_fits about dealing is.shape is.well items 0 at mover site here stands in
      let sound = reached_sound about dealing is.shape is.well orders items 0 at here in
      let within = turns_within about dealing items 0 at here in
      let limit = is.turns in
      let turn : control.turn ≤ largest_word = omega (arith, within, limit) in
      let keys = fitting_controls_have_keys about site control is.well fits (omega (arith, turn)) in
      let few = few_frames about dealing is.well items 0 at here in
      let there = fits.there in
      let sites = is.well.limits.sites in
      record {
        of_seat = refl;
        turn = turn;
        site = subst IsLogSite (sym fits.stands) (omega (arith, there, sites));
        each_made = fits.seats ∙ sym (ap (λ shape. shape.players) is.shape);
        made = at_most_each control.turn largest_word control.made turn (recursion_from_All (λ n. n ≤ control.turn) control.made fits.counts);
        few_frames = omega (arith, few);
        frames = frames_count (around (left_at about.sheet site)) control.frames fits.frames (recursion_from_All HasFrameKey control.frames keys.0.frames);
        each_number = sound.amounts;
        numbers = recursion_from_All IsWithinClamp at.config.table.numbers sound.clamped;
        places = table_counts about.shape seat at.config.table sound;
      }

  -- one choice more leads to the stop behind it
  next_reached : (items : List ℕ) (p : Pick) (at next : Stopped ℕ) → reached about dealing items 0 ≡ Some at → IsMade about p at.stop at.config →
      stop_behind about dealing (choose about dealing at.dealer p.item at.config) ≡ Some next → reached about dealing (items ++ p.item ∷ []) 0 ≡ Some next
  next_reached items p at next here made goes =
      reached_append about dealing items (p.item ∷ []) 0 ∙ ap (from_stop (follow about dealing (p.item ∷ []))) here
      ∙ made_goes_on about dealing p at.stop at.config at.dealer made ∙ goes

  pub views_count : (items : List ℕ) (picks : List Pick) (at end : Stopped ℕ) → reached about dealing items 0 ≡ Some at → Leads about dealing picks at end →
      AllByRecursion (Counts about.shape seat) (views_from about dealing seat picks (Some at))
  views_count items [] at end here leads = tt
  views_count items (p ∷ picks) at end here leads =
      let stop = decided about p at.stop at.config leads.0 in
      let rest = views_count (items ++ p.item ∷ []) picks leads.1 end (next_reached items p at leads.1 here leads.0 leads.2) leads.3 in (
        view_counts items at stop.0 stop.1 here stop.2,
        subst (λ o. AllByRecursion (Counts about.shape seat) (views_from about dealing seat picks o)) (sym leads.2) rest,
      )
