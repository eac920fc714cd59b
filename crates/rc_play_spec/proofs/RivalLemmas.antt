-- Matches in which a search plays: each pick is what its seat chooses, and the picks lead to the end.
use Rattle.std.proofs.Common.{◌≡◌, ℕ, ◌<◌, ◌==◌, Bool, true, false, if◌then◌else◌, length, slice_get, Some, refl, sym, ap, ◌∙◌, arith}
use Rattle.std.specs.Prelude.{option_map}
use Rattle.std.proofs.lemmas.Bool.Decides.{Decides-eqb}
use Rattle.std.proofs.lemmas.List.{length-map}
use Rattle.std.proofs.lemmas.List.FromFn.{length-range_with_len}
use Rattle.rc_base.specs.Numbers.{below}
use Rattle.rc_base.specs.Transcript.{Record}
use Rattle.rc_play_spec.specs.View.{View, view_of}
use Rattle.rc_play_spec.specs.About.{About}
use Rattle.rc_play_spec.specs.Effects.{Dealing}
use Rattle.rc_play_spec.specs.Step.{decide}
use Rattle.rc_play_spec.specs.Stop.{Stopped}
use Rattle.rc_play_spec.specs.Play.{Played, pick_at}
use Rattle.rc_play_spec.specs.Plan.{Plan, strategy_held, strategy_at, deal_at}
use Rattle.rc_play_spec.specs.Scores.{record_of}
use Rattle.rc_play_spec.specs.Strategy.{menu_size}
use Rattle.rc_play_spec.specs.Keyed.{dealing_of, choice_of, reached_in}
use Rattle.rc_play_spec.specs.MatchLaws.{first_items}
use Rattle.rc_play_spec.proofs.Alike.{equal_views}
use Rattle.rc_play_spec.proofs.ChoiceLemmas.{choice-lt, first_largest-lt}
use Rattle.rc_play_spec.proofs.NextLemmas.{pick_taken}
use Rattle.rc_play_spec.proofs.PlayLemmas.{play_ends}
use Rattle.rc_play_spec.proofs.MatchLemmas.{each_kept}
use Rattle.rc_play_spec.specs.Search.{Rival, searched, total, totals}
use Rattle.rc_play_spec.specs.Rivals.{rival_choice, rival_chooser, rival_play, rival_match}
use Rattle.rc_play_spec.specs.RivalLaws.{SearchesItems, EachRivalRecorded, AlikeSameSearches}

pub searched-lt : SearchesItems
searched-lt about rival seed view some =
    let long = length-map (below (menu_size about view)) (total about rival seed view) in
    let count = length-range_with_len 0 (menu_size about view) in
    let h = first_largest-lt (totals about rival seed view) (omega (arith, some, long, count)) in omega (arith, h, long, count)

module _ (about : About) (rival : Rival) (plan : Plan) (m : ℕ) where
  abbrev dealing : Dealing ℕ
  dealing = dealing_of (deal_at plan m).deal

  pub rival_ends : (p : Played ℕ) × (rival_play about rival plan m ≡ Some p)
  rival_ends = play_ends about dealing (rival_chooser about rival plan m) 0

  pub rival_recorded : (r : Record) × (rival_match about rival plan m ≡ Some r)
  rival_recorded =
      let d = deal_at plan m in
      let p = rival_ends in (record_of about m d.deal d.seats p.0, ap (option_map (record_of about m d.deal d.seats)) p.1)

  pub rival_taken : (p : Played ℕ) → rival_play about rival plan m ≡ Some p → (n seat site : ℕ) (at : Stopped ℕ) →
      reached_in about plan m (first_items n p) ≡ Some at → at.stop ≡ decide seat site →
      slice_get p.picks n ≡ Some (pick_at about seat site (rival_choice about rival plan m seat (view_of about.shape seat at.config.table at.config.control)) at.config)
  rival_taken p is n seat site at leads stands =
      pick_taken about dealing (rival_chooser about rival plan m) (λ seat site table control k. refl) 0 p is n seat site at leads stands

  -- what is chosen is an item of the menu
  pub rival-lt : (seat : ℕ) (view : View) → 0 < menu_size about view → rival_choice about rival plan m seat view < menu_size about view
  rival-lt seat view some = by (strategy_held plan m seat == rival.strategy) where
    by : (b : Bool) → (if b then searched about rival (deal_at plan m).seats view else choice_of about (strategy_at plan m seat) (deal_at plan m).seats view) < menu_size about view
    by true = searched-lt about rival (deal_at plan m).seats view some
    by false = choice-lt about (strategy_at plan m seat) (deal_at plan m).seats view some

pub each_recorded : EachRivalRecorded
each_recorded about rival plan =
    each_kept (rival_match about rival plan) (below (length plan.matches)) (rival_recorded about rival plan)
    ∙ length-range_with_len 0 (length plan.matches)

-- what the searching strategy chooses is what is searched
searches : (about : About) (rival : Rival) (plan : Plan) (m seat : ℕ) (view : View) → strategy_held plan m seat ≡ rival.strategy →
    rival_choice about rival plan m seat view ≡ searched about rival (deal_at plan m).seats view
searches about rival plan m seat view is =
    ap (λ b. if b then searched about rival (deal_at plan m).seats view else choice_of about (strategy_at plan m seat) (deal_at plan m).seats view)
    ((Decides-eqb (strategy_held plan m seat) rival.strategy).1 is)

pub same_searches : AlikeSameSearches
same_searches about rival plan plan' m m' n n' seat site site' p p' at at' is is' leads leads' stands stands' alike held held' seeds = (
  _,
  _,
  rival_taken about rival plan m p is n seat site at leads stands,
  rival_taken about rival plan' m' p' is' n' seat site' at' leads' stands',
  searches about rival plan m seat (view_of about.shape seat at.config.table at.config.control) held
      ∙ ap (λ seed. searched about rival seed (view_of about.shape seat at.config.table at.config.control)) seeds
      ∙ ap (searched about rival (deal_at plan' m').seats) (equal_views about.shape seat at.config.table at'.config.table at.config.control at'.config.control alike)
      ∙ sym (searches about rival plan' m' seat (view_of about.shape seat at'.config.table at'.config.control) held'),
)
