-- Statements of laws of matches in which a search plays.
use Rattle.std.specs.Prelude.{◌≡◌, ℕ, ◌<◌, length, slice_get, Some}
use Rattle.rc_base.specs.Transcript.{Pick, Record}
use Rattle.rc_play_spec.specs.Alike.{IsAlike}
use Rattle.rc_play_spec.specs.View.{View}
use Rattle.rc_play_spec.specs.About.{About}
use Rattle.rc_play_spec.specs.Step.{decide}
use Rattle.rc_play_spec.specs.Stop.{Stopped}
use Rattle.rc_play_spec.specs.Play.{Played}
use Rattle.rc_play_spec.specs.Plan.{Plan, strategy_held, deal_at}
use Rattle.rc_play_spec.specs.Strategy.{menu_size}
use Rattle.rc_play_spec.specs.Keyed.{reached_in}
use Rattle.rc_play_spec.specs.MatchLaws.{first_items}
use Rattle.rc_play_spec.specs.Search.{Rival, searched}
use Rattle.rc_play_spec.specs.Rivals.{rival_play, rival_match, rival_records}

-- a search chooses one of the items
abbrev pub SearchesItems : Type 0
SearchesItems =
    (about : About) (rival : Rival) (seed : ℕ) (view : View) → 0 < menu_size about view →
    searched about rival seed view < menu_size about view

-- every match has a record, and a house text has one for each
abbrev pub RivalsHaveRecords : Type 0
RivalsHaveRecords =
    (about : About) (rival : Rival) (plan : Plan) (m : ℕ) → (r : Record) × (rival_match about rival plan m ≡ Some r)

abbrev pub EachRivalRecorded : Type 0
EachRivalRecorded =
    (about : About) (rival : Rival) (plan : Plan) → length (rival_records about rival plan) ≡ length plan.matches

-- Two decisions of the searching strategy, of one seat and one seed of the seats, at alike states have the same item,
-- in whatever matches of whatever plans.
abbrev pub AlikeSameSearches : Type 0
AlikeSameSearches =
    (about : About) (rival : Rival) (plan plan' : Plan) (m m' n n' seat site site' : ℕ) →
    (p p' : Played ℕ) (at at' : Stopped ℕ) →
    rival_play about rival plan m ≡ Some p → rival_play about rival plan' m' ≡ Some p' →
    reached_in about plan m (first_items n p) ≡ Some at → reached_in about plan' m' (first_items n' p') ≡ Some at' →
    at.stop ≡ decide seat site → at'.stop ≡ decide seat site' →
    IsAlike about.shape seat at.config.table at'.config.table at.config.control at'.config.control →
    strategy_held plan m seat ≡ rival.strategy → strategy_held plan' m' seat ≡ rival.strategy →
    (deal_at plan m).seats ≡ (deal_at plan' m').seats →
    (pick : Pick) × (pick' : Pick) × (slice_get p.picks n ≡ Some pick) × (slice_get p'.picks n' ≡ Some pick')
    × (pick.item ≡ pick'.item)
