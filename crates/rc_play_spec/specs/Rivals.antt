-- Matches in which a search plays for one strategy of a plan.
use Rattle.std.specs.Prelude.{ℕ, ◌==◌, if◌then◌else◌, List, length, filter_map, Option, option_map}
use Rattle.rc_base.specs.Numbers.{below}
use Rattle.rc_base.specs.Transcript.{Record, house_text}
use Rattle.rc_play_spec.specs.View.{View, view_of}
use Rattle.rc_play_spec.specs.About.{About}
use Rattle.rc_play_spec.specs.Play.{Chooser, Played, played}
use Rattle.rc_play_spec.specs.Plan.{Plan, strategy_held, strategy_at, deal_at}
use Rattle.rc_play_spec.specs.Scores.{record_of}
use Rattle.rc_play_spec.specs.House.{standings_of}
use Rattle.rc_play_spec.specs.Keyed.{choice_of, dealing_of}
use Rattle.rc_play_spec.specs.Search.{Rival, searched}

module _ (about : About) (rival : Rival) (plan : Plan) where
  -- what a seat chooses in match m by what it sees: the item that is searched where it has the rival's strategy, and
  -- else its strategy's
  abbrev pub rival_choice : (m seat : ℕ) → View → ℕ
  rival_choice m seat view =
      if strategy_held plan m seat == rival.strategy
      then searched about rival (deal_at plan m).seats view
      else choice_of about (strategy_at plan m seat) (deal_at plan m).seats view

  -- the dealer's state stays as it is
  abbrev pub rival_chooser : ℕ → Chooser ℕ
  rival_chooser m seat site table control k = (rival_choice m seat (view_of about.shape seat table control), k)

  -- the play of match m, and its record
  abbrev pub rival_play : ℕ → Option (Played ℕ)
  rival_play m = played about (dealing_of (deal_at plan m).deal) (rival_chooser m) 0

  abbrev pub rival_match : ℕ → Option Record
  rival_match m = option_map (record_of about m (deal_at plan m).deal (deal_at plan m).seats) (rival_play m)

  -- the records of the plan's matches in order; none is left out, since every match has one
  abbrev pub rival_records : List Record
  rival_records = filter_map rival_match (below (length plan.matches))

  -- the house text of these
  abbrev pub rival_house_text : List ℕ
  rival_house_text = let records = rival_records in house_text records (standings_of plan records)
