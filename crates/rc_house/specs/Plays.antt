-- What stands in the text that `play` writes, match by match: each match is a play that the sheet allows for its seeded
-- shuffles, up to its end or the turn limit, and each choice is its strategy's function of its seat's view and of the
-- seed of the seats.
use Rattle.std.specs.Prelude.{◌≡◌, ℕ, Bool, ◌<◌, ◌≤◌, List, [], take, length, slice_get, Some}
use Rattle.rc_base.specs.Tree.{Tree}
use Rattle.rc_base.specs.Transcript.{Pick, Ending, done, limit, Record}
use Rattle.rc_sheet_spec.specs.Sheet.{Sheet}
use Rattle.rc_play_spec.specs.About.{About, about_of}
use Rattle.rc_play_spec.specs.Plan.{Plan, strategy_at, deal_at}
use Rattle.rc_play_spec.specs.Step.{Config, decide, is_done, is_limit}
use Rattle.rc_play_spec.specs.Stop.{Stopped}
use Rattle.rc_play_spec.specs.Play.{items_of, pick_at}
use Rattle.rc_play_spec.specs.View.{view_of}
use Rattle.rc_play_spec.specs.Keyed.{choice_of, dealing_of, reached_in}
use Rattle.rc_play_spec.specs.HouseText.{HouseText, text_in}
use Rattle.rc_play_spec.specs.Legal.{IsLegal, IsRecordOfPlay}
use Rattle.rc_play_spec.specs.PlayedLaws.{format_by, told_in}
use Rattle.rc_house.specs.declared.options.Options.{Options}
use Rattle.rc_house.specs.Words.{is_named}
use Rattle.rc_house.specs.declared.task.Task.TheVariants.{Play}
use Rattle.rc_house.specs.AcceptedPlan.{IsPlanAccepted}
use Rattle.rc_house.specs.Reading.{Reading, IsAcceptedWith}
use Rattle.rc_house.specs.Answer.{text, HasAnswer}

-- The item that a seat's strategy takes in match m. For a sheet and a turn limit, which the about has, it is that
-- strategy's function of the seed of the seats and the seat's view: nothing else of the match is handed to it.
abbrev pub item_by_view : About → Plan → (m seat : ℕ) → Config → ℕ
item_by_view about plan m seat c =
    choice_of about (strategy_at plan m seat) (deal_at plan m).seats (view_of about.shape seat c.table c.control)

-- In match m the items before the n-th of these picks lead from the start to a decision, by the match's shuffles, and
-- the n-th is what the strategy of the seat that decides there takes.
pub record IsChosen (about : About) (plan : Plan) (m : ℕ) (picks : List Pick) (n : ℕ) : Type 0 where
  pub at : Stopped ℕ
  pub seat : ℕ
  pub site : ℕ
  pub leads : reached_in about plan m (items_of (take n picks)) ≡ Some at
  pub decides : at.stop ≡ decide seat site
  pub picked : slice_get picks n ≡ Some (pick_at about seat site (item_by_view about plan m seat at.config) at.config)

-- a match has ended so: nothing is left to run, or the turn count stands at the limit
abbrev pub HasEnded : About → Ending → Stopped ℕ → Type 0
HasEnded about done end = (end.stop ≡ is_done) × (end.config.left ≡ [])
HasEnded about limit end = (end.stop ≡ is_limit) × (end.config.control.turn ≡ about.turns)

-- Match m was played to its end, and this is its record.
pub record IsPlayedOut (about : About) (plan : Plan) (m : ℕ) (r : Record) : Type 0 where
  -- it tells a play of the sheet with the match's seeded shuffles, in which each pick is an item of its menu
  pub allowed : IsRecordOfPlay about dealing_of plan m r
  -- its items lead from the start to the end that it tells, after at most as many turns as the limit
  pub end : Stopped ℕ
  pub leads : reached_in about plan m (items_of r.picks) ≡ Some end
  pub ended : HasEnded about r.ending end
  pub turn : r.turn ≡ end.config.control.turn
  pub within : r.turn ≤ about.turns
  -- each pick is its strategy's
  pub chosen : (n : ℕ) → n < length r.picks → IsChosen about plan m r.picks n

-- These bytes tell the matches of a plan for a sheet in a format, each with its record, and how the strategies stand
-- behind them.
pub record TellsPlays (named : Bool) (sheet : Sheet) (plan : Plan) (bytes : List ℕ) : Type 0 where
  pub told : HouseText
  pub written : bytes
      ≡ text_in (format_by named (about_of sheet plan.turns)) (told_in named (about_of sheet plan.turns) plan told)
  -- there is a record for each match, and the standings are those that the records make
  pub legal : IsLegal (about_of sheet plan.turns) dealing_of plan told
  pub played : (m : ℕ) → m < length plan.matches →
      (r : Record) × (slice_get told.matches m ≡ Some r) × IsPlayedOut (about_of sheet plan.turns) plan m r

-- behind this sheet the source has a plan that is accepted, and these bytes tell its matches
abbrev pub TellsPlaysBehind : (named : Bool) → List ℕ → ℕ → List ℕ → Sheet → List Tree → Type 0
TellsPlaysBehind named source rest bytes sheet others =
    (plan : Plan) × IsPlanAccepted source sheet.players others rest plan × TellsPlays named sheet plan bytes

-- the source is read as a sheet and a plan that are accepted, and these bytes tell the plan's matches
abbrev pub TellsPlaysOf : (named : Bool) → List ℕ → List ℕ → Type 0
TellsPlaysOf named source bytes =
    (read : Reading source 2) × IsAcceptedWith (TellsPlaysBehind named source read.rest bytes) read.lists

-- What `play` writes for a source tells plays in the format that is named, with however many workers and however large
-- a book.
abbrev pub WrittenIsPlayed : Type 0
WrittenIsPlayed =
    (options : Options) (source bytes note : List ℕ) (playouts : ℕ) →
    HasAnswer (Play options) source (text bytes note playouts) →
    TellsPlaysOf (is_named options.format) source bytes
