-- What a seat sees at each decision of a play, and of a match of a plan.
use Rattle.std.specs.Prelude.{ℕ, List, [], ◌∷◌, Option, Some, None}
use Rattle.rc_base.specs.Transcript.{Pick, Record}
use Rattle.rc_play_spec.specs.About.{About}
use Rattle.rc_play_spec.specs.Effects.{Dealing}
use Rattle.rc_play_spec.specs.Step.{start}
use Rattle.rc_play_spec.specs.Stop.{Stopped, stop_of}
use Rattle.rc_play_spec.specs.Decision.{choose}
use Rattle.rc_play_spec.specs.Play.{stop_behind}
use Rattle.rc_play_spec.specs.View.{View, view_of}
use Rattle.rc_play_spec.specs.Plan.{Plan, deal_at}
use Rattle.rc_play_spec.specs.Keyed.{dealing_of, keyed_match}
use Rattle.rc_log_spec.specs.Log.{LogText, log_text, log}

module _ (about : About) (dealing : Dealing ℕ) (seat : ℕ) where
  -- what the seat sees before each of these choices, where they are made one after another from a stop on
  abbrev pub views_from : List Pick → Option (Stopped ℕ) → List View
  views_from [] at = []
  views_from (p ∷ picks) None = []
  views_from (p ∷ picks) (Some at) =
      view_of about.shape seat at.config.table at.config.control
      ∷ views_from picks (stop_behind about dealing (choose about dealing at.dealer p.item at.config))

  -- the same from the start of the match on
  abbrev pub views_in : List Pick → List View
  views_in picks = views_from picks (stop_of about dealing 0 (start about))

-- the choices that a record tells
abbrev pub picks_of : Option Record → List Pick
picks_of None = []
picks_of (Some r) = r.picks

module _ (about : About) (plan : Plan) (m seat : ℕ) where
  -- what the seat sees at the decisions of match m, in order: every match has a record
  abbrev pub views_of_match : List View
  views_of_match = views_in about (dealing_of (deal_at plan m).deal) seat (picks_of (keyed_match about plan m))

  -- the log of the seat in match m
  abbrev pub log_of : List ℕ
  log_of = log seat m views_of_match

  -- and what it tells
  abbrev pub told_of : LogText
  told_of = log_text seat m views_of_match
