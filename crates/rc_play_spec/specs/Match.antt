-- The matches of a plan: each is the one play that its shuffles and its strategies' choices make.
use Rattle.std.specs.Prelude.{ℕ, ◌+◌, ◌%◌, List, Option, option_map}
use Rattle.rc_base.specs.Transcript.{Record}
use Rattle.rc_play_spec.specs.View.{view_of}
use Rattle.rc_play_spec.specs.About.{About}
use Rattle.rc_play_spec.specs.Effects.{Dealing}
use Rattle.rc_play_spec.specs.Play.{Chooser, Played, played}
use Rattle.rc_play_spec.specs.Scores.{record_of}
use Rattle.rc_play_spec.specs.Plan.{Plan, strategy_at, deal_at}
use Rattle.rc_play_spec.specs.Draws.{Draws}
use Rattle.rc_play_spec.specs.Strategy.{Choice}

-- Shuffles are counted from 0, modulo 2^32. The k-th one gives a list of so many items this order.
abbrev pub counted : (ℕ → ℕ → List ℕ) → Dealing ℕ
counted order = record { order = order; next = λ k size. (k + 1) % 4294967296 }

-- the shuffles of a match by the seed of its shuffles
abbrev pub dealing_by : Draws → ℕ → Dealing ℕ
dealing_by draws deal = counted (λ k size. draws.order deal 1 k 0 size)

-- Each seat chooses by the strategy that it has in match m, by the seed of the seats and by its view, and by no more. The dealer's
-- state stays as it is.
abbrev pub seat_choice : About → Choice → Plan → ℕ → Chooser ℕ
seat_choice about chosen plan m seat site table control k =
    (chosen (strategy_at plan m seat) (deal_at plan m).seats (view_of about.shape seat table control), k)

-- by the seed of the shuffles the dealing of a match, and by a strategy, the seed of the seats and a view the choice
module _ (about : About) (dealing : ℕ → Dealing ℕ) (chosen : Choice) (plan : Plan) where
  -- the play of match m
  abbrev pub play_of : ℕ → Option (Played ℕ)
  play_of m = played about (dealing (deal_at plan m).deal) (seat_choice about chosen plan m) 0

  -- its record
  abbrev pub match_of : ℕ → Option Record
  match_of m = option_map (record_of about m (deal_at plan m).deal (deal_at plan m).seats) (play_of m)
