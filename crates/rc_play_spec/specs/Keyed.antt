-- What keys and playouts make of a plan: the items that strategies choose, the record of each match, and the house text. It is what the
-- program is held to: each match is played by itself, from its own seeds, and each choice by its view. Nothing here remembers anything
-- from one decision to another, and nobody plays beside another.
use Rattle.std.specs.Prelude.{ℕ, List, Option}
use Rattle.rc_base.specs.Transcript.{Record}
use Rattle.rc_play_spec.specs.About.{About}
use Rattle.rc_play_spec.specs.Effects.{Dealing}
use Rattle.rc_play_spec.specs.Stop.{Stopped}
use Rattle.rc_play_spec.specs.Play.{Chooser, Played, reached}
use Rattle.rc_play_spec.specs.Plan.{Plan, deal_at}
use Rattle.rc_play_spec.specs.Draws.{keyed}
use Rattle.rc_play_spec.specs.Strategy.{Choice, choice_by}
use Rattle.rc_play_spec.specs.Tally.{tallied}
use Rattle.rc_play_spec.specs.Match.{dealing_by, seat_choice, play_of, match_of}
use Rattle.rc_play_spec.specs.House.{house_text_by}

-- a strategy's item, by the seed of the seats and the view
abbrev pub choice_of : About → Choice
choice_of about = choice_by about keyed (tallied about)

-- the shuffles of a match, by the seed of its shuffles; the dealer's state is how many there were, modulo 2^32
abbrev pub dealing_of : ℕ → Dealing ℕ
dealing_of deal = dealing_by keyed deal

-- what each seat of match m chooses
abbrev pub chooser_of : About → Plan → ℕ → Chooser ℕ
chooser_of about plan m = seat_choice about (choice_of about) plan m

-- the play of match m of a plan
abbrev pub keyed_play : About → Plan → ℕ → Option (Played ℕ)
keyed_play about plan m = play_of about dealing_of (choice_of about) plan m

-- the stop of match m to which these items lead from its start, where no shuffle was made yet
abbrev pub reached_in : About → Plan → ℕ → List ℕ → Option (Stopped ℕ)
reached_in about plan m items = reached about (dealing_of (deal_at plan m).deal) items 0

-- its record
abbrev pub keyed_match : About → Plan → ℕ → Option Record
keyed_match about plan m = match_of about dealing_of (choice_of about) plan m

-- the house text of a plan
abbrev pub keyed_house_text : About → Plan → List ℕ
keyed_house_text about plan = house_text_by about dealing_of (choice_of about) plan
