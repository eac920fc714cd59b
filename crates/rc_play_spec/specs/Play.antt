-- Plays: the choices of a chooser from the start to the end.
use Rattle.std.specs.Prelude.{ℕ, zero, suc, nat_lt, if◌then◌else◌, List, [], ◌∷◌, length, map, Option, Some, None, option_map}
use Rattle.rc_base.specs.Transcript.{Pick, Ending, done, limit}
use Rattle.rc_play_spec.specs.Control.{Control}
use Rattle.rc_play_spec.specs.Table.{Table}
use Rattle.rc_play_spec.specs.About.{About, menu_at}
use Rattle.rc_play_spec.specs.Effects.{Dealing}
use Rattle.rc_play_spec.specs.Step.{Config, Next, goes, stops, Stop, decide, is_done, is_limit, start}
use Rattle.rc_play_spec.specs.Stop.{Stopped, stop_of}
use Rattle.rc_play_spec.specs.Decision.{choose}

-- which item a seat takes at a site, and the dealer's state behind that
abbrev pub Chooser : Type 0 → Type 0
Chooser S = (seat site : ℕ) → Table → Control → S → ℕ × S

-- the items that were picked
abbrev pub items_of : List Pick → List ℕ
items_of picks = map (λ pick. pick.item) picks

-- a play that has ended
pub record Played (S : Type 0) : Type 0 where
  pub picks : List Pick
  pub ending : Ending
  pub table : Table
  pub control : Control
  pub dealer : S

-- one that ends here, and one with a pick before its own
abbrev pub ended : {S : Type 0} → Ending → Config → S → Played S
ended ending c dealer = record { picks = []; ending = ending; table = c.table; control = c.control; dealer = dealer }

abbrev pub with_pick : {S : Type 0} → Pick → Played S → Played S
with_pick pick p =
    record { picks = pick ∷ p.picks; ending = p.ending; table = p.table; control = p.control; dealer = p.dealer }

-- what follows a stop
abbrev pub from_stop : {S A : Type 0} → (Stop → Config → S → Option A) → Option (Stopped S) → Option A
from_stop follow None = None
from_stop follow (Some at) = follow at.stop at.config at.dealer

-- a choice at a decision: the item, and how many there are
abbrev pub pick_at : About → ℕ → ℕ → ℕ → Config → Pick
pick_at about seat site item c =
    record { seat = seat; site = site; item = item; size = length (menu_at about site c.table c.control) }

module _ {S : Type 0} (about : About) (dealing : Dealing S) where
  -- where the match stops behind a choice
  abbrev pub stop_behind : Next S → Option (Stopped S)
  stop_behind (goes dealer config) = stop_of about dealing dealer config
  stop_behind (stops stop config) = None

  -- From a stop, the stop to which these items lead; nothing where one of them isn't in the menu, or where no decision is left.
  abbrev pub follow : List ℕ → Stop → Config → S → Option (Stopped S)
  follow [] stop c dealer = Some (record { stop = stop; config = c; dealer = dealer })
  follow (x ∷ items) is_done c dealer = None
  follow (x ∷ items) is_limit c dealer = None
  follow (x ∷ items) (decide seat site) c dealer =
      if nat_lt x (length (menu_at about site c.table c.control))
      then from_stop (follow items) (stop_behind (choose about dealing dealer x c))
      else None

  -- the stop to which these items lead from the start
  abbrev pub reached : List ℕ → S → Option (Stopped S)
  reached items dealer = from_stop (follow items) (stop_of about dealing dealer (start about))

  module _ (chooser : Chooser S) where
    -- From a stop to the end, with at most so many decisions: what the chooser takes at a decision, and then the play behind it.
    -- Each decision raises the turn count.
    abbrev pub played_on : ℕ → Stop → Config → S → Option (Played S)
    played_on more is_done c dealer = Some (ended done c dealer)
    played_on more is_limit c dealer = Some (ended limit c dealer)
    played_on zero (decide seat site) c dealer = None
    played_on (suc more) (decide seat site) c dealer =
        let chosen = chooser seat site c.table c.control dealer in
        option_map (with_pick (pick_at about seat site chosen.0 c))
        (from_stop (played_on more) (stop_behind (choose about dealing chosen.1 chosen.0 c)))

    -- the whole play
    abbrev pub played : S → Option (Played S)
    played dealer = from_stop (played_on about.turns) (stop_of about dealing dealer (start about))

-- the stop at which a play ends
abbrev pub stop_for : Ending → Stop
stop_for done = is_done
stop_for limit = is_limit
