-- What a strategy is to choose by, as the definitions of play have it.
use Rattle.std.specs.Prelude.{◌≡◌, ℕ, ◌<◌}
use Rattle.rc_play_spec.specs.About.{About}
use Rattle.rc_play_spec.specs.Fits.{FitsSite}
use Rattle.rc_play_spec.specs.Owners.{mover}
use Rattle.rc_play_spec.specs.Plan.{Strategy}
use Rattle.rc_play_spec.specs.RedrawLaws.{IsViewOfSound}
use Rattle.rc_play_spec.specs.Strategy.{menu_size}
use Rattle.rc_play_spec.specs.View.{View}
use Rattle.rc_rules.specs.Plan.{strategy_seen}
use Rattle.rc_view.specs.Seen.{view_seen}
use Rattle.rc_redraw.specs.Asking.{Key}
use Rattle.rc_redraw.specs.declared.need.Need.{Need as StoredNeed}

pub record Need : Type 0 where
  pub about : About
  pub strategy : Strategy
  pub seed : ℕ
  pub menu : ℕ
  pub view : View

abbrev pub need_seen : StoredNeed → Need
need_seen need =
    record {
      about = need.about.value;
      strategy = strategy_seen need.strategy;
      seed = need.seed;
      menu = need.menu;
      view = view_seen need.view;
    }

-- what a rollout of so many rounds by this number asks of playouts
abbrev pub rollout_key : Need → ℕ → ℕ → Key
rollout_key need rounds number =
    record { about = need.about; ask = record { rounds = rounds; key = number; seed = need.seed; view = need.view } }

-- What a seat sees where it decides: the view is that of a sound table, its control fits its site, the seat is the mover, something
-- is offered, and the turn limit isn't met.
pub record IsAtDecision (about : About) (view : View) : Type 0 where
  pub site : ℕ
  pub fits : FitsSite about site view.control
  pub of_sound : IsViewOfSound about.shape view
  pub moves : view.seat ≡ mover about.sheet view.control.frames
  pub player : view.seat < about.sheet.players
  pub some : 0 < menu_size about view
  pub below : view.control.turn < about.turns

-- a decision with its menu's size
pub record IsNeed (need : Need) : Type 0 where
  pub decision : IsAtDecision need.about need.view
  pub menu : need.menu ≡ menu_size need.about need.view
