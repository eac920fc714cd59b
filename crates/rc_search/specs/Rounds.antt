-- Rounds of a search: where a machine stands at the root of one, what items are worth there, and the totals of the
-- first ones.
use Rattle.std.specs.Prelude.{◌≡◌, ℕ, false, length, slice_index, IsSome}
use Rattle.rc_play_spec.specs.About.{About}
use Rattle.rc_play_spec.specs.View.{View}
use Rattle.rc_play_spec.specs.Table.{Table}
use Rattle.rc_play_spec.specs.Draws.{key32, drawn_for, search_redraws}
use Rattle.rc_play_spec.specs.Redraw.{redraw}
use Rattle.rc_play_spec.specs.Step.{Config}
use Rattle.rc_play_spec.specs.Decision.{at_site}
use Rattle.rc_play_spec.specs.Strategy.{menu_size}
use Rattle.rc_rules.specs.Machine.{StopsAtDecision, menu_here}
use Rattle.rc_table.specs.Laid.{Laid}
use Rattle.rc_redraw.specs.Redraws.{Redrawn}
use Rattle.rc_flat.specs.Machine.{Machine}
use Rattle.rc_flat.specs.Moments.{IsMoment}
use Rattle.rc_flat.specs.declared.moments.Moment.{Moment}
use Rattle.rc_play_spec.specs.Search.{Rival}
use Rattle.rc_search.specs.declared.dealer.Way.{Way}
use Rattle.rc_search.specs.Looking.{worth_behind, tried_with}

-- tables are redrawn for a view
pub record IsDealing (about : About) (seen : View) (r : Redrawn) : Type 0 where
  pub shape : r.shape ≡ about.shape
  pub view : r.view ≡ seen

-- the same search over so many rounds
abbrev pub in_rounds : ℕ → Rival → Rival
in_rounds rounds rival = record { strategy = rival.strategy; depth = rival.depth; rounds = rounds; key = rival.key }

-- the way of a round
abbrev pub way_in : Rival → ℕ → View → ℕ → Way
way_in rival seed view round = record { key = rival.key; seat = view.seat; seed = seed; round = round }

module _ (about : About) (way : Way) (view : View) where
  -- the table that is redrawn for it, and where a match stands with that
  abbrev pub redrawn_on : Table
  redrawn_on = redraw about.shape view (key32 way.key (drawn_for way.seat search_redraws) way.seed way.round)

  abbrev pub dealt_on : Laid
  dealt_on = record { shape = about.shape; table = redrawn_on }

  abbrev pub root_on : Config
  root_on = at_site about redrawn_on view.control

  -- what an item is worth there to the seat, and how many items are tried
  abbrev pub gain_on : ℕ → ℕ → ℕ
  gain_on depth item = slice_index (worth_behind about way depth root_on 0 item) way.seat

  abbrev pub tried_on : ℕ → ℕ
  tried_on depth = tried_with about way depth root_on 0 (menu_size about view)

  -- a machine that stands there
  pub record IsAtRoot (m : Machine) : Type 0 where
    pub same : m.about ≡ about
    pub there : m.config ≡ root_on
    pub decides : StopsAtDecision about m.config
    pub size : length (menu_here about m.config) ≡ menu_size about view
    pub fresh : m.spent ≡ false
    pub home : IsSome m.home

-- A machine goes from moment to moment in matches of this about, and this moment is the decision of a view with some table.
pub record GoesFromRoot (about : About) (view : View) (m : Machine) (root : Moment) : Type 0 where
  pub same : m.about ≡ about
  pub home : IsSome m.home
  pub table : Table
  pub there : IsMoment about m.code (at_site about table view.control) root
