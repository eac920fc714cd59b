-- Statements of laws: that playouts end, what their totals are at most, and that a strategy chooses an item of the menu, by its
-- view alone.
use Rattle.std.specs.Prelude.{◌≡◌, ℕ, ◌*◌, ◌-◌, ◌<◌, ◌≤◌, List, length, Some, All}
use Rattle.rc_sheet_spec.specs.Sight.{IsInSight}
use Rattle.rc_play_spec.specs.Control.{Control}
use Rattle.rc_play_spec.specs.Owners.{mover}
use Rattle.rc_play_spec.specs.Shape.{shape_of}
use Rattle.rc_play_spec.specs.Table.{Table}
use Rattle.rc_play_spec.specs.View.{View, view_of}
use Rattle.rc_play_spec.specs.Alike.{IsAlike}
use Rattle.rc_play_spec.specs.About.{About, menu_at}
use Rattle.rc_play_spec.specs.Redraw.{redraw}
use Rattle.rc_play_spec.specs.RedrawLaws.{IsViewOfSound}
use Rattle.rc_play_spec.specs.Play.{Played}
use Rattle.rc_play_spec.specs.Plan.{Plan, Strategy, strategy_at, deal_at}
use Rattle.rc_play_spec.specs.Strategy.{menu_size}
use Rattle.rc_play_spec.specs.Tally.{Ask, playout, tally}
use Rattle.rc_play_spec.specs.Keyed.{choice_of, chooser_of}

-- every playout ends
abbrev pub EveryPlayoutEnds : Type 0
EveryPlayoutEnds = (about : About) (ask : Ask) (round x : ℕ) → (p : Played ℕ) × (playout about ask round x ≡ Some p)

-- there is one total for each item
abbrev pub TalliesItems : Type 0
TalliesItems = (about : About) (ask : Ask) → length (tally about ask) ≡ menu_size about ask.view

-- in each round a seat gains at most two points for each other player
abbrev pub TotalsBounded : Type 0
TotalsBounded =
    (about : About) (ask : Ask) → ask.view.seat < about.sheet.players →
    All (λ total. total ≤ ask.rounds * (2 * (about.sheet.players - 1))) (tally about ask)

-- a strategy chooses one of the items
abbrev pub ChoosesItems : Type 0
ChoosesItems =
    (about : About) (strategy : Strategy) (seed : ℕ) (view : View) → 0 < menu_size about view →
    choice_of about strategy seed view < menu_size about view

-- how many items the mover has is a function of its view
abbrev pub SizeOfView : Type 0
SizeOfView =
    (about : About) (site : ℕ) (table : Table) (control : Control) → about.shape ≡ shape_of about.sheet →
    IsInSight about.sheet →
    control.site ≡ Some site →
    length (menu_at about site table control)
    ≡ menu_size about (view_of about.shape (mover about.sheet control.frames) table control)

-- and it is that in the table that the view is redrawn to by the key of zeros, or by any other
abbrev pub SizeRedrawn : Type 0
SizeRedrawn =
    (about : About) (site : ℕ) (view : View) (key : List ℕ) → about.shape ≡ shape_of about.sheet →
    IsInSight about.sheet →
    IsViewOfSound about.shape view → view.seat ≡ mover about.sheet view.control.frames → view.control.site ≡ Some site →
    menu_size about view ≡ length (menu_at about site (redraw about.shape view key) view.control)

-- Two decisions of one seat, strategy and seed of the seats at alike states have the same item, whatever matches of one about they
-- stand in.
abbrev pub AlikeSameChoice : Type 0
AlikeSameChoice =
    (about : About) (plan plan' : Plan) (m m' seat site site' k k' : ℕ) (table table' : Table)
    (control control' : Control) →
    IsAlike about.shape seat table table' control control' → strategy_at plan m seat ≡ strategy_at plan' m' seat →
    (deal_at plan m).seats ≡ (deal_at plan' m').seats →
    (chooser_of about plan m seat site table control k).0 ≡ (chooser_of about plan' m' seat site' table' control' k').0
