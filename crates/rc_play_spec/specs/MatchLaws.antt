-- Statements of laws of matches by keys: each pick is what its seat's strategy chooses at the stop to which the items before it
-- lead, and so decisions at alike states have the same item.
use Rattle.std.specs.Prelude.{◌≡◌, ℕ, ◌<◌, List, take, length, slice_get, Some, All}
use Rattle.rc_base.specs.Numbers.{below}
use Rattle.rc_base.specs.Transcript.{Pick}
use Rattle.rc_sheet_spec.specs.Sheet.{Sheet}
use Rattle.rc_sheet_spec.specs.Mentions.{sites_in}
use Rattle.rc_sheet_spec.specs.Sight.{IsInSight}
use Rattle.rc_play_spec.specs.Control.{Control}
use Rattle.rc_play_spec.specs.Shape.{shape_of}
use Rattle.rc_play_spec.specs.Table.{Table}
use Rattle.rc_play_spec.specs.Alike.{IsAlike}
use Rattle.rc_play_spec.specs.About.{About}
use Rattle.rc_play_spec.specs.Effects.{Dealing}
use Rattle.rc_play_spec.specs.Step.{decide}
use Rattle.rc_play_spec.specs.Stop.{Stopped}
use Rattle.rc_play_spec.specs.Play.{Chooser, Played, items_of, pick_at, reached, played}
use Rattle.rc_play_spec.specs.Decision.{at_site}
use Rattle.rc_play_spec.specs.Fits.{IsDecision, IsEnd}
use Rattle.rc_play_spec.specs.Plan.{Plan, strategy_at, deal_at}
use Rattle.rc_play_spec.specs.Strategy.{Choice}
use Rattle.rc_play_spec.specs.House.{records_of}
use Rattle.rc_play_spec.specs.Keyed.{chooser_of, keyed_play, reached_in}

-- choices are numbered in the order of the text
abbrev pub HasNumberedSites : Sheet → Type 0
HasNumberedSites sheet = sites_in sheet.items ≡ below (length (sites_in sheet.items))

-- the items of the first picks of a play
abbrev pub first_items : ℕ → Played ℕ → List ℕ
first_items n p = items_of (take n p.picks)

-- each pick of a play is what the chooser takes where the items before it lead, if it leaves the dealer's state alone
abbrev pub PicksAreTaken : Type 0
PicksAreTaken =
    (about : About) (dealing : Dealing ℕ) (chooser : Chooser ℕ) →
    ((seat site : ℕ) (table : Table) (control : Control) (k : ℕ) → (chooser seat site table control k).1 ≡ k) →
    (k : ℕ) (p : Played ℕ) → played about dealing chooser k ≡ Some p →
    (n seat site : ℕ) (at : Stopped ℕ) → reached about dealing (first_items n p) k ≡ Some at →
    at.stop ≡ decide seat site →
    slice_get p.picks n
    ≡ Some (pick_at about seat site (chooser seat site at.config.table at.config.control at.dealer).0 at.config)

-- so it is in each match of a plan
abbrev pub MatchPicksAreTaken : Type 0
MatchPicksAreTaken =
    (about : About) (plan : Plan) (m : ℕ) (p : Played ℕ) → keyed_play about plan m ≡ Some p →
    (n seat site : ℕ) (at : Stopped ℕ) → reached_in about plan m (first_items n p) ≡ Some at →
    at.stop ≡ decide seat site →
    slice_get p.picks n
    ≡ Some (pick_at about seat site
    (chooser_of about plan m seat site at.config.table at.config.control at.dealer).0 at.config)

-- Two decisions of one seat, strategy and seed of the seats at alike states have the same item, in whatever matches of whatever
-- plans. They are of one about: one sheet and one turn limit, up to which playouts go. The plays are those whose records stand in
-- keyed_house_text.
abbrev pub AlikeSamePicks : Type 0
AlikeSamePicks =
    (about : About) (plan plan' : Plan) (m m' n n' seat site site' : ℕ) (p p' : Played ℕ) (at at' : Stopped ℕ) →
    keyed_play about plan m ≡ Some p → keyed_play about plan' m' ≡ Some p' →
    reached_in about plan m (first_items n p) ≡ Some at → reached_in about plan' m' (first_items n' p') ≡ Some at' →
    at.stop ≡ decide seat site → at'.stop ≡ decide seat site' →
    IsAlike about.shape seat at.config.table at'.config.table at.config.control at'.config.control →
    strategy_at plan m seat ≡ strategy_at plan' m' seat → (deal_at plan m).seats ≡ (deal_at plan' m').seats →
    (pick : Pick) × (pick' : Pick) × (slice_get p.picks n ≡ Some pick) × (slice_get p'.picks n' ≡ Some pick')
    × (pick.item ≡ pick'.item)

-- Where items lead to a decision, the configuration is the one at its control's site: the view of its mover fixes what is left.
abbrev pub DecisionsAtSite : Type 0
DecisionsAtSite =
    (about : About) (dealing : Dealing ℕ) → HasNumberedSites about.sheet →
    (items : List ℕ) (k : ℕ) (at : Stopped ℕ) (seat site : ℕ) → reached about dealing items k ≡ Some at →
    at.stop ≡ decide seat site →
    IsDecision about seat site at.config × (at.config ≡ at_site about at.config.table at.config.control)

-- In a match of a checked sheet each pick is an item of its menu.
abbrev pub EveryPickFits : Type 0
EveryPickFits =
    (about : About) (plan : Plan) (m : ℕ) (p : Played ℕ) → about.shape ≡ shape_of about.sheet → IsInSight about.sheet →
    HasNumberedSites about.sheet →
    keyed_play about plan m ≡ Some p → All (λ pick. pick.item < pick.size) p.picks

-- and so its items lead to its end
abbrev pub MatchLeadsToEnd : Type 0
MatchLeadsToEnd =
    (about : About) (plan : Plan) (m : ℕ) (p : Played ℕ) → about.shape ≡ shape_of about.sheet → IsInSight about.sheet →
    HasNumberedSites about.sheet →
    keyed_play about plan m ≡ Some p →
    (at : Stopped ℕ) × (reached_in about plan m (items_of p.picks) ≡ Some at) × IsEnd p at

-- and each front of them leads to the decision at which the next pick is made
abbrev pub FrontsAreReached : Type 0
FrontsAreReached =
    (about : About) (plan : Plan) (m : ℕ) (p : Played ℕ) → about.shape ≡ shape_of about.sheet → IsInSight about.sheet →
    HasNumberedSites about.sheet →
    keyed_play about plan m ≡ Some p → (n : ℕ) → n < length p.picks →
    (at : Stopped ℕ) × (seat : ℕ) × (site : ℕ) × (reached_in about plan m (first_items n p) ≡ Some at)
    × (at.stop ≡ decide seat site)

-- a house text has a record for each match
abbrev pub EachMatchRecorded : Type 0
EachMatchRecorded =
    (about : About) (dealing : ℕ → Dealing ℕ) (chosen : Choice) (plan : Plan) →
    length (records_of about dealing chosen plan) ≡ length plan.matches
