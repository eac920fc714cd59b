-- Statements of laws: of steps, stops, plays and paths.
use Rattle.std.specs.Prelude.{◌≡◌, ℕ, ◌≤◌, ◌<◌, true, false, List, [], ◌∷◌, ◌++◌, length, slice_get, Some, None, All, map}
use Rattle.rc_base.specs.Numbers.{below}
use Rattle.rc_base.specs.Transcript.{Record}
use Rattle.rc_sheet_spec.specs.Sheet.{Alt, SheetItem, choice, Sheet}
use Rattle.rc_sheet_spec.specs.Lists.{item_list}
use Rattle.rc_sheet_spec.specs.Mentions.{sites_in}
use Rattle.rc_play_spec.specs.Control.{Control}
use Rattle.rc_play_spec.specs.Table.{Table}
use Rattle.rc_play_spec.specs.Menu.{alts_at}
use Rattle.rc_play_spec.specs.About.{About}
use Rattle.rc_play_spec.specs.Effects.{Dealing}
use Rattle.rc_play_spec.specs.Step.{Stage, todo, round, turn, todos, Config, goes, step, start}
use Rattle.rc_play_spec.specs.Stop.{Stopped, effort, stop_of}
use Rattle.rc_play_spec.specs.Decision.{left_at, choose}
use Rattle.rc_play_spec.specs.Path.{Path, left_of, next_item, past, into, stage_in, body_at}
use Rattle.rc_play_spec.specs.Fits.{IsAtStop, HasNoSite, HasFrames, IsEnd}
use Rattle.rc_play_spec.specs.Play.{Chooser, Played, played, reached}
use Rattle.rc_play_spec.specs.Plan.{Plan}
use Rattle.rc_play_spec.specs.Strategy.{Choice}
use Rattle.rc_play_spec.specs.Match.{match_of}

-- every configuration comes to a stop
abbrev pub ComesToStop : Type 0
ComesToStop = (about : About) (dealing : Dealing ℕ) (k : ℕ) (c : Config) →
    (at : Stopped ℕ) × (stop_of about dealing k c ≡ Some at)

-- a step leaves the stop as it is, and takes from the effort
abbrev pub StepKeepsStop : Type 0
StepKeepsStop =
    (about : About) (dealing : Dealing ℕ) (k k' : ℕ) (c c' : Config) → step about dealing k c ≡ goes k' c' →
    stop_of about dealing k c ≡ stop_of about dealing k' c'

abbrev pub StepTakesEffort : Type 0
StepTakesEffort =
    (about : About) (dealing : Dealing ℕ) (k k' : ℕ) (c c' : Config) → step about dealing k c ≡ goes k' c' →
    effort about c' < effort about c

-- where a match has stopped, it stops again
abbrev pub StopsAgain : Type 0
StopsAgain =
    (about : About) (dealing : Dealing ℕ) (k : ℕ) (c : Config) (at : Stopped ℕ) → stop_of about dealing k c ≡ Some at →
    stop_of about dealing at.dealer at.config ≡ Some at

-- what holds at a stop
abbrev pub StopsThere : Type 0
StopsThere =
    (about : About) (dealing : Dealing ℕ) (k : ℕ) (c : Config) (at : Stopped ℕ) → stop_of about dealing k c ≡ Some at →
    IsAtStop about at.stop at.config

-- from a configuration without a site the control has one at a decision alone
abbrev pub SiteAtDecision : Type 0
SiteAtDecision =
    (about : About) (dealing : Dealing ℕ) (k : ℕ) (c : Config) (at : Stopped ℕ) → c.control.site ≡ None →
    stop_of about dealing k c ≡ Some at →
    HasNoSite at.stop at.config

-- frames are always those of the open stages: at the start, at each stop, and behind each choice
abbrev pub StartHasFrames : Type 0
StartHasFrames = (about : About) → HasFrames (start about)

abbrev pub StopHasFrames : Type 0
StopHasFrames =
    (about : About) (dealing : Dealing ℕ) (k : ℕ) (c : Config) (at : Stopped ℕ) → HasFrames c →
    stop_of about dealing k c ≡ Some at →
    HasFrames at.config

abbrev pub StepHasFrames : Type 0
StepHasFrames =
    (about : About) (dealing : Dealing ℕ) (k k' : ℕ) (c c' : Config) → HasFrames c →
    step about dealing k c ≡ goes k' c' → HasFrames c'

abbrev pub ChoiceHasFrames : Type 0
ChoiceHasFrames =
    (about : About) (dealing : Dealing ℕ) (k k' x : ℕ) (c c' : Config) → HasFrames c →
    choose about dealing k x c ≡ goes k' c' → HasFrames c'

-- every play ends
abbrev pub EveryPlayEnds : Type 0
EveryPlayEnds =
    (about : About) (dealing : Dealing ℕ) (chooser : Chooser ℕ) (k : ℕ) →
    (p : Played ℕ) × (played about dealing chooser k ≡ Some p)

-- where a chooser leaves the dealer's state alone, a play is where its items lead, if the menus had them
abbrev pub ItemsLeadToEnd : Type 0
ItemsLeadToEnd =
    (about : About) (dealing : Dealing ℕ) (chooser : Chooser ℕ) →
    ((seat site : ℕ) (table : Table) (control : Control) (k : ℕ) → (chooser seat site table control k).1 ≡ k) →
    (k : ℕ) (p : Played ℕ) → played about dealing chooser k ≡ Some p → All (λ pick. pick.item < pick.size) p.picks →
    (at : Stopped ℕ) × (reached about dealing (map (λ pick. pick.item) p.picks) k ≡ Some at) × IsEnd p at

-- and so every match has a record
abbrev pub EveryMatchHasRecord : Type 0
EveryMatchHasRecord =
    (about : About) (dealing : ℕ → Dealing ℕ) (chosen : Choice) (plan : Plan) (m : ℕ) →
    (r : Record) × (match_of about dealing chosen plan m ≡ Some r)

-- what a path leaves to run, case by case: an item done or passed over
abbrev pub PathPassesItem : Type 0
PathPassesItem =
    (items : List SheetItem) (path : Path) (i : SheetItem) → path.at_round ≡ false → next_item items path ≡ Some i →
    left_of items path ≡ todo i ∷ left_of items (past path)

-- a round of the stage that is next
abbrev pub PathAtRound : Type 0
PathAtRound =
    (items : List SheetItem) (path : Path) (s : Stage) → path.at_round ≡ true →
    stage_in (next_item items path) ≡ Some s →
    left_of items path ≡ round s ∷ left_of items (past path)

-- its body
abbrev pub PathEntersBody : Type 0
PathEntersBody =
    (items : List SheetItem) (path : Path) (s : Stage) → stage_in (next_item items path) ≡ Some s →
    left_of items (into path) ≡ todos (item_list s.body) ++ turn s ∷ round s ∷ left_of items (past path)

-- the end of a body
abbrev pub PathEndsBody : Type 0
PathEndsBody =
    (items : List SheetItem) (outer : List ℕ) (n next : ℕ) (s : Stage) →
    stage_in (slice_get (body_at items outer) n) ≡ Some s → length (body_at items (outer ++ n ∷ [])) ≤ next →
    left_of items (record { outer = outer ++ n ∷ []; next = next; at_round = false })
    ≡ turn s ∷ left_of items (record { outer = outer; next = n; at_round = true })

-- the number of a choice fixes what is left at it, and its alternatives
abbrev pub SiteFixesLeft : Type 0
SiteFixesLeft =
    (sheet : Sheet) (site : ℕ) (alts : List Alt) (path : Path) →
    sites_in sheet.items ≡ below (length (sites_in sheet.items)) → path.at_round ≡ false →
    next_item (item_list sheet.items) path ≡ Some (choice site alts) →
    left_at sheet site ≡ left_of (item_list sheet.items) path

abbrev pub SiteFixesAlternatives : Type 0
SiteFixesAlternatives =
    (sheet : Sheet) (site : ℕ) (alts : List Alt) (path : Path) →
    sites_in sheet.items ≡ below (length (sites_in sheet.items)) → path.at_round ≡ false →
    next_item (item_list sheet.items) path ≡ Some (choice site alts) → alts_at sheet site ≡ alts
