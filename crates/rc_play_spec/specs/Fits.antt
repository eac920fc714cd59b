-- How a control fits what is left to run, and what holds where a match stops.
use Rattle.std.specs.Prelude.{◌≡◌, ℕ, ◌<◌, ◌≤◌, List, [], ◌∷◌, ◌++◌, length, map, All, Some, None}
use Rattle.std.specs.List.{AllZip}
use Rattle.rc_sheet_spec.specs.Sheet.{Alt, choice, Sheet}
use Rattle.rc_sheet_spec.specs.Mentions.{sites_in}
use Rattle.rc_sheet_spec.specs.WellFormed.{owner_count}
use Rattle.rc_play_spec.specs.Control.{Frame, Control}
use Rattle.rc_play_spec.specs.Owners.{mover}
use Rattle.rc_play_spec.specs.Menu.{menu_from}
use Rattle.rc_play_spec.specs.About.{About, scene_at}
use Rattle.rc_play_spec.specs.Step.{Stage, Part, todo, round, turn, Config, Stop, decide, is_done, is_limit}
use Rattle.rc_play_spec.specs.Stop.{Stopped}
use Rattle.rc_play_spec.specs.Decision.{left_at}
use Rattle.rc_play_spec.specs.Play.{Played, stop_for}

-- the open stages of what is left, from outside to inside: those whose rounds stand there
abbrev pub around : List Part → List Stage
around [] = []
around (todo i ∷ left) = around left
around (round s ∷ left) = around left ++ s ∷ []
around (turn s ∷ left) = around left

-- the frames are those of the open stages, from outside to inside
abbrev pub HasFrames : Config → Type 0
HasFrames c = map (λ f. f.stage) c.control.frames ≡ map (λ s. s.number) (around c.left)

-- a frame of this stage, whose member and named member are among the stage's members
pub record IsFrameOf (sheet : Sheet) (s : Stage) (frame : Frame) : Type 0 where
  pub stage : frame.stage ≡ s.number
  pub member : frame.member < owner_count sheet s.class
  pub named : (n : ℕ) → frame.named ≡ Some n → n < owner_count sheet s.class

-- A control fits a choice site: the site is one of the sheet and the control's, the frames are those of the stages around the
-- site, and there is one count of decisions for each player, at most the turn count.
pub record FitsSite (about : About) (site : ℕ) (control : Control) : Type 0 where
  pub there : site < length (sites_in about.sheet.items)
  pub stands : control.site ≡ Some site
  pub frames : AllZip (IsFrameOf about.sheet) (around (left_at about.sheet site)) control.frames
  pub seats : length control.made ≡ about.sheet.players
  pub counts : All (λ n. n ≤ control.turn) control.made

-- A decision is made by the mover at a choice with a menu, below the turn limit, and the control has its site.
pub record IsDecision (about : About) (seat site : ℕ) (c : Config) : Type 0 where
  pub stands : c.control.site ≡ Some site
  pub moves : seat ≡ mover about.sheet c.control.frames
  pub below : c.control.turn < about.turns
  pub alts : List Alt
  pub rest : List Part
  pub first : c.left ≡ todo (choice site alts) ∷ rest
  pub some : 0 < length (menu_from (scene_at about c.table c.control.frames) alts)

-- What holds at a stop. Nothing is left where a match is done.
abbrev pub IsAtStop : About → Stop → Config → Type 0
IsAtStop about (decide seat site) c = IsDecision about seat site c
IsAtStop about is_done c = c.left ≡ []
IsAtStop about is_limit c = about.turns ≤ c.control.turn

-- the control has a site at a decision alone
abbrev pub HasNoSite : Stop → Config → Type 0
HasNoSite (decide seat site) c = Unit {0}
HasNoSite is_done c = c.control.site ≡ None
HasNoSite is_limit c = c.control.site ≡ None

-- the stop at which a play ends, with its table, its control and its dealer's state
pub record IsEnd {S : Type 0} (p : Played S) (at : Stopped S) : Type 0 where
  pub stop : at.stop ≡ stop_for p.ending
  pub table : at.config.table ≡ p.table
  pub control : at.config.control ≡ p.control
  pub dealer : at.dealer ≡ p.dealer
