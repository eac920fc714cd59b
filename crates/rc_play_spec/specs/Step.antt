-- The steps of a match: what follows what stands first among what is left to run.
use Rattle.std.specs.Prelude.{ℕ, ◌+◌, ◌-◌, ◌%◌, nat_le, Bool, true, false, if◌then◌else◌, List, [], ◌∷◌, ◌++◌, map, replicate, Option, Some, None, unwrap_or}
use Rattle.rc_sheet_spec.specs.Sheet.{Class, Test, Alt, SheetItem, do_item, stage, choice, SheetItems, Sheet}
use Rattle.rc_sheet_spec.specs.Lists.{item_list}
use Rattle.rc_sheet_spec.specs.WellFormed.{owner_count}
use Rattle.rc_play_spec.specs.Control.{Frame, at_innermost, Control}
use Rattle.rc_play_spec.specs.Owners.{current_in, mover}
use Rattle.rc_play_spec.specs.Table.{Table, opening}
use Rattle.rc_play_spec.specs.Value.{test_value}
use Rattle.rc_play_spec.specs.Menu.{Item, menu_from}
use Rattle.rc_play_spec.specs.About.{About, scene_at}
use Rattle.rc_play_spec.specs.Effects.{Dealing, Point, does}

-- a stage of a sheet
pub record Stage : Type 0 where
  pub number : ℕ
  pub class : Class
  pub end : Test
  pub body : SheetItems

-- what is left to run: an item, a round of an open stage, or the passing of its turn
pub data Part : Type 0 where
  todo : SheetItem → Part
  round : Stage → Part
  turn : Stage → Part

-- what is left to run, a table and a control
pub record Config : Type 0 where
  pub left : List Part
  pub table : Table
  pub control : Control

-- where a match stops
pub data Stop : Type 0 where
  decide : (seat site : ℕ) → Stop
  is_done : Stop
  is_limit : Stop

-- a step leads to another configuration and another state of the dealer, or stops in one
pub data Next (S : Type 0) : Type 0 where
  goes : (dealer : S) (config : Config) → Next S
  stops : (stop : Stop) (config : Config) → Next S

-- the items of a list
abbrev pub todos : List SheetItem → List Part
todos items = map todo items

-- all but the innermost frame
abbrev pub closed : List Frame → List Frame
closed [] = []
closed (frame ∷ []) = []
closed (frame ∷ next ∷ frames) = frame ∷ closed (next ∷ frames)

-- the member beside a member among so many: the one after, or the one before where the stage goes backward
abbrev pub beside : ℕ → Bool → ℕ → ℕ
beside count true member = (member + (count - 1)) % count
beside count false member = (member + 1) % count

-- the member who is next: the one named, who is then named no more, or else the one beside
abbrev pub with_next : ℕ → Frame → Frame
with_next count frame =
    record {
      stage = frame.stage;
      member = unwrap_or frame.named (beside count frame.back frame.member);
      back =
          frame.back;
      named = None;
    }

-- the innermost frame takes its next member
abbrev pub passed : ℕ → List Frame → List Frame
passed count frames = at_innermost (λ frame. true) (with_next count) frames

-- A frame opens, at the current member of the nearest stage of its class around it, else at member 0; forward, and with nothing
-- named.
abbrev pub opened : Sheet → Stage → List Frame → List Frame
opened sheet s frames =
    frames
    ++ record { stage = s.number; member = current_in sheet s.class frames; back = false; named = None }
    ∷ []

abbrev pub with_site : Control → Option ℕ → Control
with_site c site = record { site = site; frames = c.frames; turn = c.turn; made = c.made }

abbrev pub with_frames : Control → List Frame → Control
with_frames c frames = record { site = c.site; frames = frames; turn = c.turn; made = c.made }

abbrev pub one_turn_more : Control → Control
one_turn_more c = record { site = c.site; frames = c.frames; turn = c.turn + 1; made = c.made }

module _ {S : Type 0} (about : About) (dealing : Dealing S) where
  -- At a choice with this menu: an empty one is passed over. The turn limit is tested before the decision.
  abbrev pub at_menu : S → ℕ → List Alt → List Part → Table → Control → List Item → Next S
  at_menu dealer site alts rest table control [] =
      goes dealer (record { left = rest; table = table; control = control })
  at_menu dealer site alts rest table control (first ∷ items) =
      if nat_le about.turns control.turn
      then stops is_limit (record { left = todo (choice site alts) ∷ rest; table = table; control = control })
      else stops (decide (mover about.sheet control.frames) site)
      (record { left = todo (choice site alts) ∷ rest; table = table; control = with_site control (Some site) })

  -- At a round: the stage is left where its end test is true. Else the turn limit is tested, and a round begins.
  abbrev pub at_round : S → Stage → List Part → Table → Control → Bool → Next S
  at_round dealer s rest table control true =
      goes dealer (record { left = rest; table = table; control = with_frames control (closed control.frames) })
  at_round dealer s rest table control false =
      if nat_le about.turns control.turn
      then stops is_limit (record { left = round s ∷ rest; table = table; control = control })
      else goes dealer
      (record {
        left = todos (item_list s.body) ++ turn s ∷ round s ∷ rest;
        table = table;
        control =
            one_turn_more control;
      })

  -- after effects
  abbrev pub behind : List Part → Control → Point S → Config
  behind rest control point = record { left = rest; table = point.table; control = with_frames control point.frames }

  -- what follows what stands first
  abbrev pub first_step : S → List Part → Table → Control → Next S
  first_step dealer [] table control = stops is_done (record { left = []; table = table; control = control })
  first_step dealer (todo (do_item effects) ∷ rest) table control =
      let point = does about dealing [] effects (record { table = table; frames = control.frames; dealer = dealer }) in
      goes point.dealer (behind rest control point)
  first_step dealer (todo (stage number class end body) ∷ rest) table control =
      let s : Stage = record { number = number; class = class; end = end; body = body } in
      goes dealer
      (record {
        left = round s ∷ rest;
        table = table;
        control =
            with_frames control (opened about.sheet s control.frames);
      })
  first_step dealer (todo (choice site alts) ∷ rest) table control =
      at_menu dealer site alts rest table control (menu_from (scene_at about table control.frames) alts)
  first_step dealer (round s ∷ rest) table control =
      at_round dealer s rest table control (test_value (scene_at about table control.frames) [] s.end)
  first_step dealer (turn s ∷ rest) table control =
      goes dealer
      (record {
        left = rest;
        table = table;
        control =
            with_frames control (passed (owner_count about.sheet s.class) control.frames);
      })

  -- one step
  abbrev pub step : S → Config → Next S
  step dealer c = first_step dealer c.left c.table c.control

-- the configuration of the start
abbrev pub start : About → Config
start about =
    record {
      left = todos (item_list about.sheet.items);
      table = opening about.shape;
      control = record { site = None; frames = []; turn = 0; made = replicate about.sheet.players 0 };
    }
