-- A decision: the configuration at a choice site, and what follows an item that is chosen there.
use Rattle.std.specs.Prelude.{ℕ, ◌+◌, ◌==◌, if◌then◌else◌, List, [], ◌∷◌, ◌++◌, slice_index, slice_index_or, slice_set, None, unwrap_or}
use Rattle.rc_sheet_spec.specs.Sheet.{Alt, SheetItem, do_item, stage, choice, SheetItems, no_item, item, Sheet}
use Rattle.rc_sheet_spec.specs.Lists.{item_list}
use Rattle.rc_play_spec.specs.Control.{Frame, Control}
use Rattle.rc_play_spec.specs.Owners.{mover}
use Rattle.rc_play_spec.specs.Table.{Table}
use Rattle.rc_play_spec.specs.Menu.{menu_from, alt_in, effects_of, bindings_of}
use Rattle.rc_play_spec.specs.About.{About, scene_at}
use Rattle.rc_play_spec.specs.Effects.{Dealing, Point, does}
use Rattle.rc_play_spec.specs.Step.{Stage, Part, todo, round, turn, Config, Next, goes, todos, behind}

-- What is left to run at a choice site, before what is left behind these items.
abbrev mutual
  pub left_in_item : ℕ → SheetItem → List Part → List (List Part)
  left_in_item site (do_item effects) rest = []
  left_in_item site (stage number class end body) rest =
      let s : Stage = record { number = number; class = class; end = end; body = body } in
      left_in site body (turn s ∷ round s ∷ rest)
  left_in_item site (choice number alts) rest = if number == site then (todo (choice number alts) ∷ rest) ∷ [] else []

  pub left_in : ℕ → SheetItems → List Part → List (List Part)
  left_in site no_item rest = []
  left_in site (item i items) rest = left_in_item site i (todos (item_list items) ++ rest) ++ left_in site items rest

abbrev pub left_at : Sheet → ℕ → List Part
left_at sheet site = slice_index_or (left_in site sheet.items []) 0 []

-- the configuration at a control's site, which each control of a decision has
abbrev pub at_site : About → Table → Control → Config
at_site about table control =
    record { left = left_at about.sheet (unwrap_or control.site 0); table = table; control = control }

-- the control behind a decision of the seat: the site goes, and the turn count and the seat's count of decisions rise by one
abbrev pub with_choice : ℕ → Control → Control
with_choice seat c =
    record {
      site = None;
      frames = c.frames;
      turn = c.turn + 1;
      made =
          slice_set c.made seat (slice_index c.made seat + 1);
    }

module _ {S : Type 0} (about : About) (dealing : Dealing S) where
  -- what the effects of the x-th item of the menu do, with its variables bound
  abbrev pub chosen_point : ℕ → List Alt → Table → List Frame → S → Point S
  chosen_point x alts table frames dealer =
      let scene = scene_at about table frames in
      let chosen = slice_index_or (menu_from scene alts) x (record { alt = 0; spots = [] }) in
      let alt = alt_in alts chosen.alt in
      does about dealing (bindings_of scene [] alt chosen.spots) (effects_of alt)
      (record { table = table; frames = frames; dealer = dealer })

  abbrev pub choose_first : S → ℕ → List Part → Table → Control → Next S
  choose_first dealer x (todo (choice site alts) ∷ rest) table control =
      let point = chosen_point x alts table control.frames dealer in
      goes point.dealer (behind about dealing rest (with_choice (mover about.sheet control.frames) control) point)
  choose_first dealer x left table control = goes dealer (record { left = left; table = table; control = control })

  -- the x-th item of the menu is chosen: its effects run, and the choice goes
  abbrev pub choose : S → ℕ → Config → Next S
  choose dealer x c = choose_first dealer x c.left c.table c.control
