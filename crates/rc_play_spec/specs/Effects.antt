-- What effects do to the table and to the open stages.
use Rattle.std.specs.Prelude.{ℕ, zero, suc, ◌==◌, ◌&&◌, ◌||◌, Bool, true, false, not, if◌then◌else◌, List, [], ◌∷◌, ◌++◌, length, filter, fold, ℤ, pos, negsuc, ◌+ℤ◌, ◌-ℤ◌, Option, Some, None, min}
use Rattle.rc_base.specs.Clamp.{clamped}
use Rattle.std.specs.List.{list_any}
use Rattle.rc_base.specs.Limits.{most_times}
use Rattle.rc_base.specs.Numbers.{below}
use Rattle.rc_sheet_spec.specs.Sheet.{Class, game_class, player_class, team_class, End, top, bottom, Effect, move, move_all, remember, forget, shuffle, set_to, increase, decrease, when, repeat, for_each, next_is, turn_round, peek, Effects, no_effect, effect, Sheet}
use Rattle.rc_sheet_spec.specs.Naming.{class_of}
use Rattle.rc_play_spec.specs.Control.{Frame, at_innermost}
use Rattle.rc_play_spec.specs.Owners.{is_stage_of}
use Rattle.rc_play_spec.specs.Shape.{Shape, team_at}
use Rattle.rc_play_spec.specs.Sees.{sees}
use Rattle.rc_play_spec.specs.Table.{Table, list_at, number_at, marks_of, set_marks, loc_of, put_top, put_bottom, remember_top, remember_bottom, forget_in, set_number, reorder}
use Rattle.rc_play_spec.specs.Value.{Scene, who_value, loc_place, num_place, card_value, coll_value, int_value, test_value, members}
use Rattle.rc_play_spec.specs.Scene.{CardValue, held, noted, id_of, Vars}
use Rattle.rc_play_spec.specs.About.{About, scene_at}

-- How a dealer permutes: in each of its states the order that it makes of a list of so many items, and its state behind that.
pub record Dealing (S : Type 0) : Type 0 where
  pub order : S → ℕ → List ℕ
  pub next : S → ℕ → S

-- Where effects stand: the table, the open stages, and the dealer's state.
pub record Point (S : Type 0) : Type 0 where
  pub table : Table
  pub frames : List Frame
  pub dealer : S

abbrev pub scene_now : {S : Type 0} → About → Point S → Scene CardValue
scene_now about now = scene_at about now.table now.frames

abbrev pub with_table : {S : Type 0} → Point S → Table → Point S
with_table now table = record { table = table; frames = now.frames; dealer = now.dealer }

abbrev pub at_frames : {S : Type 0} → Point S → List Frame → Point S
at_frames now frames = record { table = now.table; frames = frames; dealer = now.dealer }

-- nothing happens where there is nothing, or no such location or number
abbrev pub if_some : {A B : Type 0} → (A → B → B) → Option A → B → B
if_some f None b = b
if_some f (Some a) b = f a b

-- a card put at an end of a location
abbrev pub put : Shape → End → ℕ → ℕ → Table → Table
put shape top id loc = put_top shape id loc
put shape bottom id loc = put_bottom shape id loc

-- a card value moved to an end of a location: a card is put there, and a reference doesn't move
abbrev pub move_card : Shape → End → ℕ → Table → CardValue → Table
move_card shape end loc table (held id) = put shape end id loc table
move_card shape end loc table (noted from id) = table

-- one more reference at an end of a location
abbrev pub note : Shape → End → ℕ → ℕ → Table → Table
note shape top id loc = remember_top shape id loc
note shape bottom id loc = remember_bottom shape id loc

-- a reference's like out of the location in which it was read; of a card there is nothing to forget
abbrev pub forget_card : Shape → CardValue → Table → Table
forget_card shape (held id) table = table
forget_card shape (noted loc id) table = forget_in shape id loc table

-- whether a seat is among these: the player, or a member of the team
abbrev pub is_named : Shape → Class → ℕ → ℕ → Bool
is_named shape game_class owner seat = false
is_named shape player_class owner seat = owner == seat
is_named shape team_class owner seat = owner == team_at shape seat

-- the marks of a card, and of these seats those that don't see its location
abbrev pub joined : Shape → (ℕ → Bool) → ℕ → List ℕ → List ℕ
joined shape named loc seats =
    filter (λ seat. list_any (λ other. other == seat) seats || (named seat && not (sees shape seat loc)))
    (below shape.players)

-- A card is shown to these seats; of a reference nothing is shown.
abbrev pub show_card : Shape → (ℕ → Bool) → Table → CardValue → Table
show_card shape named table (held id) =
    set_marks id (joined shape named (loc_of shape table id) (marks_of table.marks id)) table
show_card shape named table (noted from id) = table

-- the innermost stage of the class has this member named, whoever was named before
abbrev pub with_named : ℕ → Frame → Frame
with_named member frame = record { stage = frame.stage; member = frame.member; back = frame.back; named = Some member }

abbrev pub named_next : Sheet → Class → ℕ → List Frame → List Frame
named_next sheet class member frames =
    at_innermost (λ frame. is_stage_of sheet class frame.stage) (with_named member) frames

-- the innermost stage, of whatever class, goes the other way round
abbrev pub turned_back : Frame → Frame
turned_back frame = record { stage = frame.stage; member = frame.member; back = not frame.back; named = frame.named }

abbrev pub turned : List Frame → List Frame
turned frames = at_innermost (λ frame. true) turned_back frames

-- how often effects are repeated: within 0 and a limit
abbrev pub times : ℤ → ℕ
times (pos n) = min most_times n
times (negsuc n) = 0

-- so many times
abbrev pub again : {A : Type 0} → ℕ → (A → A) → A → A
again zero f a = a
again (suc n) f a = again n f (f a)

-- a number set by what it is and a value
abbrev pub change : (ℤ → ℤ → ℤ) → ℤ → ℕ → Table → Table
change by value num table = set_number num (clamped (by (number_at table num) value)) table

-- a location's list permuted
abbrev pub shuffled : {S : Type 0} → Dealing S → ℕ → Point S → Point S
shuffled dealing loc now =
    let size = length (list_at now.table loc) in
    record {
      table = reorder loc (dealing.order now.dealer size) now.table;
      frames = now.frames;
      dealer = dealing.next now.dealer size;
    }

module _ {S : Type 0} (about : About) (dealing : Dealing S) where
  abbrev mutual
    pub does_one : Vars → Effect → Point S → Point S
    does_one vars (move card end loc) now =
        let scene = scene_now about now in
        with_table now
        (if_some (λ at. if_some (λ c table. move_card about.shape end at table c) (card_value scene vars card))
        (loc_place scene.known vars loc) now.table)
    does_one vars (move_all cards end loc) now =
        let scene = scene_now about now in
        with_table now
        (if_some (λ at table. fold (move_card about.shape end at) table (coll_value scene vars cards))
        (loc_place scene.known vars loc) now.table)
    does_one vars (remember card end loc) now =
        let scene = scene_now about now in
        with_table now
        (if_some (λ at. if_some (λ c. note about.shape end (id_of c) at) (card_value scene vars card))
        (loc_place scene.known vars loc) now.table)
    does_one vars (forget card) now =
        with_table now (if_some (forget_card about.shape) (card_value (scene_now about now) vars card) now.table)
    does_one vars (shuffle loc) now = if_some (shuffled dealing) (loc_place (scene_now about now).known vars loc) now
    does_one vars (set_to num value) now =
        let scene = scene_now about now in
        with_table now
        (if_some (change (λ old new. new) (int_value scene vars value)) (num_place scene.known vars num) now.table)
    does_one vars (increase num value) now =
        let scene = scene_now about now in
        with_table now (if_some (change ◌+ℤ◌ (int_value scene vars value)) (num_place scene.known vars num) now.table)
    does_one vars (decrease num value) now =
        let scene = scene_now about now in
        with_table now (if_some (change ◌-ℤ◌ (int_value scene vars value)) (num_place scene.known vars num) now.table)
    does_one vars (when t effects) now =
        let after = does vars effects now in if test_value (scene_now about now) vars t then after else now
    does_one vars (repeat count effects) now =
        again (times (int_value (scene_now about now) vars count)) (does vars effects) now
    does_one vars (for_each domain bound effects) now =
        fold (λ mid member. does (vars ++ member ∷ []) effects mid) now (members (scene_now about now) vars domain)
    does_one vars (next_is who) now =
        let scene = scene_now about now in
        at_frames now (named_next about.sheet (class_of who) (who_value scene.known vars who) now.frames)
    does_one vars turn_round now = at_frames now (turned now.frames)
    does_one vars (peek cards who) now =
        let scene = scene_now about now in
        with_table now
        (fold (show_card about.shape (is_named about.shape (class_of who) (who_value scene.known vars who)))
        now.table (coll_value scene vars cards))

    pub does : Vars → Effects → Point S → Point S
    does vars no_effect now = now
    does vars (effect e effects) now = does vars effects (does_one vars e now)
