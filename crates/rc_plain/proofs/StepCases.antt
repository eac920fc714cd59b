-- What a step and a choice lead to, case by case, where the item is known to which the path of a machine leads.
use Rattle.std.proofs.Common.{◌≡◌, ℕ, ◌≤◌, ◌<◌, nat_le, true, false, List, [], ◌∷◌, length, Some, refl, sym, ap, ◌∙◌, arith}
use Rattle.std.proofs.lemmas.Bool.{cond-true, cond-false, le-leb, lt-leb}
use Rattle.std.proofs.lemmas.List.{nil_from_length}
use Rattle.rc_sheet_spec.specs.Sheet.{Effects, do_item, stage, choice, Alt, Class, Test, SheetItem, SheetItems}
use Rattle.rc_sheet_spec.specs.Lists.{item_list}
use Rattle.rc_sheet_spec.specs.WellFormed.{owner_count}
use Rattle.rc_play_spec.specs.Control.{Control, Frame}
use Rattle.rc_play_spec.specs.Owners.{mover}
use Rattle.rc_play_spec.specs.Table.{Table}
use Rattle.rc_play_spec.specs.About.{scene_at}
use Rattle.rc_play_spec.specs.Value.{test_value}
use Rattle.rc_play_spec.specs.Menu.{Item, menu_from}
use Rattle.rc_play_spec.specs.Effects.{Dealing, Point, does}
use Rattle.rc_play_spec.specs.Step.{Stage, Part, todo, round, Next, goes, stops, is_limit, is_done, decide, with_site, with_frames, at_menu, first_step, step, behind, opened, closed, passed, one_turn_more, at_round}
use Rattle.rc_play_spec.specs.Decision.{chosen_point, choose_first, choose, with_choice}
use Rattle.rc_play_spec.specs.Path.{Path, stage_in, left_of, past, at_mark, into, body_at}
use Rattle.rc_play_spec.proofs.PathLemmas.{left-item, left-round, left-into, turn_left, end_left}
use Rattle.rc_plain.specs.Paths.{item_at, Leaves}
use Rattle.rc_plain.specs.Plain.{Plain, config_of}

-- the same machine elsewhere
abbrev pub moved : Plain → Path → Table → Control → Plain
moved m path table control = record { about = m.about; path = path; table = table; control = control }

module _ (m : Plain) (dealing : Dealing ℕ) (k : ℕ) where
  abbrev items : List SheetItem
  items = item_list m.about.sheet.items

  abbrev rest : List Part
  rest = left_of items (past m.path)

  abbrev from : List Part → Next ℕ
  from left = first_step m.about dealing k left m.table m.control

  pub do_leads : (effects : Effects) (point : Point ℕ) → m.path.at_round ≡ false → item_at m.about.sheet m.path ≡ Some (do_item effects) →
      does m.about dealing [] effects (record { table = m.table; frames = m.control.frames; dealer = k }) ≡ point →
      step m.about dealing k (config_of m) ≡ goes point.dealer (config_of (moved m (past m.path) point.table (with_frames m.control point.frames)))
  do_leads effects point here is done =
      ap from (left-item items m.path (do_item effects) here is)
      ∙ ap (λ (p : Point ℕ). goes p.dealer (behind m.about dealing rest m.control p)) done

  pub open_leads : (number : ℕ) (class : Class) (end : Test) (body : SheetItems) (frames : List Frame) → m.path.at_round ≡ false →
      item_at m.about.sheet m.path ≡ Some (stage number class end body) →
      opened m.about.sheet (record { number = number; class = class; end = end; body = body }) m.control.frames ≡ frames →
      step m.about dealing k (config_of m) ≡ goes k (config_of (moved m (at_mark m.path) m.table (with_frames m.control frames)))
  open_leads number class end body frames here is opens =
      let s : Stage = record { number = number; class = class; end = end; body = body } in
      ap from (left-item items m.path (stage number class end body) here is)
      ∙ ap (λ fs. goes k (record { left = round s ∷ rest; table = m.table; control = with_frames m.control fs })) opens
      ∙ ap (λ left. goes k (record { left = left; table = m.table; control = with_frames m.control frames }))
      (sym (left-round items (at_mark m.path) s refl (ap stage_in is)))

  pub close_leads : (s : Stage) (frames : List Frame) → m.path.at_round ≡ true → stage_in (item_at m.about.sheet m.path) ≡ Some s →
      test_value (scene_at m.about m.table m.control.frames) [] s.end ≡ true → closed m.control.frames ≡ frames →
      step m.about dealing k (config_of m) ≡ goes k (config_of (moved m (past m.path) m.table (with_frames m.control frames)))
  close_leads s frames here is ends closes =
      ap from (left-round items m.path s here is)
      ∙ ap (at_round m.about dealing k s rest m.table m.control) ends
      ∙ ap (λ fs. goes k (record { left = rest; table = m.table; control = with_frames m.control fs })) closes

  pub round_leads : (s : Stage) → m.path.at_round ≡ true → stage_in (item_at m.about.sheet m.path) ≡ Some s →
      test_value (scene_at m.about m.table m.control.frames) [] s.end ≡ false → m.control.turn < m.about.turns →
      step m.about dealing k (config_of m) ≡ goes k (config_of (moved m (into m.path) m.table (one_turn_more m.control)))
  round_leads s here is ends below =
      ap from (left-round items m.path s here is)
      ∙ ap (at_round m.about dealing k s rest m.table m.control) ends
      ∙ cond-false (nat_le m.about.turns m.control.turn) _ _ (lt-leb _ _ below)
      ∙ ap (λ left. goes k (record { left = left; table = m.table; control = one_turn_more m.control })) (sym (left-into items m.path s is))

  pub turn_leads : (s : Stage) (path : Path) (frames : List Frame) → m.path.at_round ≡ false → Leaves m.path path true →
      stage_in (item_at m.about.sheet path) ≡ Some s → length (body_at items m.path.outer) ≤ m.path.next →
      passed (owner_count m.about.sheet s.class) m.control.frames ≡ frames →
      step m.about dealing k (config_of m) ≡ goes k (config_of (moved m path m.table (with_frames m.control frames)))
  turn_leads s path frames here leaves is end passes =
      ap from (turn_left items m.path.outer path.outer path.next m.path.next m.path.at_round s leaves.0 here is end)
      ∙ ap (λ fs. goes k (record { left = left_of items (record { outer = path.outer; next = path.next; at_round = true }); table = m.table; control = with_frames m.control fs })) passes
      ∙ ap (λ b. goes k (record { left = left_of items (record { outer = path.outer; next = path.next; at_round = b }); table = m.table; control = with_frames m.control frames })) (sym leaves.1)

  pub end_leads : (path : Path) → m.path.at_round ≡ false → Leaves m.path path false → length (body_at items m.path.outer) ≤ m.path.next →
      step m.about dealing k (config_of m) ≡ stops is_done (config_of (moved m path m.table m.control))
  end_leads path here leaves end =
      let none = end_left items m.path.outer m.path.next m.path.at_round leaves.0 here end in
      ap from none
      ∙ ap (λ left. stops is_done (record { left = left; table = m.table; control = m.control })) (sym none)
      ∙ ap (λ p. stops is_done (config_of (moved m p m.table m.control))) (sym leaves.1)

  -- AT A CHOICE

  abbrev menu : List Alt → List Item
  menu alts = menu_from (scene_at m.about m.table m.control.frames) alts

  pub skip_leads : (site : ℕ) (alts : List Alt) → m.path.at_round ≡ false → item_at m.about.sheet m.path ≡ Some (choice site alts) →
      length (menu alts) ≡ 0 → step m.about dealing k (config_of m) ≡ goes k (config_of (moved m (past m.path) m.table m.control))
  skip_leads site alts here is none =
      ap from (left-item items m.path (choice site alts) here is)
      ∙ ap (at_menu m.about dealing k site alts rest m.table m.control) (nil_from_length (menu alts) none)

  menu_full : (site : ℕ) (alts : List Alt) (offered : List Item) → 0 < length offered → nat_le m.about.turns m.control.turn ≡ true →
      at_menu m.about dealing k site alts rest m.table m.control offered
      ≡ stops is_limit (record { left = todo (choice site alts) ∷ rest; table = m.table; control = m.control })
  menu_full site alts [] some over = absurd (omega (arith, some))
  menu_full site alts (first ∷ offered) some over = cond-true (nat_le m.about.turns m.control.turn) _ _ over

  menu_decides : (site : ℕ) (alts : List Alt) (offered : List Item) → 0 < length offered → nat_le m.about.turns m.control.turn ≡ false →
      at_menu m.about dealing k site alts rest m.table m.control offered
      ≡ stops (decide (mover m.about.sheet m.control.frames) site)
      (record { left = todo (choice site alts) ∷ rest; table = m.table; control = with_site m.control (Some site) })
  menu_decides site alts [] some below = absurd (omega (arith, some))
  menu_decides site alts (first ∷ offered) some below = cond-false (nat_le m.about.turns m.control.turn) _ _ below

  pub full_leads : (site : ℕ) (alts : List Alt) → m.path.at_round ≡ false → item_at m.about.sheet m.path ≡ Some (choice site alts) →
      0 < length (menu alts) → m.about.turns ≤ m.control.turn → step m.about dealing k (config_of m) ≡ stops is_limit (config_of m)
  full_leads site alts here is some over =
      let first = left-item items m.path (choice site alts) here is in
      ap from first
      ∙ menu_full site alts (menu alts) some (le-leb _ _ over)
      ∙ ap (λ left. stops is_limit (record { left = left; table = m.table; control = m.control })) (sym first)

  pub decide_leads : (site seat : ℕ) (alts : List Alt) → m.path.at_round ≡ false → item_at m.about.sheet m.path ≡ Some (choice site alts) →
      0 < length (menu alts) → m.control.turn < m.about.turns → seat ≡ mover m.about.sheet m.control.frames →
      step m.about dealing k (config_of m) ≡ stops (decide seat site) (config_of (moved m m.path m.table (with_site m.control (Some site))))
  decide_leads site seat alts here is some below moves =
      let first = left-item items m.path (choice site alts) here is in
      ap from first
      ∙ menu_decides site alts (menu alts) some (lt-leb _ _ below)
      ∙ ap (λ s. stops (decide s site) (record { left = todo (choice site alts) ∷ rest; table = m.table; control = with_site m.control (Some site) })) (sym moves)
      ∙ ap (λ left. stops (decide seat site) (record { left = left; table = m.table; control = with_site m.control (Some site) })) (sym first)

  pub choose_leads : (x site seat : ℕ) (alts : List Alt) (point : Point ℕ) → m.path.at_round ≡ false → item_at m.about.sheet m.path ≡ Some (choice site alts) →
      chosen_point m.about dealing x alts m.table m.control.frames k ≡ point → seat ≡ mover m.about.sheet m.control.frames →
      choose m.about dealing k x (config_of m)
      ≡ goes point.dealer (config_of (moved m (past m.path) point.table (with_frames (with_choice seat m.control) point.frames)))
  choose_leads x site seat alts point here is chosen moves =
      ap (λ left. choose_first m.about dealing k x left m.table m.control) (left-item items m.path (choice site alts) here is)
      ∙ ap (λ (p : Point ℕ). goes p.dealer (behind m.about dealing rest (with_choice (mover m.about.sheet m.control.frames) m.control) p)) chosen
      ∙ ap (λ s. goes point.dealer (behind m.about dealing rest (with_choice s m.control) point)) (sym moves)
