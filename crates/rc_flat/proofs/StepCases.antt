-- What a step and a choice lead to, case by case, where the instruction is known that is next.
use Rattle.std.proofs.Common.{◌≡◌, ℕ, ◌+◌, ◌≤◌, ◌<◌, nat_le, true, false, List, [], ◌∷◌, ◌++◌, length, take, drop, reverse, slice_get, Some, refl, sym, ap, ◌∙◌, arith}
use Rattle.std.proofs.lemmas.Bool.{cond-true, cond-false, le-leb, lt-leb}
use Rattle.std.proofs.lemmas.List.{nil_from_length}
use Rattle.rc_sheet_spec.specs.Sheet.{choice, Alt, Class, Test}
use Rattle.rc_sheet_spec.specs.WellFormed.{owner_count}
use Rattle.rc_play_spec.specs.Control.{Control, Frame}
use Rattle.rc_play_spec.specs.Owners.{mover}
use Rattle.rc_play_spec.specs.Table.{Table}
use Rattle.rc_play_spec.specs.About.{scene_at}
use Rattle.rc_play_spec.specs.Value.{test_value}
use Rattle.rc_play_spec.specs.Menu.{Item, menu_from}
use Rattle.rc_play_spec.specs.Effects.{Dealing, Point, does}
use Rattle.rc_play_spec.specs.Step.{Stage, Part, todo, round, turn, todos, Next, goes, stops, is_limit, decide, with_site, with_frames, at_menu, first_step, step, behind, opened, closed, passed, one_turn_more, at_round}
use Rattle.rc_play_spec.specs.Decision.{chosen_point, choose_first, choose, with_choice}
use Rattle.rc_play_spec.specs.Path.{Path}
use Rattle.rc_code.specs.Instruction.{Block, do_all, begin_stage, offer}
use Rattle.rc_code.specs.Meaning.{effects_in, items_in, items_from, stage_at, behind_at, left_behind, left_in}
use Rattle.rc_code.proofs.LeftLemmas.{left_do, left_choice, left_stage, left_opened, left_turn, left_round, left_from, left_body, stage_there, behind_there}
use Rattle.rc_flat.specs.Places.{went_to, at_round_of, opened_at, closed_to, but_last}
use Rattle.rc_flat.specs.Flat.{Flat, config_of}

-- the same machine elsewhere
abbrev pub moved : Flat → Path → Table → Control → Flat
moved m place table control = record { about = m.about; code = m.code; place = place; table = table; control = control }

pub but_last-append : (outer : List ℕ) (n : ℕ) → but_last (outer ++ n ∷ []) ≡ outer
but_last-append [] n = refl
but_last-append (m ∷ []) n = refl
but_last-append (m ∷ k ∷ outer) n = ap (λ more. m ∷ more) (but_last-append (k ∷ outer) n)

module _ (m : Flat) (dealing : Dealing ℕ) (k : ℕ) where
  abbrev from : List Part → Next ℕ
  from left = first_step m.about dealing k left m.table m.control

  -- with this left to run
  abbrev left_with : List Part → Table → Control → Next ℕ
  left_with left table control = goes k (record { left = left; table = table; control = control })

  pub do_leads : (inside next : ℕ) (point : Point ℕ) → m.place.at_round ≡ false → slice_get m.code m.place.next ≡ Some (do_all inside) →
      drop next m.code ≡ drop (m.place.next + 1 + inside) m.code →
      does m.about dealing [] (effects_in (take inside (drop (m.place.next + 1) m.code))) (record { table = m.table; frames = m.control.frames; dealer = k }) ≡ point →
      step m.about dealing k (config_of m)
      ≡ goes point.dealer (config_of (moved m (went_to next m.place) point.table (with_frames m.control point.frames)))
  do_leads inside next point here is on done =
      let rest = todos (items_from (drop (m.place.next + 1 + inside) m.code)) ++ left_behind m.code (reverse m.place.outer) in
      ap from (left_do m.code m.place inside here is)
      ∙ ap (λ (p : Point ℕ). goes p.dealer (behind m.about dealing rest m.control p)) done
      ∙ ap (λ left. goes point.dealer (record { left = left; table = point.table; control = with_frames m.control point.frames }))
      (sym (left_from m.code m.place.outer (m.place.next + 1 + inside) next on))

  pub open_leads : (number : ℕ) (class : Class) (end : Test) (inside : ℕ) (frames : List Frame) → m.place.at_round ≡ false →
      slice_get m.code m.place.next ≡ Some (begin_stage number class end inside) →
      opened m.about.sheet (record { number = number; class = class; end = end; body = items_in (drop (m.place.next + 1) m.code) }) m.control.frames ≡ frames →
      step m.about dealing k (config_of m) ≡ goes k (config_of (moved m (opened_at m.place) m.table (with_frames m.control frames)))
  open_leads number class end inside frames here is opens =
      let s : Stage = record { number = number; class = class; end = end; body = items_in (drop (m.place.next + 1) m.code) } in
      let rest = todos (items_from (drop (m.place.next + 1 + inside) m.code)) ++ left_behind m.code (reverse m.place.outer) in
      ap from (left_stage m.code m.place number class end inside here is)
      ∙ ap (λ fs. left_with (round s ∷ rest) m.table (with_frames m.control fs)) opens
      ∙ ap (λ left. left_with left m.table (with_frames m.control frames)) (sym (left_opened m.code m.place number class end inside m.place.next is))

  -- AT A ROUND

  module _ (outer : List ℕ) (place number : ℕ) (class : Class) (end : Test) (inside : ℕ) (within : m.place.outer ≡ outer ++ place ∷ [])
      (is : slice_get m.code place ≡ Some (begin_stage number class end inside)) where
    abbrev there : Stage
    there = record { number = number; class = class; end = end; body = items_in (drop (place + 1) m.code) }

    abbrev rest : List Part
    rest = todos (items_from (drop (place + 1 + inside) m.code)) ++ left_behind m.code (reverse outer)

    stands : m.place.at_round ≡ true → left_in m.code m.place ≡ round there ∷ rest
    stands here =
        left_round m.code m.place outer place within here
        ∙ ap (λ s. round s ∷ todos (behind_at m.code place) ++ left_behind m.code (reverse outer)) (stage_there m.code place number class end inside is)
        ∙ ap (λ items. round there ∷ todos items ++ left_behind m.code (reverse outer)) (behind_there m.code place number class end inside is)

    pub close_leads : (next : ℕ) (frames : List Frame) → m.place.at_round ≡ true → drop next m.code ≡ drop (place + 1 + inside) m.code →
        test_value (scene_at m.about m.table m.control.frames) [] end ≡ true → closed m.control.frames ≡ frames →
        step m.about dealing k (config_of m) ≡ goes k (config_of (moved m (closed_to next m.place) m.table (with_frames m.control frames)))
    close_leads next frames here on ends closes =
        ap from (stands here)
        ∙ ap (at_round m.about dealing k there rest m.table m.control) ends
        ∙ ap (λ fs. left_with rest m.table (with_frames m.control fs)) closes
        ∙ ap (λ left. left_with left m.table (with_frames m.control frames))
        (sym (ap (λ ns. left_in m.code (record { outer = ns; next = next; at_round = false })) (ap but_last within ∙ but_last-append outer place)
        ∙ left_from m.code outer (place + 1 + inside) next on))

    pub round_leads : m.place.at_round ≡ true → test_value (scene_at m.about m.table m.control.frames) [] end ≡ false → m.control.turn < m.about.turns →
        step m.about dealing k (config_of m) ≡ goes k (config_of (moved m (went_to (place + 1) m.place) m.table (one_turn_more m.control)))
    round_leads here ends below =
        ap from (stands here)
        ∙ ap (at_round m.about dealing k there rest m.table m.control) ends
        ∙ cond-false (nat_le m.about.turns m.control.turn) _ _ (lt-leb _ _ below)
        ∙ ap (λ left. left_with left m.table (one_turn_more m.control))
        (sym (ap (λ ns. left_in m.code (record { outer = ns; next = place + 1; at_round = false })) within
        ∙ left_body m.code outer place (place + 1)
        ∙ ap (λ s. todos (items_from (drop (place + 1) m.code)) ++ (turn s ∷ round s ∷ (todos (behind_at m.code place) ++ left_behind m.code (reverse outer))))
        (stage_there m.code place number class end inside is)
        ∙ ap (λ items. todos (items_from (drop (place + 1) m.code)) ++ (turn there ∷ round there ∷ (todos items ++ left_behind m.code (reverse outer))))
        (behind_there m.code place number class end inside is)))

    pub over_leads : m.place.at_round ≡ true → test_value (scene_at m.about m.table m.control.frames) [] end ≡ false → m.about.turns ≤ m.control.turn →
        step m.about dealing k (config_of m) ≡ stops is_limit (config_of m)
    over_leads here ends over =
        ap from (stands here)
        ∙ ap (at_round m.about dealing k there rest m.table m.control) ends
        ∙ cond-true (nat_le m.about.turns m.control.turn) _ _ (le-leb _ _ over)
        ∙ ap (λ left. stops is_limit (record { left = left; table = m.table; control = m.control })) (sym (stands here))

  -- AT THE END OF A BODY

  pub turn_leads : (outer : List ℕ) (place : ℕ) (frames : List Frame) → m.place.outer ≡ outer ++ place ∷ [] → m.place.at_round ≡ false →
      items_from (drop m.place.next m.code) ≡ [] → passed (owner_count m.about.sheet (stage_at m.code place).class) m.control.frames ≡ frames →
      step m.about dealing k (config_of m) ≡ goes k (config_of (moved m (at_round_of m.place) m.table (with_frames m.control frames)))
  turn_leads outer place frames within here end passes =
      ap from (left_turn m.code m.place outer place within here end)
      ∙ ap (λ fs. left_with (round (stage_at m.code place) ∷ todos (behind_at m.code place) ++ left_behind m.code (reverse outer)) m.table (with_frames m.control fs)) passes
      ∙ ap (λ left. left_with left m.table (with_frames m.control frames)) (sym (left_round m.code (at_round_of m.place) outer place within refl))

  -- AT A CHOICE

  abbrev menu : List Alt → List Item
  menu alts = menu_from (scene_at m.about m.table m.control.frames) alts

  module _ (site : ℕ) (alts : List Alt) (blocks : List Block) (inside : ℕ) (here : m.place.at_round ≡ false)
      (is : slice_get m.code m.place.next ≡ Some (offer site alts blocks inside)) where
    abbrev later : List Part
    later = todos (items_from (drop (m.place.next + 1 + inside) m.code)) ++ left_behind m.code (reverse m.place.outer)

    first : left_in m.code m.place ≡ todo (choice site alts) ∷ later
    first = left_choice m.code m.place site alts blocks inside here is

    pub skip_leads : (next : ℕ) → drop next m.code ≡ drop (m.place.next + 1 + inside) m.code → length (menu alts) ≡ 0 →
        step m.about dealing k (config_of m) ≡ goes k (config_of (moved m (went_to next m.place) m.table m.control))
    skip_leads next on none =
        ap from first
        ∙ ap (at_menu m.about dealing k site alts later m.table m.control) (nil_from_length (menu alts) none)
        ∙ ap (λ left. left_with left m.table m.control) (sym (left_from m.code m.place.outer (m.place.next + 1 + inside) next on))

    menu_full : (offered : List Item) → 0 < length offered → nat_le m.about.turns m.control.turn ≡ true →
        at_menu m.about dealing k site alts later m.table m.control offered
        ≡ stops is_limit (record { left = todo (choice site alts) ∷ later; table = m.table; control = m.control })
    menu_full [] some over = absurd (omega (arith, some))
    menu_full (i ∷ offered) some over = cond-true (nat_le m.about.turns m.control.turn) _ _ over

    menu_decides : (offered : List Item) → 0 < length offered → nat_le m.about.turns m.control.turn ≡ false →
        at_menu m.about dealing k site alts later m.table m.control offered
        ≡ stops (decide (mover m.about.sheet m.control.frames) site)
        (record { left = todo (choice site alts) ∷ later; table = m.table; control = with_site m.control (Some site) })
    menu_decides [] some below = absurd (omega (arith, some))
    menu_decides (i ∷ offered) some below = cond-false (nat_le m.about.turns m.control.turn) _ _ below

    pub full_leads : 0 < length (menu alts) → m.about.turns ≤ m.control.turn → step m.about dealing k (config_of m) ≡ stops is_limit (config_of m)
    full_leads some over =
        ap from first
        ∙ menu_full (menu alts) some (le-leb _ _ over)
        ∙ ap (λ left. stops is_limit (record { left = left; table = m.table; control = m.control })) (sym first)

    pub decide_leads : (seat : ℕ) → 0 < length (menu alts) → m.control.turn < m.about.turns → seat ≡ mover m.about.sheet m.control.frames →
        step m.about dealing k (config_of m) ≡ stops (decide seat site) (config_of (moved m m.place m.table (with_site m.control (Some site))))
    decide_leads seat some below moves =
        ap from first
        ∙ menu_decides (menu alts) some (lt-leb _ _ below)
        ∙ ap (λ s. stops (decide s site) (record { left = todo (choice site alts) ∷ later; table = m.table; control = with_site m.control (Some site) })) (sym moves)
        ∙ ap (λ left. stops (decide seat site) (record { left = left; table = m.table; control = with_site m.control (Some site) })) (sym first)

    pub choose_leads : (x seat next : ℕ) (point : Point ℕ) → drop next m.code ≡ drop (m.place.next + 1 + inside) m.code →
        chosen_point m.about dealing x alts m.table m.control.frames k ≡ point → seat ≡ mover m.about.sheet m.control.frames →
        choose m.about dealing k x (config_of m)
        ≡ goes point.dealer (config_of (moved m (went_to next m.place) point.table (with_frames (with_choice seat m.control) point.frames)))
    choose_leads x seat next point on chosen moves =
        ap (λ left. choose_first m.about dealing k x left m.table m.control) first
        ∙ ap (λ (p : Point ℕ). goes p.dealer (behind m.about dealing later (with_choice (mover m.about.sheet m.control.frames) m.control) p)) chosen
        ∙ ap (λ s. goes point.dealer (behind m.about dealing later (with_choice s m.control) point)) (sym moves)
        ∙ ap (λ left. goes point.dealer (record { left = left; table = point.table; control = with_frames (with_choice seat m.control) point.frames }))
        (sym (left_from m.code m.place.outer (m.place.next + 1 + inside) next on))
