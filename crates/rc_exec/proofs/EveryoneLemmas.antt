-- Changing a number at each player's turn, and gathering the cards of a location of each, is what the effect does for
-- one player after the other.
use Rattle.std.proofs.Common.{◌≡◌, ◌≢◌, ℕ, zero, suc, ◌<◌, List, []}
use Rattle.std.proofs.Common.{◌∷◌, ◌++◌, length, map, slice_get, Option, Some, None, refl, sym, ap, ◌∙◌}
use Rattle.std.proofs.Common.{arith}
use Rattle.std.specs.Prelude.{fold}
use Rattle.std.specs.List.{AllByRecursion}
use Rattle.rc_base.specs.Numbers.{below}
use Rattle.rc_sheet_spec.specs.Sheet.{Effects, effect, no_effect, Who, game}
use Rattle.rc_sheet_spec.specs.Sheet.{current_player, current_team, team_of_current, team_of_var, who_var, Loc, LocName}
use Rattle.rc_sheet_spec.specs.Sheet.{Num, IntExpr, player_class}
use Rattle.rc_sheet_spec.specs.Naming.{class_of}
use Rattle.rc_play_spec.specs.About.{About, scene_at}
use Rattle.rc_play_spec.specs.Control.{Frame}
use Rattle.rc_play_spec.specs.Owners.{place_among}
use Rattle.rc_play_spec.specs.Scene.{CardValue, Vars}
use Rattle.rc_play_spec.specs.Shape.{team_at}
use Rattle.rc_play_spec.specs.Table.{Table}
use Rattle.rc_play_spec.specs.Value.{Bind, player_bound, player_of, who_value, loc_place, num_place, int_value}
use Rattle.rc_play_spec.specs.Value.{cards_there, cut}
use Rattle.rc_play_spec.specs.Effects.{Dealing, Point, scene_now, with_table, if_some, does}
use Rattle.rc_play_spec.proofs.CardLemmas.{numbers_below}
use Rattle.rc_play_spec.proofs.OnePlace.{innermost_player}
use Rattle.rc_value.specs.Leads.{effect_by}
use Rattle.rc_value.specs.declared.change.Change.{Change}
use Rattle.rc_undo.specs.Piled.{topped, piled}
use Rattle.rc_exec.specs.Everyone.{AreTurns, place_of, value_of, IsPlaceOf, IsValueOf, change_for, gathering}
use Rattle.rc_exec.specs.Everyone.{IsApart, location_of, gather_for}
use Rattle.rc_exec.specs.declared.changes.EachPlace.{EachPlace}
use Rattle.rc_exec.specs.declared.changes.EachValue.{EachValue}
use Rattle.rc_exec.proofs.NumberLemmas.{number_leads}

-- TURNS

module _ (about : About) (dealing : Dealing ℕ) (vars : Vars) (frames : List Frame) (effects : Effects)
    (step : Table → Bind CardValue → Table) (are : AreTurns about vars frames effects step) where
  abbrev by_effects : Point ℕ → Bind CardValue → Point ℕ
  by_effects mid member = does about dealing (vars ++ member ∷ []) effects mid

  turns_of : (players : List ℕ) → AllByRecursion (λ p. p < about.sheet.players) players →
      (now : Point ℕ) → now.frames ≡ frames →
      fold by_effects now (map (λ n. player_bound n) players)
      ≡ with_table now (fold step now.table (map (λ n. player_bound n) players))
  turns_of [] few now same = refl
  turns_of (player ∷ players) few now same =
      ap (λ mid. fold by_effects mid (map (λ n. player_bound n) players)) (are dealing player few.0 now same)
      ∙ turns_of players few.1 (with_table now (step now.table (player_bound player))) same

  pub all_turns : (now : Point ℕ) → now.frames ≡ frames →
      fold by_effects now (map (λ n. player_bound n) (below about.sheet.players))
      ≡ with_table now (fold step now.table (map (λ n. player_bound n) (below about.sheet.players)))
  all_turns =
      let players = about.sheet.players in
      turns_of (below players) (numbers_below 0 players players (omega arith))

-- NUMBERS

module _ (about : About) (vars : Vars) (frames : List Frame) (how : Change) (num : Num) (expr : IntExpr)
    (place : EachPlace) (value : EachValue)
    (at : IsPlaceOf about vars frames num place) (by : IsValueOf about vars frames expr value) where
  abbrev step_by : Table → Bind CardValue → Table
  step_by = change_for (record { how = how; place = place; value = value })

  pub change_turns : AreTurns about vars frames (effect (effect_by how num expr) no_effect) step_by
  change_turns dealing player lt now same =
      let inner = vars ++ player_bound player ∷ [] in
      number_leads about dealing inner num expr now how
      (place_of place player) (value_of now.table.numbers value player) (step_by now.table (player_bound player))
      (ap (λ stages. num_place (scene_at about now.table stages).known inner num) same ∙ at player lt now.table)
      (sym (ap (λ stages. int_value (scene_at about now.table stages) inner expr) same ∙ by player lt now.table))
      refl

-- CARDS

-- another variable stands for what it did
other_var : (vars : Vars) (member : Bind CardValue) (var : ℕ) → var ≢ length vars → slice_get (vars ++ member ∷ []) var ≡ slice_get vars var
other_var [] member zero apart = absurd (apart refl)
other_var [] member (suc var) apart = refl
other_var (bind ∷ vars) member zero apart = refl
other_var (bind ∷ vars) member (suc var) apart = other_var vars member var (λ same. apart (omega (arith, same)))

module _ (about : About) (vars : Vars) (frames : List Frame) (t t' : Table) (member : Bind CardValue) where
  same_owner : (who : Who) → IsApart (length vars) who →
      who_value (scene_at about t frames).known (vars ++ member ∷ []) who ≡ who_value (scene_at about t' frames).known vars who
  same_owner game apart = refl
  same_owner current_player apart = refl
  same_owner current_team apart = refl
  same_owner team_of_current apart = refl
  same_owner (team_of_var var) apart = ap (λ bind. team_at about.shape (player_of bind)) (other_var vars member var apart)
  same_owner (who_var var) apart = ap player_of (other_var vars member var apart)

  -- and so a location whose owner isn't found by the innermost variable is the same one
  same_place : (loc : Loc) → IsApart (length vars) loc.who →
      loc_place (scene_at about t frames).known (vars ++ member ∷ []) loc ≡ loc_place (scene_at about t' frames).known vars loc
  same_place loc apart =
      ap (place_among about.sheet (class_of loc.who) (map (λ (l : LocName). l.class) about.sheet.locs) loc.name) (same_owner loc.who apart)

module _ (about : About) (dealing : Dealing ℕ) (vars : Vars) (from to : Loc) (of : from.who ≡ who_var (length vars)) (apart : IsApart (length vars) to.who) where
  abbrev by_gathering : Effects → Point ℕ → Bind CardValue → Point ℕ
  by_gathering effects mid member = does about dealing (vars ++ member ∷ []) effects mid

  abbrev gather_one : Effects
  gather_one = effect (gathering from to) no_effect

  -- where the cards go, as it was found in a table with these stages
  abbrev goes_to : Table → List Frame → Option ℕ
  goes_to t frames = loc_place (scene_at about t frames).known vars to

  abbrev gather : Option ℕ → List (Bind CardValue) → Table → Table
  gather place members table = if_some (λ at table. fold (gather_for about.sheet about.shape from.name at) table members) place table

  from_place : (now : Point ℕ) (player : ℕ) →
      loc_place (scene_now about now).known (vars ++ player_bound player ∷ []) from ≡ location_of about.sheet from.name player
  from_place now player =
      ap (λ who. place_among about.sheet (class_of who) (map (λ (l : LocName). l.class) about.sheet.locs) from.name
      (who_value (scene_now about now).known (vars ++ player_bound player ∷ []) who)) of
      ∙ ap (place_among about.sheet player_class (map (λ (l : LocName). l.class) about.sheet.locs) from.name) (innermost_player vars player)

  cards_are : (place loc : Option ℕ) (now : Point ℕ) →
      if_some (λ at table. topped about.shape at table (cut (cards_there (scene_now about now) loc))) place now.table
      ≡ if_some (λ at table. if_some (piled about.shape at) loc table) place now.table
  cards_are None loc now = refl
  cards_are (Some at) None now = refl
  cards_are (Some at) (Some l) now = refl

  one_gathered : (place : Option ℕ) (t : Table) (player : ℕ) (now : Point ℕ) → goes_to t now.frames ≡ place →
      by_gathering gather_one now (player_bound player) ≡ with_table now (gather place (player_bound player ∷ []) now.table)
  one_gathered place t player now is =
      let inner = vars ++ player_bound player ∷ [] in
      let scene = scene_now about now in
      ap (λ p. with_table now (if_some (λ at table. topped about.shape at table (cut (cards_there scene (loc_place scene.known inner from)))) p now.table))
      (same_place about vars now.frames now.table t (player_bound player) to apart ∙ is)
      ∙ ap (λ p. with_table now (if_some (λ at table. topped about.shape at table (cut (cards_there scene p))) place now.table)) (from_place now player)
      ∙ ap (with_table now) (cards_are place (location_of about.sheet from.name player) now)

  all_gathered : (place : Option ℕ) (t : Table) (players : List ℕ) (now : Point ℕ) → goes_to t now.frames ≡ place →
      fold (by_gathering gather_one) now (map (λ n. player_bound n) players)
      ≡ with_table now (gather place (map (λ n. player_bound n) players) now.table)
  all_gathered None t [] now is = refl
  all_gathered (Some at) t [] now is = refl
  all_gathered None t (player ∷ players) now is =
      ap (λ mid. fold (by_gathering gather_one) mid (map (λ n. player_bound n) players)) (one_gathered None t player now is)
      ∙ all_gathered None t players (with_table now now.table) is
  all_gathered (Some at) t (player ∷ players) now is =
      ap (λ mid. fold (by_gathering gather_one) mid (map (λ n. player_bound n) players)) (one_gathered (Some at) t player now is)
      ∙ all_gathered (Some at) t players (with_table now (gather_for about.sheet about.shape from.name at now.table (player_bound player))) is

  pub gather_each : (effects : Effects) (players : List ℕ) (now : Point ℕ) → effects ≡ gather_one →
      fold (by_gathering effects) now (map (λ n. player_bound n) players)
      ≡ with_table now (gather (goes_to now.table now.frames) (map (λ n. player_bound n) players) now.table)
  gather_each effects players now is =
      ap (λ effects. fold (by_gathering effects) now (map (λ n. player_bound n) players)) is
      ∙ all_gathered (goes_to now.table now.frames) now.table players now refl
