use Rattle.std.proofs.Common.{ℕ, map, slice_get, ap, sym, ◌∙◌}
use Rattle.rc_sheet_spec.specs.Sheet.{NumName, game_class, player_class, team_class}
use Rattle.rc_sheet_spec.specs.Naming.{class_of}
use Rattle.rc_play_spec.specs.Owners.{place_among}
use Rattle.rc_play_spec.specs.Value.{who_value}
use Rattle.rc_ast.specs.Names.{who_seen}
use Rattle.rc_ast.specs.Sheet.{sheet_seen}
use Rattle.rc_rules.specs.Lookup.{place_in}
use Rattle.rc_rules.proofs.Ranges.{place_is}
use Rattle.rc_value.specs.Scene.{scene_seen}
use Rattle.rc_value.proofs.Owners.{is_team}
use Rattle.rc_value.proofs.lookup.num_at.Goals as goal

pub returns-in-Game : goal.returns-in-Game
unfolding scene_seen
returns-in-Game c =
    let scene = c.args.scene.now in
    let sheet = sheet_seen scene.sheet.now in
    let classes = map (λ (name : NumName). name.class) sheet.nums in
    let name = c.args.num.now.name in
    let owner : ℕ = 0 in
    c.number.ensures
    ∙ ap (λ places. place_in game_class owner (slice_get places name)) scene.looked_up.nums
    ∙ place_is sheet game_class classes name owner
    ∙ sym (ap (λ who. place_among sheet (class_of (who_seen who)) classes name
    (who_value (scene_seen scene).known c.args.scope.now (who_seen who))) c.in-Game.is)

pub returns-in-CurrentPlayer : goal.returns-in-CurrentPlayer
unfolding scene_seen
returns-in-CurrentPlayer c =
    let scene = c.args.scene.now in
    let sheet = sheet_seen scene.sheet.now in
    let classes = map (λ (name : NumName). name.class) sheet.nums in
    let name = c.args.num.now.name in
    let owner = scene.current.player in
    c.number-in-CurrentPlayer.ensures
    ∙ ap (λ places. place_in player_class owner (slice_get places name)) scene.looked_up.nums
    ∙ place_is sheet player_class classes name owner
    ∙ ap (place_among sheet player_class classes name) scene.current_is.0
    ∙ sym (ap (λ who. place_among sheet (class_of (who_seen who)) classes name
    (who_value (scene_seen scene).known c.args.scope.now (who_seen who))) c.in-CurrentPlayer.is)

pub returns-in-Var : goal.returns-in-Var
unfolding scene_seen
returns-in-Var c =
    let scene = c.args.scene.now in
    let sheet = sheet_seen scene.sheet.now in
    let classes = map (λ (name : NumName). name.class) sheet.nums in
    let name = c.args.num.now.name in
    let owner = c.player.result in
    c.number-in-Var.ensures
    ∙ ap (λ places. place_in player_class owner (slice_get places name)) scene.looked_up.nums
    ∙ place_is sheet player_class classes name owner
    ∙ ap (place_among sheet player_class classes name) c.player.ensures
    ∙ sym (ap (λ who. place_among sheet (class_of (who_seen who)) classes name
    (who_value (scene_seen scene).known c.args.scope.now (who_seen who))) c.in-Var.is)

pub returns-in_default : goal.returns-in_default
unfolding scene_seen
returns-in_default c =
    let scene = c.args.scene.now in
    let sheet = sheet_seen scene.sheet.now in
    let classes = map (λ (name : NumName). name.class) sheet.nums in
    let name = c.args.num.now.name in
    let owner = c.who_of.result in
    c.number-in_default.ensures
    ∙ ap (λ places. place_in team_class owner (slice_get places name)) scene.looked_up.nums
    ∙ place_is sheet team_class classes name owner
    ∙ ap (place_among sheet team_class classes name) c.who_of.ensures
    ∙ ap (λ class. place_among sheet class classes name
    (who_value (scene_seen scene).known c.args.scope.now (who_seen c.args.num.now.who)))
    (sym (is_team c.args.num.now.who c.in_default.not-Game c.in_default.not-CurrentPlayer c.in_default.not-Var))
