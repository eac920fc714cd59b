use Rattle.std.proofs.Common.{◌≤◌, map, slice_get, sym, ap, subst, ◌∙◌}
use Rattle.std.specs.Prelude.{IfSome}
use Rattle.rc_base.specs.Limits.{most_locations}
use Rattle.rc_sheet_spec.specs.Sheet.{LocName, NumName, player_class}
use Rattle.rc_ast.specs.Sheet.{sheet_seen}
use Rattle.rc_rules.specs.Lookup.{place_in}
use Rattle.rc_rules.proofs.Ranges.{place_is}
use Rattle.rc_value.specs.Comparing.{place_held}
use Rattle.rc_value.specs.Scene.{scene_seen}
use Rattle.rc_value.proofs.OwnLemmas.{few_places}
use Rattle.rc_value.proofs.comparing.first_place.Goals as goal

pub returns-in-Number-clause-place : goal.returns-in-Number-clause-place
unfolding scene_seen
returns-in-Number-clause-place c =
    let sheet = sheet_seen c.args.scene.now.sheet.now in
    c.number.ensures
    ∙ ap (λ xs. place_in player_class 0 (slice_get xs c.in-Number.name)) c.args.scene.now.looked_up.nums
    ∙ place_is sheet player_class (map (λ (num : NumName). num.class) sheet.nums) c.in-Number.name 0
    ∙ ap (λ own. place_held sheet own 0) (sym c.in-Number.is)

pub returns-in-Number-clause-few : goal.returns-in-Number-clause-few
returns-in-Number-clause-few c =
    let sheet = sheet_seen c.args.scene.now.sheet.now in
    let is =
    c.number.ensures
    ∙ ap (λ xs. place_in player_class 0 (slice_get xs c.in-Number.name)) c.args.scene.now.looked_up.nums
    ∙ place_is sheet player_class (map (λ (num : NumName). num.class) sheet.nums) c.in-Number.name 0
    in
    subst (λ place. IfSome place (λ at. at ≤ most_locations)) (sym is)
    (few_places (λ (num : NumName). num.class) sheet player_class 0 sheet.nums c.in-Number.name most_locations
    c.args.scene.now.readable.numbers)

pub returns-in-Size-clause-place : goal.returns-in-Size-clause-place
unfolding scene_seen
returns-in-Size-clause-place c =
    let sheet = sheet_seen c.args.scene.now.sheet.now in
    c.location.ensures
    ∙ ap (λ xs. place_in player_class 0 (slice_get xs c.in-Size.name)) c.args.scene.now.looked_up.locs
    ∙ place_is sheet player_class (map (λ (loc : LocName). loc.class) sheet.locs) c.in-Size.name 0
    ∙ ap (λ own. place_held sheet own 0) (sym c.in-Size.is)

pub returns-in-Size-clause-few : goal.returns-in-Size-clause-few
returns-in-Size-clause-few c =
    let sheet = sheet_seen c.args.scene.now.sheet.now in
    let is =
    c.location.ensures
    ∙ ap (λ xs. place_in player_class 0 (slice_get xs c.in-Size.name)) c.args.scene.now.looked_up.locs
    ∙ place_is sheet player_class (map (λ (loc : LocName). loc.class) sheet.locs) c.in-Size.name 0
    in
    subst (λ place. IfSome place (λ at. at ≤ most_locations)) (sym is)
    (few_places (λ (loc : LocName). loc.class) sheet player_class 0 sheet.locs c.in-Size.name most_locations
    c.args.scene.now.readable.locations)
