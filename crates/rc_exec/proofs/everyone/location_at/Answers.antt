use Rattle.std.proofs.Common.{map, slice_get, ap, ◌∙◌}
use Rattle.rc_sheet_spec.specs.Sheet.{LocName, player_class}
use Rattle.rc_rules.specs.Lookup.{place_in}
use Rattle.rc_rules.proofs.Ranges.{place_is}
use Rattle.rc_exec.proofs.everyone.location_at.Goals as goal

pub returns : goal.returns
returns c =
    let sheet = c.args.about.now.sheet in
    c.location.ensures
    ∙ ap (λ xs. place_in player_class c.args.player (slice_get xs c.args.name)) c.lookup.ensures.locs
    ∙ place_is sheet player_class (map (λ (name : LocName). name.class) sheet.locs) c.args.name c.args.player
