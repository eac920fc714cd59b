use Rattle.std.proofs.Common.{sym, subst}
use Rattle.rc_ast.specs.Sheet.{sheet_seen}
use Rattle.rc_table.specs.Shape.{IsShape}
use Rattle.rc_rules.proofs.ShapeLemmas.{shaped, parts_same}
use Rattle.rc_rules.proofs.shape.shape_of.Goals as goal

pub new-requires : goal.new-requires
new-requires c =
    let sheet = sheet_seen c.args.sheet.now in
    subst IsShape
    (sym (parts_same sheet c.in_ok-team_of.team_of.items c.in_ok-places.places.items c.number_count.result c.in_ok-faces.faces.items
    c.in_ok-home.home.items c.in_ok-team_of.ensures c.in_ok-places.ensures c.number_count.ensures c.in_ok-faces.ensures c.in_ok-home.ensures))
    (shaped sheet c.requires (c.opening_tables_are_sound.ensures.homes sheet c.requires))
