use Rattle.std.proofs.Common.{◌≡◌, map, flat_map, take}
use Rattle.rc_play_spec.specs.Shape as play
use Rattle.rc_ast.specs.Sheet.{sheet_seen}
use Rattle.rc_ast.specs.Names.{loc_name_seen}
use Rattle.rc_table.specs.Places.{place_seen}
use Rattle.rc_rules.proofs.shape.place_list.Given as goal

abbrev pub invariant-loop-name : goal.invariant-loop-name
invariant-loop-name l =
    map place_seen l.list.items ≡ flat_map (play.places_of (sheet_seen l.sheet)) (map loc_name_seen (take l.name-index l.name-items))
